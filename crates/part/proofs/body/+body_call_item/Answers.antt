-- The cycle of the reader of bodies: `body` keeps a `Running` walk, `item` counts a step, and `call` has one nested call less to go; three times the nesting
-- left and a place in the cycle fall. Assumes nothing.
use mathlib.Core.Path.{sym, ◌∙◌}
use Rattle.lines.proofs.Places.{between_cut, names_halved}
use Rattle.items.proofs.Starts.{item_there}
use Rattle.part.proofs.Doing.{written_call, done_as, does_call}
use Rattle.tables.proofs.Named.{macro_known, macro_unknown, macro_bodiless}
use Rattle.part.proofs.Running.{run_start, run_end, run_refused, run_more, items_none, items_stop, items_found, step_ready, step_none, step_some, call_unknown, call_deep, call_known}
use native.Mathlib.Omega.{arith}
use Prim.Native.Nat.{◌<◌, ◌+◌, ◌*◌, ◌-◌}
use Rattle.std.proofs.Common.{refl, rules}
use Rattle.part.proofs.body.+body_call_item.Goals as goal
use Rattle.part.proofs.body.+body_call_item.Goals.{call-then-macros-at-lt2-via-then-macros-at-lt2, call-then-macros-at-lt2-via-else-macros-at-lt2+then-bodies-at}

pub body-loop-s-init : goal.body-loop-s-init
body-loop-s-init t c = (run_start _ _ _ _ _ _ _ _ c.requires.ready, (refl, (refl, refl)))

pub body-returns-then-from-text-clause-becomes : goal.body-returns-then-from-text-clause-becomes
body-returns-then-from-text-clause-becomes t c =
    run_end _ _ _ _ _ _ _ _ _ _ _ _ _ c.loop-s.invariant.0 (items_none _ _ _ c.blanks_end-from.ensures c.if-from-text.true)

pub body-returns-then-text-from-eq59-clause-becomes : goal.body-returns-then-text-from-eq59-clause-becomes
body-returns-then-text-from-eq59-clause-becomes t c =
    run_end _ _ _ _ _ _ _ _ _ _ _ _ _ c.loop-s.invariant.0 (items_stop _ _ _ c.blanks_end-from.ensures c.if-from-text.false c.if-text-from-eq59.true)

pub body-item-s-requires : goal.body-item-s-requires
body-item-s-requires t c =
    let m : 3 * c.args.nest + 1 < t = omega (arith, c.decreases) in
    let w = c.item_at-found.ensures.onward c.if-from-text.false in
    (m, (c.loop-s.invariant.0.ready, (c.requires.few_releases, (omega (arith, w.0), w.1))))

pub body-returns-then-s-ne0-clause-becomes : goal.body-returns-then-s-ne0-clause-becomes
body-returns-then-s-ne0-clause-becomes t c =
    run_refused _ _ _ _ _ _ _ _ _ _ _ _ _ c.loop-s.invariant.0 _ c.item_at-found.result.next (items_found _ _ _ c.blanks_end-from.ensures c.if-from-text.false c.if-text-from-eq59.false _ (c.item_at-found.ensures.meant ∙ item_there _ _ c.if-from-text.false) (c.item_at-found.ensures.onward c.if-from-text.false).0) _ _ _ _ c.item-s.ensures.becomes c.if-s-ne0.true

pub body-loop-s-smaller : goal.body-loop-s-smaller
body-loop-s-smaller t c =
    let w = c.item_at-found.ensures.onward c.if-from-text.false in
    omega (arith, w.0, w.1, c.blanks_end-from.ensures, c.if-from-text.false)

pub body-loop-s-preserved : goal.body-loop-s-preserved
body-loop-s-preserved t c = (
  run_more _ _ _ _ _ _ _ _ _ _ _ _ _ c.loop-s.invariant.0 _ _ (items_found _ _ _ c.blanks_end-from.ensures c.if-from-text.false c.if-text-from-eq59.false _ (c.item_at-found.ensures.meant ∙ item_there _ _ c.if-from-text.false) (c.item_at-found.ensures.onward c.if-from-text.false).0) _ _ _ _ c.item-s.ensures.becomes c.if-s-ne0.false,
  search rules,
)

pub call-returns-then-macros-at-lt2-clause-becomes : goal.call-returns-then-macros-at-lt2-clause-becomes
call-returns-then-macros-at-lt2-clause-becomes t c =
    rw c.refused.ensures
    (elim c.then-macros-at-lt2.branch [
      | call-then-macros-at-lt2-via-then-macros-at-lt2 w ↦
          call_unknown _ _ _ _ _ _ _ _ c.requires.ready
          (macro_unknown c.args.book.now.source.now c.args.name.now c.args.book.now.macros.now c.args.book.now.bodies.now _ c.place_named-place.ensures.meant
          (omega (arith, w.if-macros-at-lt2.true, (names_halved c.args.book.now.source.now c.args.book.now.macros.now).low)))
      | call-then-macros-at-lt2-via-else-macros-at-lt2+then-bodies-at w ↦
          call_unknown _ _ _ _ _ _ _ _ c.requires.ready
          (macro_bodiless c.args.book.now.source.now c.args.name.now c.args.book.now.macros.now c.args.book.now.bodies.now _ c.place_named-place.ensures.meant w.if-bodies-at.true)
    ])

pub call-returns-then-nest-eq0-clause-becomes : goal.call-returns-then-nest-eq0-clause-becomes
call-returns-then-nest-eq0-clause-becomes t c =
    rw c.refused-then-nest-eq0.ensures
    (call_deep _ _ _ _ _ _ _ _ c.requires.ready _ (macro_known c.args.book.now.source.now c.args.name.now c.args.book.now.macros.now c.args.book.now.bodies.now _ c.place_named-place.ensures.meant (omega (arith, c.if-macros-at-lt2.false, (names_halved c.args.book.now.source.now c.args.book.now.macros.now).high)) (omega (arith, c.if-bodies-at.false))) c.if-nest-eq0.true)

pub call-body-requires : goal.call-body-requires
call-body-requires t c =
    let m : 3 * (c.args.nest - 1) + 2 < t = omega (arith, c.decreases, c.if-nest-eq0.false) in
    (m, (c.requires.ready, c.requires.few_releases))

pub call-returns-clause-becomes : goal.call-returns-clause-becomes
call-returns-clause-becomes t c =
    call_known _ _ _ _ _ _ _ _ c.requires.ready _ (macro_known c.args.book.now.source.now c.args.name.now c.args.book.now.macros.now c.args.book.now.bodies.now _ c.place_named-place.ensures.meant (omega (arith, c.if-macros-at-lt2.false, (names_halved c.args.book.now.source.now c.args.book.now.macros.now).high)) (omega (arith, c.if-bodies-at.false))) c.if-nest-eq0.false _ (between_cut _ _ _ _ _ c.min-to.ensures c.min-from.ensures) _ _ _ _ c.body.ensures.becomes

pub item-returns-then-steps-ge-STEPS-clause-becomes : goal.item-returns-then-steps-ge-STEPS-clause-becomes
item-returns-then-steps-ge-STEPS-clause-becomes t c = rw c.refused.ensures (step_none _ _ _ _ _ _ _ _ c.requires.ready c.if-steps-ge-STEPS.true)

pub item-call-requires : goal.item-call-requires
item-call-requires t c =
    let m : 3 * c.args.nest < t = omega (arith, c.decreases) in
    (m, (step_ready _ _ _ _ c.requires.ready, c.requires.few_releases))

pub item-returns-then-is_call-clause-becomes : goal.item-returns-then-is_call-clause-becomes
item-returns-then-is_call-clause-becomes t c =
    step_some _ _ _ _ _ _ _ _ c.requires.ready c.if-steps-ge-STEPS.false _ _ _ _
    (done_as _ _ _ _ _ _ _ _ _ _ _ _ _ (written_call _ _ _ _ (sym c.is_call.ensures ∙ c.if-is_call.true)) (does_call _ _ _ _ _ _ _ _ _ _ _ _ c.call.ensures.becomes))

pub item-returns-clause-becomes : goal.item-returns-clause-becomes
item-returns-clause-becomes t c =
    step_some _ _ _ _ _ _ _ _ c.requires.ready c.if-steps-ge-STEPS.false _ _ _ _ (c.done.ensures.becomes _ _)
