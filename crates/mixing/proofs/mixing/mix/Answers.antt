-- `mix` walks the parts and notes: each turn mixes one note, and what is still to come makes the rest (`Walk`). Assumes nothing.
use Rattle.std.proofs.Common.{◌≡◌, ℕ, ◌+◌, ◌-◌, ◌≤◌, min, length, get_or, refl, sym, ap, ◌∙◌, arith}
use lib.Ieee.{nan}
use Rattle.instrument.specs.declared.machine.Instrument.{Instrument}
use Rattle.sheet.specs.Parts.{instruments_of}
use Rattle.sheet.specs.declared.note.Note.{Note}
use Rattle.mixing.specs.Placing.{nobody, player_of, sounds_of, placed_note, placed}
use Rattle.mixing.specs.Mixing.{mix_one}
use Rattle.mixing.proofs.Pieces.{note_none, note_sounds, note_reach}
use Rattle.mixing.proofs.Players.{player_sounds, player_is}
use Rattle.mixing.proofs.Walk.{going_start, going_same, going_end, at_note, sheet_begins, part_done, parts_end, note_step}
use Rattle.mixing.proofs.mixing.mix.Goals as goal
use Rattle.mixing.proofs.mixing.mix.Goals.{then-a-e, else-a-e}

-- what a read of the notes has past them
abbrev no_note : Note
no_note = record { amplitude = nan; frequency = nan; duration = nan; instrument = 0 }

pub loop-p-init : goal.loop-p-init
loop-p-init c =
    (omega arith, going_same (sheet_begins c.args.rate c.min-parts.result c.args.sheet (omega (arith, c.well_formed.0.1.1.1.0.1.0.1, c.min-parts.ensures))) going_start)

pub loop-k-init : goal.loop-k-init
loop-k-init c = (omega arith, going_start)

pub mix_note-requires : goal.mix_note-requires
mix_note-requires c =
    let s = c.args.sheet in
    let rate = c.args.rate in
    let note = get_or s.notes c.loop-k.k no_note in
    let who = get_or s.table c.min-place.result nobody in
    let heard = c.samples-sounds.result in
    let has = c.min-instruments.ensures ∙ ap (min s.instruments) (sym c.well_formed.0.1.1.1.1.1.1.0.1.0.1) in
    let at = c.min-place.ensures ∙ ap (λ (k : ℕ). min note.instrument (k - 1)) (sym c.well_formed.0.1.1.1.1.1.1.0.1.0.1) in
    let release = c.released-release.ensures in
    let sounds = player_sounds rate s.table s.instruments c.min-instruments.result note nobody c.min-place.result _ heard has release at c.samples-sounds.ensures.0 in
    let plays = player_is rate s.table s.instruments c.min-instruments.result note nobody c.min-place.result _ heard has release at c.samples-sounds.ensures.0 in
    let far = note_sounds c.loop-k.at heard c.args.from _ _ _ _ c.saturating_sub-a.ensures c.saturating_sub.ensures c.min-e.ensures c.if-a-e.true in (
      c.table-table.ensures,
      omega arith,
      c.saturating_sub-a.ensures,
      c.min-e.ensures
          ∙ note_reach c.loop-k.at heard (sounds_of rate who note) c.args.from c.saturating_sub.result (length c.loop-k.out) c.saturating_sub.ensures
          (sounds ∙ ap (λ (x : Instrument). sounds_of rate x note) (sym (plays far))),
      c.if-a-e.true,
    )

pub loop-k-preserved : goal.loop-k-preserved
loop-k-preserved c =
    let s = c.args.sheet in
    let rate = c.args.rate in
    let note = get_or s.notes c.loop-k.k no_note in
    let who = get_or s.table c.min-place.result nobody in
    let heard = c.samples-sounds.result in
    let has = c.min-instruments.ensures ∙ ap (min s.instruments) (sym c.well_formed.0.1.1.1.1.1.1.0.1.0.1) in
    let at = c.min-place.ensures ∙ ap (λ (k : ℕ). min note.instrument (k - 1)) (sym c.well_formed.0.1.1.1.1.1.1.0.1.0.1) in
    let release = c.released-release.ensures in
    let sounds = player_sounds rate s.table s.instruments c.min-instruments.result note nobody c.min-place.result _ heard has release at c.samples-sounds.ensures.0 in
    let plays = player_is rate s.table s.instruments c.min-instruments.result note nobody c.min-place.result _ heard has release at c.samples-sounds.ensures.0 in
    let l = c.loop-k in
    let o = c.loop-p in
    let stop = o.n + c.min.result in
    let there : stop ≤ length s.notes = omega (arith, c.well_formed.0.1.1.1.1.0.1.0.1) in
    let mixed : c.if-a-e.out ≡ mix_one l.covered (placed_note rate (player_of (instruments_of s) note) note l.at) c.args.from l.out = elim c.if-a-e.branch [
      | then-a-e w ↦ w.out-is ∙ w.mix_note.ensures
          ∙ ap (λ (x : Instrument). mix_one l.covered (placed_note rate x note l.at) c.args.from l.out)
          (plays (note_sounds l.at heard c.args.from _ _ _ _ c.saturating_sub-a.ensures c.saturating_sub.ensures c.min-e.ensures w.if-a-e.true))
      | else-a-e w ↦ w.out-is
          ∙ note_none l.covered rate (player_of (instruments_of s) note) note l.at heard c.args.from c.saturating_sub-a.result c.min-e.result l.out
          sounds c.saturating_sub-a.ensures (c.min-e.ensures ∙ ap (λ (k : ℕ). min k (length l.out)) c.saturating_sub.ensures) w.if-a-e.false
    ] in (
      omega (arith, c.samples-takes.ensures.1),
      note_step rate (instruments_of s) s.counts c.min-parts.result s.notes {from = c.args.from} {covered₀ = o.covered} {all = at_note rate (instruments_of s) s.counts c.min-parts.result s.notes o.p o.n stop 0} {out₀ = o.out} o.p l.k stop l.at note no_note l.covered l.out heard _ _ _ refl
          c.loop-k-test.true there c.samples-takes.ensures.0 sounds c.max-covered.ensures mixed l.invariant.1,
    )

pub loop-p-preserved : goal.loop-p-preserved
loop-p-preserved c =
    let s = c.args.sheet in
    let o = c.loop-p in
    let l = c.loop-k in
    let stop = o.n + c.min.result in
    let e : l.k ≡ stop = omega arith in (
      omega arith,
      rw (← e) (part_done c.args.rate (instruments_of s) s.counts c.min-parts.result s.notes {from = c.args.from} {covered₀ = 0} {all = placed c.args.rate s} {out₀ = c.args.out.now} 16 2048 s.parts c.well_formed.0.1.1.1.0.1.0.1 c.well_formed.0.1.1.1.1.0.1.0.1
          c.min-parts.ensures o.p o.n c.min.result l.k l.at o.covered l.covered o.out l.out c.loop-p-test.true o.invariant.0 c.min.ensures e o.invariant.1 l.invariant.1),
    )

pub returns : goal.returns
returns c =
    let s = c.args.sheet in
    let l = c.loop-p in
    let e : l.p ≡ c.min-parts.result = omega arith in
    going_end (going_same (parts_end c.args.rate (instruments_of s) s.counts _ s.notes l.p l.n e) l.invariant.1)
