-- `part::open_loops::closed` meets its contract, one law for each exit. That the notes fit, as the code asks by a division, is `room_fits`.
-- Assumes nothing.
use mathlib.Core.Path.{refl, sym, ◌∙◌}
use native.Mathlib.Omega.{arith}
use Rattle.part.proofs.Closing.{close_outside, close_uncounted, close_past, close_full, close_room, room_fits}
use Rattle.part.proofs.open_loops.closed.Goals as goal

pub returns-then-d-eq0 : goal.returns-then-d-eq0
returns-then-d-eq0 c book =
    rw c.refused.ensures (close_outside c.args.st _ _ _ c.requires.1.0 c.requires.1.1 book _ _ c.if-d-eq0.true)

pub returns-then-passes-eq0 : goal.returns-then-passes-eq0
returns-then-passes-eq0 c book =
    rw c.refused-then-passes-eq0.ensures
    (close_uncounted c.args.st _ _ _ c.requires.1.0 c.requires.1.1 book _ _ (omega (arith, c.if-d-eq0.false))
    (sym c.times_of-passes.ensures ∙ c.if-passes-eq0.true))

pub returns-then-start-n : goal.returns-then-start-n
returns-then-start-n c book =
    close_past c.args.st _ _ _ c.requires.1.0 c.requires.1.1 book _ _ (omega (arith, c.if-d-eq0.false)) c.requires.0
    (omega (arith, c.times_of-passes.ensures, c.if-passes-eq0.false)) c.if-start-n.true

pub returns-then-further-room : goal.returns-then-further-room
returns-then-further-room c book =
    rw c.refused-then-further-room.ensures
    (close_full c.args.st _ _ _ c.requires.1.0 c.requires.1.1 book _ _ (omega (arith, c.if-d-eq0.false)) _ _
    c.times_of-passes.ensures (omega (arith, c.if-passes-eq0.false)) c.if-start-n.false
    c.last_count-last.ensures.0 c.last_count-last.ensures.1
    c.if-further-room.true)

pub overflow_mul-end : goal.overflow_mul-end
overflow_mul-end c =
    let fits =
    room_fits _ _ _ _ _ c.if-start-n.false c.last_count-last.ensures.1
    c.requires.1.0.few c.if-further-room.false in
    omega arith

pub overflow_add-end : goal.overflow_add-end
overflow_add-end c =
    let fits =
    room_fits _ _ _ _ _ c.if-start-n.false c.last_count-last.ensures.1
    c.requires.1.0.few c.if-further-room.false in
    omega arith

pub overflow_add-end-2 : goal.overflow_add-end-2
overflow_add-end-2 c =
    let fits =
    room_fits _ _ _ _ _ c.if-start-n.false c.last_count-last.ensures.1
    c.requires.1.0.few c.if-further-room.false in
    omega arith

pub overflow_mul-end-2 : goal.overflow_mul-end-2
overflow_mul-end-2 c =
    let fits =
    room_fits _ _ _ _ _ c.if-start-n.false c.last_count-last.ensures.1
    c.requires.1.0.few c.if-further-room.false in
    omega arith

pub returns : goal.returns
returns c book =
    close_room c.args.st _ _ _ c.requires.1.0 c.requires.1.1 book _ _ (omega (arith, c.if-d-eq0.false)) _ _
    c.times_of-passes.ensures (omega (arith, c.if-passes-eq0.false)) c.if-start-n.false
    c.last_count-last.ensures.0 c.last_count-last.ensures.1
    c.if-further-room.false c.requires.0 _ refl _ _ c.repeat.ensures c.repeat-2.ensures
