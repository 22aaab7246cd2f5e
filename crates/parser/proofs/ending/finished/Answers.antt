-- `finished` keeps a line's refusal, asks for one of the end, and lays the rest out. Assumes nothing.
use mathlib.Core.Path.{refl, ap, ◌∙◌}
use Prim.Native.Nat.{ℕ, ◌+◌, ◌≤◌}
use native.Mathlib.Omega.{arith}
use lib.ListN.{length}
use Rattle.sheet.specs.Refusals.{refused}
use Rattle.meaning.specs.Layout.{laid_out}
use Rattle.layout.specs.Regions.{region}
use Rattle.parser.specs.Columns.{macro_column, name_column, release_column, tables_in}
use Rattle.parser.proofs.Closings.{finish_refused, finish_read}
use Rattle.parser.proofs.Pieces.{region_front}
use Rattle.parser.proofs.ending.finished.Goals as goal

pub returns-then-q-ne0 : goal.returns-then-q-ne0
returns-then-q-ne0 c s places ls bs w g = finish_refused _ s places _ _ _ ls _ _ c.if-q-ne0.true c.refused_reading.ensures

pub overflow_add-instruments : goal.overflow_add-instruments
overflow_add-instruments c = omega (arith, (c.requires c.if-q-ne0.false).0)

pub overflow_add-releases : goal.overflow_add-releases
overflow_add-releases c = omega (arith, (c.requires c.if-q-ne0.false).0)

pub slice_bounds-releases-start : goal.slice_bounds-releases-start
slice_bounds-releases-start c = let z : 6144 ≤ 6144 + (c.args.q.instruments + 1) = omega arith in z

pub slice_bounds-releases-end : goal.slice_bounds-releases-end
slice_bounds-releases-end c =
    let room = c.requires c.if-q-ne0.false in
    let z : 6144 + (c.args.q.instruments + 1) ≤ length c.args.numbers.now = omega (arith, room.0, room.1.0) in z

pub returns-in-Err : goal.returns-in-Err
returns-in-Err c s places ls bs w g =
    let a = c.args in
    let z = c.if-q-ne0.false in
    finish_read a.rate s places a.q a.floats.now a.bytes.now ls (tables_in bs a.numbers.now a.shape.now) c.refused_reading-in-Err.result _ z
    (c.in-Err.ensures s places ls (tables_in bs a.numbers.now a.shape.now) (w z)
    (region_front 32 192 a.numbers.now 6144 (a.q.instruments + 1) refl (omega (arith, (g z).instruments_few)) ∙ (g z).releases))
    (c.refused_reading-in-Err.ensures ∙ ap (λ (number : ℕ). laid_out (refused number 0)) c.number.ensures)

pub slice_bounds-laid-start : goal.slice_bounds-laid-start
slice_bounds-laid-start c = let z : 2240 ≤ 2272 = omega arith in z

pub slice_bounds-laid-end : goal.slice_bounds-laid-end
slice_bounds-laid-end c =
    let room = c.requires c.if-q-ne0.false in
    let z : 2272 ≤ length c.args.shape.now = omega (arith, room.1.1) in z

pub returns-in-Ok : goal.returns-in-Ok
unfolding region
returns-in-Ok c s places ls bs w g =
    let a = c.args in
    let z = c.if-q-ne0.false in
    finish_read a.rate s places a.q a.floats.now a.bytes.now ls (tables_in bs a.numbers.now a.shape.now) c.laid.result _ z
    (c.in-Ok.ensures s places ls (tables_in bs a.numbers.now a.shape.now) (w z)
    (region_front 32 192 a.numbers.now 6144 (a.q.instruments + 1) refl (omega (arith, (g z).instruments_few)) ∙ (g z).releases))
    (c.laid.ensures s places ls (macro_column a.shape.now) bs (name_column a.shape.now) (release_column a.numbers.now) (w z) (g z) refl)
