-- `header_step` has the header read into the table and the operator lines into their regions, or refuses. Assumes nothing.
use mathlib.Core.Path.{refl, ap, ◌∙◌}
use Prim.Native.Nat.{ℕ, ◌+◌, ◌≤◌}
use native.Mathlib.Omega.{arith}
use lib.ListN.{length}
use Rattle.parser.specs.Columns.{refused_at}
use Rattle.sheet.specs.Numbers.{number_of}
use Rattle.parser.proofs.Numbers.{refusal_some}
use Rattle.parser.proofs.Going.{goes_as, line_small}
use Rattle.parser.proofs.Headers.{header_few, names_long, names_back, column_refuses, column_block_refuses, column_goes}
use Rattle.parser.proofs.header.header_step.Goals as goal

pub overflow_add-i : goal.overflow_add-i
overflow_add-i c = omega (arith, c.requires.1.0)

pub slice_bounds-names-start : goal.slice_bounds-names-start
slice_bounds-names-start c = let z : 2176 ≤ 2240 = omega arith in z

pub slice_bounds-names-end : goal.slice_bounds-names-end
slice_bounds-names-end c =
    let z : 2240 ≤ length c.args.shape.now = omega (arith, c.requires.1.1.1) in z

pub shape_of-shape-in-Err : goal.shape_of-shape-in-Err
shape_of-shape-in-Err c =
    names_back c.args.shape.now c.requires.1.1.1 c.header_line.new.names c.header_line.auto.names

pub returns-in-Err : goal.returns-in-Err
returns-in-Err c places fs is ls bs w g =
    goes_as _ _ c.args.source.now places c.args.r c.refused.result (refused_at c.args.r (number_of c.in-Err.why) c.args.r.line) fs is ls _ (c.refused.ensures ∙ ap (λ (number : ℕ). refused_at c.args.r number c.args.r.line) c.number.ensures)
    (column_refuses c.args.mode c.args.source.now places c.args.r fs is ls bs c.args.numbers.now c.args.shape.now c.args.end c.args.next (number_of c.in-Err.why) c.requires.0 w g (c.in-Err.ensures.number c.args.r.line) _ (refusal_some c.in-Err.why))

pub kept-b-requires : goal.kept-b-requires
kept-b-requires c =
    let l = c.requires.1.1 in (
      header_few c.args.source.now c.args.r _ c.args.end c.args.next 0 c.requires.0 c.requires.1.0 (names_long c.args.shape.now l.1) (c.in_default.ensures.number c.args.r.line) refl,
      (l.0, names_back c.args.shape.now l.1 c.header_line.new.names c.header_line.auto.names ∙ l.1),
    )

pub overflow_add-line : goal.overflow_add-line
overflow_add-line c = omega (arith, line_small _ _ _ _ c.requires.0)

pub overflow_add-line-2 : goal.overflow_add-line-2
overflow_add-line-2 c = omega (arith, line_small _ _ _ _ c.requires.0, c.kept-b.ensures.block.few)

pub shape_of-numbers-in-Some : goal.shape_of-numbers-in-Some
shape_of-numbers-in-Some c = c.kept-b.auto.numbers

pub shape_of-shape-in-Some : goal.shape_of-shape-in-Some
shape_of-shape-in-Some c =
    c.kept-b.auto.shape ∙ names_back c.args.shape.now c.requires.1.1.1 c.header_line.new.names c.header_line.auto.names

pub returns-in-Some : goal.returns-in-Some
returns-in-Some c places fs is ls bs w g =
    goes_as _ _ c.args.source.now places c.args.r c.refused-in-Some.result (refused_at c.args.r (number_of c.in-Some.why) (c.args.r.line + 1 + c.kept-b.result.count)) fs is ls _ (c.refused-in-Some.ensures ∙ ap (λ (number : ℕ). refused_at c.args.r number (c.args.r.line + 1 + c.kept-b.result.count)) c.number-in-Some.ensures)
    (column_block_refuses c.args.mode c.args.source.now places c.args.r fs is ls bs c.args.numbers.now c.args.shape.now c.args.end c.args.next 0 c.requires.0 w g (c.in_default.ensures.number c.args.r.line) refl
    c.header_line.new.names c.header_line.auto.names c.kept-b.result c.kept-b.new.numbers c.kept-b.new.shape c.kept-b.ensures _ _ c.in-Some.is)

pub shape_of-numbers : goal.shape_of-numbers
shape_of-numbers c = c.kept-b.auto.numbers

pub shape_of-shape : goal.shape_of-shape
shape_of-shape c =
    c.kept-b.auto.shape ∙ names_back c.args.shape.now c.requires.1.1.1 c.header_line.new.names c.header_line.auto.names

pub returns : goal.returns
returns c places fs is ls bs w g =
    column_goes c.args.mode c.args.source.now places c.args.r fs is ls bs c.args.numbers.now c.args.shape.now c.args.end c.args.next 0 c.requires.0 w g (c.in_default.ensures.number c.args.r.line) refl
    c.header_line.new.names c.header_line.auto.names c.kept-b.result c.kept-b.new.numbers c.kept-b.new.shape c.kept-b.ensures c.in_default-refusal.is c.kept-b.auto.numbers
    (c.kept-b.auto.shape ∙ names_back c.args.shape.now c.requires.1.1.1 c.header_line.new.names c.header_line.auto.names) (c.in_default.ensures.names c.args.r.line)
