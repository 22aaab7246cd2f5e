-- `directive_step` reads the line and carries its change out, or refuses. Assumes nothing.
use mathlib.Core.Path.{ap, ◌∙◌}
use Prim.Native.Nat.{ℕ, ◌+◌}
use native.Mathlib.Omega.{arith}
use Rattle.parser.specs.declared.sofar.Sofar.{Sofar}
use Rattle.parser.specs.Columns.{passed_to, refused_at}
use Rattle.parser.proofs.Directives.{directive_refuses, directive_goes}
use Rattle.parser.proofs.Going.{lined, goes_as, line_small}
use Rattle.parser.proofs.steps.directive_step.Goals as goal

pub slice_bounds-read_directive-count : goal.slice_bounds-read_directive-count
slice_bounds-read_directive-count c = omega (arith, (lined _ _ _ _ c.requires).from)

pub slice_bounds-read_directive-start : goal.slice_bounds-read_directive-start
slice_bounds-read_directive-start c = (lined _ _ _ _ c.requires).from

pub slice_bounds-read_directive-end : goal.slice_bounds-read_directive-end
slice_bounds-read_directive-end c = (lined _ _ _ _ c.requires).within

pub returns-in-Err : goal.returns-in-Err
returns-in-Err c places fs is ls t w g =
    goes_as _ _ _ _ _ _ _ _ _ _ _ (c.refused.ensures ∙ ap (λ (number : ℕ). refused_at c.args.r number c.args.r.line) c.number.ensures)
    (directive_refuses _ _ places _ fs is ls t _ _ c.requires _ c.read_directive-d.ensures _ c.in-Err.is)

pub passed-requires : goal.passed-requires
passed-requires c =
    let small = line_small _ _ _ _ c.requires in
    omega (arith, small, ap (λ (q : Sofar). q.line) c.changed.ensures)

pub returns-in-Ok : goal.returns-in-Ok
returns-in-Ok c places fs is ls t w g =
    let b = c.changed.ensures in
    goes_as _ _ _ _ _ _ _ _ _ _ _ (c.passed.ensures ∙ ap (λ (q : Sofar). passed_to q q.macros q.instruments (q.line + 1) c.args.next) b)
    (directive_goes _ _ places _ fs is ls t _ _ c.requires _ c.read_directive-d.ensures _ c.in-Ok.is w g)
