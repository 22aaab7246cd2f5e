-- `macro_step` has the line read into the tables, or refuses. Assumes nothing.
use mathlib.Core.Path.{refl, ap, ◌∙◌}
use Prim.Native.Nat.{ℕ, ◌+◌, ◌≤◌}
use native.Mathlib.Omega.{arith}
use lib.ListN.{length}
use Rattle.parser.specs.declared.sofar.Sofar.{Sofar}
use Rattle.parser.specs.Columns.{passed_to, refused_at}
use Rattle.parser.proofs.Macros.{macros_back, column_refuses, column_goes}
use Rattle.sheet.specs.Numbers.{number_of}
use Rattle.parser.proofs.Numbers.{refusal_some}
use Rattle.parser.proofs.Going.{goes_as, line_small}
use Rattle.parser.proofs.steps.macro_step.Goals as goal

pub slice_bounds-names-start : goal.slice_bounds-names-start
slice_bounds-names-start c = let z : 2048 ≤ 2176 = omega arith in z

pub slice_bounds-names-end : goal.slice_bounds-names-end
slice_bounds-names-end c =
    let z : 2176 ≤ length c.args.shape.now = omega (arith, c.requires.1.1) in z

pub shape_of-bodies-in-Err : goal.shape_of-bodies-in-Err
shape_of-bodies-in-Err c = c.macro_line.auto.bodies

pub shape_of-shape-in-Err : goal.shape_of-shape-in-Err
shape_of-shape-in-Err c =
    macros_back c.args.shape.now c.requires.1.1 c.macro_line.new.names c.macro_line.auto.names

pub returns-in-Err : goal.returns-in-Err
returns-in-Err c places fs is ls xs w g =
    goes_as _ _ _ _ _ _ _ _ _ _ _ (c.refused.ensures ∙ ap (λ (number : ℕ). refused_at c.args.r number c.args.r.line) c.number.ensures)
    (column_refuses c.args.source.now places c.args.r fs is ls c.args.bodies.now xs c.args.shape.now c.args.end c.args.next (number_of c.in-Err.why) c.requires.0 w g c.macro_line.new.names c.macro_line.new.bodies c.in-Err.ensures.number _ (refusal_some c.in-Err.why))

pub passed-q-requires : goal.passed-q-requires
passed-q-requires c = line_small _ _ _ _ c.requires.0

pub shape_of-bodies : goal.shape_of-bodies
shape_of-bodies c = c.macro_line.auto.bodies

pub shape_of-shape : goal.shape_of-shape
shape_of-shape c =
    macros_back c.args.shape.now c.requires.1.1 c.macro_line.new.names c.macro_line.auto.names

pub returns : goal.returns
returns c places fs is ls xs w g =
    goes_as _ _ _ _ _ _ _ _ _ _ _
    (ap (λ (q : Sofar). passed_to q (q.macros + 1) q.instruments q.line q.at) c.passed-q.ensures)
    (column_goes c.args.source.now places c.args.r fs is ls c.args.bodies.now xs c.args.shape.now c.args.end c.args.next 0 c.requires.0 w g c.macro_line.new.names c.macro_line.new.bodies c.in_default.ensures.number c.macro_line.auto.names c.macro_line.auto.bodies refl c.in_default.ensures.names c.in_default.ensures.bodies)
