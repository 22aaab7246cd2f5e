-- `part_lines` reads one part's line after the other; what is left gives the same end throughout. Assumes nothing.
use Prim.Native.Nat.{◌-◌, ◌≤◌}
use lib.ListN.{length}
use Rattle.strict.specs.declared.mode.Mode.{Mode}
use Rattle.parser.specs.Columns.{place_column, tables_in}
use Rattle.parser.specs.Walks.{rest_read, Walking}
use Rattle.parser.proofs.runs.part_lines.Given as goal

abbrev pub invariant-loop-r : goal.invariant-loop-r
invariant-loop-r l =
    ((mode : Mode) → Walking mode l.rate l.source (rest_read mode l.rate l.source (place_column l.initial.loops) l.initial.r l.initial.floats l.initial.bytes l.initial.loops (tables_in l.bodies l.numbers l.shape)) (place_column l.loops) l.r l.floats l.bytes l.loops (tables_in l.bodies l.numbers l.shape)) × (l.initial.r.at ≤ l.r.at)

abbrev pub decreases-loop-r : goal.decreases-loop-r
decreases-loop-r l = length l.source - l.r.at
