-- `walk` reads a run of parts' lines and then a line that names no part; what is left gives the same end throughout. Assumes nothing.
use Prim.Native.Nat.{◌-◌}
use lib.ListN.{length}
use Rattle.lines.specs.Lines.{lines_of}
use Rattle.meaning.specs.Sheets.{nothing_read, lines_read}
use Rattle.parser.specs.Columns.{place_column, tables_in}
use Rattle.parser.specs.Walks.{Walking}
use Rattle.parser.proofs.walk.walk.Given as goal

abbrev pub invariant-loop-r : goal.invariant-loop-r
invariant-loop-r l =
    Walking l.mode l.rate l.source (lines_read l.mode l.rate 0 1 (lines_of l.source) nothing_read) (place_column l.loops) l.r l.floats l.bytes l.loops (tables_in l.bodies l.numbers l.shape)

abbrev pub decreases-loop-r : goal.decreases-loop-r
decreases-loop-r l = length l.source - l.r.at
