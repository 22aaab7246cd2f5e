-- `part_end` goes through the notes: what it has as end, with the end of the rest, is the end of all. Assumes nothing.
use Rattle.std.proofs.Common.{take}
use Rattle.columns.proofs.Ends.{Ending}
use Rattle.columns.proofs.length.part_end.Given as goal

abbrev pub invariant-loop-i : goal.invariant-loop-i
invariant-loop-i l = Ending l.rate l.releases l.floats (take l.most l.instruments) l.i l.start l.end
