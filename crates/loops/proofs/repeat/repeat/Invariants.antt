-- `loops::repeat::repeat` meets its contract. The loop keeps `Repeating`: up to the place of the next element the column is what
-- it is to be, and from there on what it was. Assumes nothing.
use Rattle.loops.proofs.Repeats.{Repeating}
use Rattle.loops.proofs.repeat.repeat.Given as goal

abbrev pub invariant-loop-to : goal.invariant-loop-to
invariant-loop-to g l = Repeating l.initial.xs l.start l.n l.end l.xs l.to
