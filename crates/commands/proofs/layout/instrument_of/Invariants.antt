-- `instrument_of` lays the lines down from the last one up, and keeps `Laying`. Assumes nothing.
use Rattle.commands.proofs.Laying.{Laying}
use Rattle.commands.proofs.layout.instrument_of.Given as goal

abbrev pub invariant-loop-i : goal.invariant-loop-i
invariant-loop-i l = Laying l.most l.numbers l.shape l.i l.all
