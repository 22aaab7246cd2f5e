-- `run` keeps a `RunningLanes`: what is left of the commands, run from the lanes' state, gives what all of them give.
-- Assumes nothing.
use lib.ListN.{length}
use Rattle.instrument.proofs.Running.{RunningLanes}
use Rattle.instrument.proofs.machine.Instrument.run.Given as goal

abbrev pub invariant-loop-slot : goal.invariant-loop-slot
invariant-loop-slot l = RunningLanes l.table l.f l.d l.self l.times (length l.fn.values) l.slot-index l.depth l.values l.counts l.saved
