-- `loops::count::last_count` meets its contract: a loop without a cut plays all, another the notes before it. Assumes nothing.
use Rattle.std.proofs.Common.{arith}
use Rattle.loops.proofs.KeptCounts.{last_all, last_before}
use Rattle.loops.proofs.count.last_count.Goals as goal

pub returns-in-None : goal.returns-in-None
returns-in-None c = last_all _ _ _ (omega (arith, c.in-None.ensures))

pub returns-in-Some : goal.returns-in-Some
returns-in-Some c = last_before _ _ _ _ (omega (arith, c.in-Some.ensures)) (omega (arith, c.in-Some.ensures))
