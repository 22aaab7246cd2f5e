-- What a write took comes behind what was taken before. Assumes nothing.
use Rattle.std.proofs.Common.{rules}
use Rattle.system.proofs.Known.{Appends-next}
use Rattle.system.proofs.output.write_part.Goals as goal

pub loop-done-preserved : goal.loop-done-preserved
loop-done-preserved g c =
    (search rules, Appends-next _ _ _ _ _ _ c.loop-done.invariant.1 c.in_ok-n.ensures.bytes)
