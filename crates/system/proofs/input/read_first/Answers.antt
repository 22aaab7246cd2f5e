-- What was read comes behind what was read before: to the end of the input, or of the buffer. Assumes nothing.
use Rattle.std.proofs.Common.{rules}
use Rattle.system.proofs.Known.{Consumes-next}
use Rattle.system.proofs.input.read_first.Goals as goal

pub loop-done-preserved : goal.loop-done-preserved
loop-done-preserved g c =
    (search rules, search rules, Consumes-next _ _ _ _ _ _ _ _ (search rules) (search rules) c.loop-done.invariant.2 c.in-Ok.ensures.bytes.0, search rules)
