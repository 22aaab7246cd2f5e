-- `position_down` is the quotient of the law `position_narrow`, worked out by `phase`. Assumes nothing.
use Rattle.std.proofs.Common.{◌∙◌}
use Rattle.sine.proofs.LaneLaws.{position_narrow}
use Rattle.sine.specs.Phase.{position_of}
use Rattle.sine.specs.Turn.{C}
use Rattle.sine.proofs.lanes.position_down.Goals as goal

pub returns : goal.returns
unfolding C position_of
returns c = c.phase.ensures ∙ position_narrow c.args.bits c.args.down c.requires.0 c.requires.1
