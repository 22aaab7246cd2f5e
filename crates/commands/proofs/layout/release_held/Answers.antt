-- `release_held` is `release_of` of the lines that the columns hold. Assumes nothing.
use mathlib.Core.Path.{◌∙◌}
use Rattle.commands.proofs.Laying.{most_fits, release_is}
use Rattle.commands.proofs.layout.release_held.Goals as goal

pub release_of-requires : goal.release_of-requires
release_of-requires c = (most_fits _ _ _ _ c.held-lines.ensures).1.0

pub returns : goal.returns
returns c = c.release_of.ensures c.args.shape.now ∙ release_is _ _ _ _ c.held-lines.ensures
