-- `release_level` is the definition's product.
-- Assumes nothing.
use mathlib.Core.Path.{refl}
use lib.Ieee.{of_bits}
use Rattle.operator.specs.Lanes.{release_level}
use Rattle.operator.proofs.operator.release_level.Goals as goal

pub returns : goal.returns
unfolding release_level of_bits
returns c = refl
