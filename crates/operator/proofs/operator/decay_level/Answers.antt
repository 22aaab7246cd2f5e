-- `decay_level` is the definition's sum.
-- Assumes nothing.
use mathlib.Core.Path.{refl}
use lib.Ieee.{of_bits}
use Rattle.operator.specs.Lanes.{decay_level}
use Rattle.operator.proofs.operator.decay_level.Goals as goal

pub returns : goal.returns
unfolding decay_level of_bits
returns c = refl
