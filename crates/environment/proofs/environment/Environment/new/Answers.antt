-- `new` has the values of the definition, 0.5 by its bits. Assumes nothing.
use mathlib.Core.Path.{refl}
use lib.Ieee.{of_bits}
use Rattle.environment.specs.Environment.{at_the_start}
use Rattle.environment.proofs.environment.Environment.new.Goals as goal

pub returns : goal.returns
unfolding at_the_start of_bits
returns c = refl
