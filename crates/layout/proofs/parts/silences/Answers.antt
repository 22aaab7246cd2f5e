-- `silences` fills the array with notes that say nothing. Assumes nothing.
use mathlib.Core.Path.{refl}
use lib.Ieee.{of_bits}
use Rattle.sheet.specs.Padding.{padded}
use Rattle.layout.proofs.parts.silences.Goals as goal

pub returns : goal.returns
unfolding padded of_bits
returns c = refl
