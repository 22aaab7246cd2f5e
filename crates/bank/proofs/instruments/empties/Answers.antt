-- `empties` fills the array with one instrument. Assumes nothing.
use mathlib.Core.Path.{refl}
use Rattle.sheet.specs.Padding.{padded}
use Rattle.bank.proofs.instruments.empties.Goals as goal

pub returns : goal.returns
unfolding padded
returns c = refl
