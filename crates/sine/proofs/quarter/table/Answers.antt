-- `table` gives the table of the definition: the two lists of numbers are one list, entry by entry.
-- Assumes nothing.
use mathlib.Core.Path.{refl}
use Rattle.sine.specs.Quarter.{quarter}
use Rattle.sine.proofs.quarter.table.Goals as goal

pub returns : goal.returns
unfolding quarter
returns c = refl
