-- `table` is the list of the hundred frequencies: one computed test over all of it finds the bits of the power rule in each entry. Assumes nothing.
use lib.Ieee.{mul, div, round, fits, to_bits, of_bits}
use Rattle.tone.specs.Power.{frequency_of}
use Rattle.tone.proofs.Lookup.{tuned, passed}
use Rattle.tone.proofs.tuning.table.Goals as goal

pub returns : goal.returns
unfolding tuned frequency_of mul div round fits to_bits of_bits
returns c = passed 10 _ tt
