-- `release_at` reads within the table, and past its end answers NaN. Assumes nothing.
use Rattle.std.proofs.Common.{rules}
use lib.Ieee.{of_bits}
use Rattle.columns.proofs.length.release_at.Goals as goal

pub returns : goal.returns
unfolding of_bits
returns c = search rules
