-- `released` is the definition's two cases; 0.0 / 0.0 is no number. Assumes nothing.
use lib.Ieee.{of_bits}
use borrow.Author.Rules.{rules}
use Rattle.handed.proofs.check.released.Goals as goal

pub returns-else-known : goal.returns-else-known
unfolding of_bits
returns-else-known c = search rules
