-- `stored` is the definition's choice, one case for each sign. Assumes nothing.
use Rattle.std.proofs.Common.{sym, arith}
use lib.Ieee.{of_bits}
use Rattle.form.proofs.Scaled.{stored_of_below, stored_of_above}
use Rattle.form.proofs.sample.stored.Goals as goal

pub returns-then-p : goal.returns-then-p
unfolding of_bits
returns-then-p c = sym (stored_of_below c.args.n c.args.p c.if-p.true)

pub returns-else-p : goal.returns-else-p
unfolding of_bits
returns-else-p c = omega (arith, stored_of_above c.args.n c.args.p c.if-p.false)
