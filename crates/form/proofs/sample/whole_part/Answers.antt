-- `whole_part` makes the casts and the test of the laws of `NearBits`, one law for each return. Assumes nothing.
use native.Mathlib.Omega.{arith}
use lib.Ieee.{of_bits}
use Rattle.form.proofs.Whole.{near_bits_is}
use Rattle.form.proofs.sample.whole_part.Goals as goal

pub float_to_bits-near : goal.float_to_bits-near
unfolding of_bits
float_to_bits-near c = (near_bits_is c.args.x c.requires.from_zero c.requires.within_16_bits).whole

pub int_to_float-near : goal.int_to_float-near
unfolding of_bits
int_to_float-near c = (near_bits_is c.args.x c.requires.from_zero c.requires.within_16_bits).small

pub overflow_sub-result : goal.overflow_sub-result
unfolding of_bits
overflow_sub-result c = omega (arith, (near_bits_is c.args.x c.requires.from_zero c.requires.within_16_bits).larger c.if-x-near.true)

pub returns-then-x-near : goal.returns-then-x-near
unfolding of_bits
returns-then-x-near c = omega (arith, (near_bits_is c.args.x c.requires.from_zero c.requires.within_16_bits).larger c.if-x-near.true)

pub returns-else-x-near : goal.returns-else-x-near
unfolding of_bits
returns-else-x-near c = (near_bits_is c.args.x c.requires.from_zero c.requires.within_16_bits).not_larger c.if-x-near.false
