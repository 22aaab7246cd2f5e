-- `by_power` goes by the sign of the exponent: each branch is one law of the definition, and the constant's bits are those of its step.
-- Assumes nothing.
use lib.Ieee.{of_bits, round}
use Rattle.tone.specs.Power.{step}
use Rattle.tone.proofs.Powers.{frequency_below, frequency_from}
use Rattle.tone.proofs.power.by_power.Goals as goal

pub returns-then-s-lt-A4 : goal.returns-then-s-lt-A4
unfolding of_bits round step
returns-then-s-lt-A4 c = rw c.power.ensures (frequency_below _ c.if-s-lt-A4.true)

pub returns : goal.returns
unfolding of_bits round step
returns c = rw c.power-2.ensures (frequency_from _ c.if-s-lt-A4.false)
