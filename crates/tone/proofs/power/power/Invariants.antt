-- `power` keeps the value that the definition still has to make of what is left of the exponent: one turn takes its lowest digit.
-- Assumes nothing.
use Rattle.std.proofs.Common.{◌≡◌, ◌^◌, ◌<◌}
use Rattle.tone.specs.Power.{bits, power_from, power_of}
use Rattle.tone.proofs.power.power.Given as goal

abbrev pub invariant-loop-left : goal.invariant-loop-left
invariant-loop-left l = (l.left < 2 ^ 32) × (power_from l.r l.q (bits 32 l.left) ≡ power_of l.x l.n)

abbrev pub decreases-loop-left : goal.decreases-loop-left
decreases-loop-left l = l.left
