-- `value_after` has read the digits before its index: what is still to come of them makes the rest of the value. Assumes nothing.
use Rattle.std.proofs.Common.{◌≡◌, drop}
use Rattle.number.specs.Digits.{value_from}
use Rattle.number.proofs.digits.value_after.Given as goal

abbrev pub invariant-loop-b : goal.invariant-loop-b
invariant-loop-b l = value_from l.value (drop l.b-index l.digits) ≡ value_from l.v l.digits
