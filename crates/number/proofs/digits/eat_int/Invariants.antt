-- `eat_int` keeps a `Reading`: the digits passed make the value, and what is left of the run makes the rest of it.
-- Assumes nothing.
use Rattle.number.proofs.Runs.{Reading}
use Rattle.number.proofs.digits.eat_int.Given as goal

abbrev pub invariant-loop-at : goal.invariant-loop-at
invariant-loop-at l = Reading l.limit l.s l.fn.i l.at l.value
