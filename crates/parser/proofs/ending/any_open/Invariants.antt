-- `any_open` goes through the parts until a loop is open. Assumes nothing.
use Rattle.parser.proofs.Closings.{Shut}
use Rattle.parser.proofs.ending.any_open.Given as goal

abbrev pub invariant-loop-k : goal.invariant-loop-k
invariant-loop-k l = Shut l.depths l.k-end l.k
