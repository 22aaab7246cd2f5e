-- `main` is safe and ends. The measure is how many turns are left. Assumes nothing.
use native.Mathlib.Omega.{arith}
use Rattle.ask_engine.proofs.main.Given as goal

abbrev pub decreases-loop-turns : goal.decreases-loop-turns
decreases-loop-turns l = l.turns
