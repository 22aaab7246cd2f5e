-- `main` is safe and ends. Nothing has to hold from turn to turn: the table stays as it was made. The measure is how many turns are
-- left. Assumes nothing.
use Rattle.ask_numbers.proofs.main.Given as goal

abbrev pub decreases-loop-turns : goal.decreases-loop-turns
decreases-loop-turns l = l.turns
