use Rattle.refusal.proofs.line.+add_number.Given as goal

-- the number falls to its tenth part at each call
abbrev pub decreases-add_number : goal.decreases-add_number
decreases-add_number l = l.n
