-- `levels_lanes` goes lane by lane where they are in several stages. Assumes nothing.
use Rattle.operator.specs.Lanes.{Levelled}
use Rattle.operator.proofs.operator.Operator.levels_lanes.Given as goal

abbrev pub invariant-loop-j : goal.invariant-loop-j
invariant-loop-j l = Levelled l.self l.d l.times l.levels l.j
