-- `work` does what `work_front` left, lane by lane, at the time of each. Assumes nothing.
use Rattle.operator.specs.Lanes.{Lanes, worked_at}
use Rattle.operator.proofs.operator.Operator.work.Given as goal

abbrev pub invariant-loop-j : goal.invariant-loop-j
invariant-loop-j l = Lanes (worked_at l.table l.self l.f l.d l.times) l.j l.fn.values l.values
