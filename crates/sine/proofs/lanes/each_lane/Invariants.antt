-- `each_lane` gives one lane after the other what `f` makes of it. Assumes nothing.
use Rattle.sine.specs.Lanes.{LanesBy}
use Rattle.sine.proofs.lanes.each_lane.Given as goal

abbrev pub invariant-loop-j : goal.invariant-loop-j
invariant-loop-j g l = (none : _) → LanesBy (goal.F-post g l.f) none l.j l.initial.lanes l.lanes
