-- `all_lanes` tests one lane after the other. Assumes nothing.
use Rattle.sine.specs.Lanes.{AllPass}
use Rattle.sine.proofs.lanes.all_lanes.Given as goal

abbrev pub invariant-loop-lane : goal.invariant-loop-lane
invariant-loop-lane g l = (none : _) → AllPass (goal.F-post g l.test) none l.lane-index l.lanes l.all
