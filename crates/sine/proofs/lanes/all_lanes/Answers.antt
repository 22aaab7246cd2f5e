-- `all_lanes` tests one lane after the other. Assumes nothing.
use Rattle.std.proofs.Common.{arith}
use Rattle.sine.proofs.LaneLaws.{all_none, all_more, all_to}
use Rattle.sine.proofs.lanes.all_lanes.Goals as goal

pub loop-lane-init : goal.loop-lane-init
loop-lane-init g c = λ none. all_none _ none _

pub loop-lane-preserved : goal.loop-lane-preserved
loop-lane-preserved g c =
    let l = c.loop-lane in
    λ none. all_more _ none _ l.lane-index l.all _ c.lane-item.result c.loop-lane-test.true (l.invariant none) c.lane-item.is c.test-all.ensures

pub returns : goal.returns
returns g c = λ none. all_to _ none _ c.loop-lane.lane-index _ _ (omega arith) (c.loop-lane.invariant none)
