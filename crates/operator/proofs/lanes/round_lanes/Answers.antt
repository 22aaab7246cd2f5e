-- `round_lanes` takes its three steps in all lanes, one after the other. Assumes nothing.
use Rattle.std.proofs.Common.{get_or, rules}
use lib.Ieee.{nan, binary32, add, mul}
use Rattle.sine.proofs.LaneLaws.{lanes_as}
use Rattle.operator.proofs.LaneLaws.{round_steps}
use Rattle.operator.proofs.lanes.round_lanes.Goals as goal

pub returns : goal.returns
returns c =
    let a = c.args in
    round_steps a.table.now a.amplitude a.levels.now a.turns.now a.values.now _ _ _
    (lanes_as _ (λ j x. add binary32 (get_or a.turns.now j nan) x) nan _ _ _ (λ j x y l k. search rules) (c.each_lane.ensures nan))
    c.sines_by.ensures
    (lanes_as _ (λ j y. mul binary32 (get_or a.levels.now j nan) (mul binary32 a.amplitude y)) nan _ _ _ (λ j x y l k. search rules) (c.each_lane-2.ensures nan))
