-- `work_front` takes the lanes' phases and levels first, and then does the rounds in those that have a level. Assumes nothing.
use Rattle.std.proofs.Common.{◌≡◌, ◌≤◌, ◌<◌, ℕ, length, take, get_or, le_refl, length-take, length-take-le, arith, rules}
use lib.Ieee.{Float, nan, of_bits}
use Rattle.sine.proofs.LaneLaws.{lanes_none, lanes_to, lanes_front}
use Rattle.operator.specs.Evaluation.{turn_at, two_pi}
use Rattle.operator.proofs.LaneLaws.{lanes_work, lanes_early}
use Rattle.operator.proofs.operator.Operator.work_front.Goals as goal

pub returns-then-times-lt-LEAST_LANES : goal.returns-then-times-lt-LEAST_LANES
returns-then-times-lt-LEAST_LANES c = record { within = omega arith; lanes = lanes_none _ nan _ }

pub returns : goal.returns
unfolding turn_at two_pi of_bits
returns c =
    let a = c.args in
    let xs = a.values.now in
    let most = c.min-most.result in
    let m = c.levels_lanes-m.result in
    let times = take most a.times.now in
    let e = c.min-most.ensures in
    let v = c.levels_lanes-m.ensures in
    let turns = c.each_lane.new.lanes in
    let within : m ≤ length xs = omega (arith, v.within, e, c.requires, length-take {A = Float}) in
    let turn : (j : ℕ) → j < length times → get_or turns j nan ≡ turn_at a.self a.f (get_or times j nan) =
    λ j l. (let k = (c.each_lane.ensures nan).done j (omega (arith, e, length-take {A = Float})) in search rules) in
    record {
      within = omega (arith, within, c.requires);
      lanes =
          lanes_early a.table.now a.self a.f a.d most a.times.now m xs _ (omega (arith, v.within, length-take {A = Float}))
          (lanes_work a.table.now a.self a.f a.d times c.levels_lanes-m.new.levels turns m xs _ v turn
          (lanes_front _ nan m m xs c.rounds_lanes.new.values (le_refl m) within (lanes_to _ nan (length (take m xs)) m _ _ (length-take-le m xs within) c.rounds_lanes.ensures)));
    }
