-- `rounds_lanes` does one round in all lanes in each turn. Assumes nothing.
use Rattle.std.proofs.Common.{◌≡◌, ℕ, suc, ◌+◌, length, subst, arith}
use lib.Ieee.{nan}
use Rattle.sine.proofs.LaneLaws.{lanes_to}
use Rattle.operator.specs.Lanes.{Lanes, round_at, rounds_at}
use Rattle.operator.proofs.LaneLaws.{rounds_none, lanes_round}
use Rattle.operator.proofs.operator.Operator.rounds_lanes.Goals as goal

pub loop-init : goal.loop-init
loop-init c = rounds_none _ _ _

pub loop-preserved : goal.loop-preserved
loop-preserved c =
    let l = c.loop in
    lanes_round _ l.counter _ _ l.values _ l.invariant (lanes_to _ nan (length l.values) _ _ _ l.auto.values c.round_lanes.ensures)

pub returns-2 : goal.returns-2
returns-2 c =
    let a = c.args in
    let l = c.loop in
    let e : l.counter + 1 ≡ suc a.self.feedback = omega (arith, l.auto.counter-end) in
    subst (λ (k : ℕ). Lanes (rounds_at k (round_at a.table.now a.self.amplitude a.levels.now a.turns.now)) (length a.values.now) a.values.now c.round_lanes.new.values) e
    (lanes_round _ l.counter _ _ l.values _ l.invariant (lanes_to _ nan (length l.values) _ _ _ l.auto.values c.round_lanes.ensures))
