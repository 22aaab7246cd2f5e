-- `levels_lanes` goes lane by lane where they are in several stages. Assumes nothing.
use Rattle.std.proofs.Common.{sym, ◌∙◌, arith}
use Rattle.operator.proofs.LaneLaws.{levelled_none, levelled_more}
use Rattle.operator.proofs.operator.Operator.levels_lanes.Goals as goal

pub loop-j-init : goal.loop-j-init
loop-j-init c = levelled_none _ _ _ _

pub loop-j-preserved : goal.loop-j-preserved
loop-j-preserved c =
    let a = c.args in
    let l = c.loop-j in
    levelled_more a.self a.d a.times.now l.levels l.j _ c.loop-j-test.true (omega (arith, c.in_one_stage.ensures.size, l.auto.levels, c.loop-j-test.true)) l.invariant (sym c.level.ensures ∙ c.in-Some.is)
