-- `work` does what `work_front` left, lane by lane, at the time of each. Assumes nothing.
use Rattle.std.proofs.Common.{◌≡◌, ◌≤◌, min, length, length-take, arith}
use lib.Ieee.{Float, nan}
use Rattle.sine.proofs.LaneLaws.{lanes_more, lanes_front}
use Rattle.operator.specs.Lanes.{worked_at}
use Rattle.operator.proofs.LaneLaws.{lanes_early, lanes_over}
use Rattle.operator.proofs.operator.Operator.work.Goals as goal

pub loop-j-init : goal.loop-j-init
loop-j-init c =
    let a = c.args in
    let n = c.min-n.result in
    let m = c.work_front-m.result in
    let w = c.work_front-m.ensures in
    let h : m ≤ n = omega (arith, w.within, length-take {A = Float}) in
    lanes_early a.table.now a.self a.f a.d n a.times.now m a.values.now _ h (lanes_front _ nan m n a.values.now _ h (omega (arith, c.min-n.ensures)) w.lanes)

pub loop-j-preserved : goal.loop-j-preserved
unfolding worked_at
loop-j-preserved c =
    let l = c.loop-j in
    lanes_more _ nan l.j c.args.values.now l.values nan _ (omega (arith, c.loop-j-test.true, c.min-n.ensures)) l.invariant c.eval_by.ensures

pub returns : goal.returns
returns c =
    let a = c.args in
    let l = c.loop-j in
    let w = c.work_front-m.ensures in
    let e : l.j ≡ min (length a.values.now) (length a.times.now) = omega (arith, l.auto.j-end, c.loop-j-test.false, c.min-n.ensures, w.within, length-take {A = Float}) in
    lanes_over a.table.now a.self a.f a.d a.times.now a.values.now l.values l.j e l.invariant
