-- `each_lane` gives one lane after the other what `f` makes of it. Assumes nothing.
use Rattle.std.proofs.Common.{arith, subst, sym, le_refl}
use Rattle.sine.proofs.LaneLaws.{lanes_none, lanes_more, lanes_to}
use Rattle.sine.proofs.lanes.each_lane.Goals as goal

pub loop-j-init : goal.loop-j-init
loop-j-init g c = λ none. lanes_none _ none _

pub f-requires : goal.f-requires
f-requires g c =
    let l = c.loop-j in
    let d = c.index-lanes-j.result in
    subst (λ x. goal.F-pre g c.args.f l.j x) (sym ((l.invariant d).kept l.j (le_refl _))) (c.requires d l.j c.loop-j-test.true)

pub loop-j-preserved : goal.loop-j-preserved
loop-j-preserved g c = λ none. lanes_more _ none c.loop-j.j _ _ _ _ c.loop-j-test.true (c.loop-j.invariant none) c.f.ensures

pub returns : goal.returns
returns g c = λ none. lanes_to _ none c.loop-j.j _ _ _ (omega arith) (c.loop-j.invariant none)
