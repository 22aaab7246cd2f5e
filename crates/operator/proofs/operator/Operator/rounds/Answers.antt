-- `rounds` does one round in each turn: what is left of them, done on x, gives the result. Assumes nothing.
use Rattle.std.proofs.Common.{◌≡◌, suc, ◌+◌, ◌-◌, sym, ap, ◌∙◌, arith}
use lib.Ieee.{Float, of_bits, binary32, mul}
use Rattle.operator.specs.Lent.{worked_by}
use Rattle.operator.proofs.Rounds.{rounds_more, rounds_done}
use Rattle.operator.proofs.operator.Operator.rounds.Goals as goal

pub loop-preserved : goal.loop-preserved
loop-preserved c =
    let l = c.loop in
    let a = c.args in
    l.invariant ∙ rounds_more (suc a.self.feedback) l.counter _ l.x _ (omega (arith, c.loop-test.true)) (ap (λ (y : Float). mul binary32 a.level (mul binary32 a.self.amplitude y)) c.sine_by.ensures)

pub returns-2 : goal.returns-2
unfolding worked_by of_bits
returns-2 c =
    let l = c.loop in
    let a = c.args in
    let e : suc a.self.feedback - (l.counter + 1) ≡ 0 = omega arith in
    sym
    (l.invariant
    ∙ rounds_more (suc a.self.feedback) l.counter _ l.x _ (omega (arith, c.loop-test.true)) (ap (λ (y : Float). mul binary32 a.level (mul binary32 a.self.amplitude y)) c.sine_by.ensures)
    ∙ rounds_done (suc a.self.feedback) (l.counter + 1) _ _ e)
