-- `run_end` keeps a `Walk` for each test that the closure computes. Assumes nothing.
use Rattle.std.proofs.Common.{arith, sym, ◌∙◌, get_or}
use Rattle.text.proofs.Walks.{walk_start, walk_more, walk_stop, walk_past}
use Rattle.text.proofs.runs.run_end.Goals as goal

pub loop-end-init : goal.loop-end-init
loop-end-init g c = λ p e. walk_start _ _ _

pub loop-end-preserved : goal.loop-end-preserved
loop-end-preserved g c = λ p e.
    let t = sym (e (get_or c.args.s.now c.loop-end.end 0) _ (omega (arith, c.type_inv.s c.loop-end.end)) c.passes.ensures) in
    walk_more _ _ _ _ (c.loop-end.invariant p e) (omega arith) (t ∙ c.if-not-passes.false)

pub returns-then-not-passes : goal.returns-then-not-passes
returns-then-not-passes g c = λ p e.
    let t = sym (e (get_or c.args.s.now c.loop-end.end 0) _ (omega (arith, c.type_inv.s c.loop-end.end)) c.passes.ensures) in
    walk_stop _ _ _ _ (c.loop-end.invariant p e) (omega arith) (t ∙ c.if-not-passes.true)

pub returns : goal.returns
returns g c = λ p e.
    c.max.ensures ∙ walk_past _ _ _ _ (c.loop-end.invariant p e) c.loop-end-test.false c.loop-end.auto.end (λ h. c.loop-end.auto.end-end h)
