-- `same_text` keeps that what is left to compare says what the whole says. Assumes nothing.
use mathlib.Core.Path.{refl, sym, ◌∙◌}
use native.Mathlib.Omega.{arith}
use Rattle.text.proofs.Sames.{same_lengths, same_more, same_apart, same_end}
use Rattle.text.proofs.characters.same_text.Goals as goal

pub returns-then-s-t : goal.returns-then-s-t
returns-then-s-t c = sym (same_lengths _ _ c.if-s-t.true)

pub loop-at-init : goal.loop-at-init
loop-at-init c = (c.if-s-t.false, refl)

pub returns-then-s-at : goal.returns-then-s-at
returns-then-s-at c =
    let h = c.loop-at-test.true in
    sym (same_apart _ _ _ h (omega (arith, c.loop-at.invariant.0)) c.if-s-at.true) ∙ c.loop-at.invariant.1

pub loop-at-preserved : goal.loop-at-preserved
loop-at-preserved c =
    let h = c.loop-at-test.true in
    (c.loop-at.invariant.0, sym (same_more _ _ _ h (omega (arith, c.loop-at.invariant.0)) c.if-s-at.false) ∙ c.loop-at.invariant.1)

pub returns : goal.returns
returns c =
    let l = c.loop-at.invariant in
    sym (same_end _ _ _ c.loop-at-test.false (omega (arith, l.0))) ∙ l.1
