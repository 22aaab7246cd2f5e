-- `eat_float` follows the definition's cases: no digit, no point behind the digits, or a point with digits behind it or none.
-- Assumes nothing.
use Rattle.std.proofs.Common.{sym, refl, ◌∙◌, arith}
use borrow.Author.Tests.{eqb-true, eqb-false}
use Rattle.text.specs.Fronts.{front}
use Rattle.number.proofs.Decimals.{decimal_none, decimal_whole, decimal_pointed, pointed_none, pointed_some}
use Rattle.number.proofs.decimal.eat_float.Goals as goal

pub returns-then-is_empty : goal.returns-then-is_empty
returns-then-is_empty c = decimal_none _ _ _ c.digits_at-whole.ensures.run (eqb-true _ _ (sym c.is_empty.ensures ∙ c.if-is_empty.true))

pub judged-requires-clause-part_digits : goal.judged-requires-clause-part_digits
unfolding front
judged-requires-clause-part_digits c = refl

pub returns-then-not-stands_at : goal.returns-then-not-stands_at
returns-then-not-stands_at c =
    c.judged.ensures
    ∙ decimal_whole _ _ _ c.digits_at-whole.ensures.run (omega (arith, eqb-false _ _ (sym c.is_empty.ensures ∙ c.if-is_empty.false)))
    (sym c.stands_at.ensures ∙ c.if-not-stands_at.true)

pub returns-then-is_empty-2 : goal.returns-then-is_empty-2
returns-then-is_empty-2 c =
    pointed_none _ _ _ (eqb-true _ _ (sym c.is_empty-2.ensures ∙ c.if-is_empty-2.true))
    ∙ decimal_pointed _ _ _ c.digits_at-whole.ensures.run _ (omega (arith, eqb-false _ _ (sym c.is_empty.ensures ∙ c.if-is_empty.false)))
    (sym c.stands_at.ensures ∙ c.if-not-stands_at.false) c.digits_at-part.ensures.run

pub returns : goal.returns
returns c =
    c.judged-2.ensures
    ∙ pointed_some _ _ _ _ (omega (arith, eqb-false _ _ (sym c.is_empty-2.ensures ∙ c.if-is_empty-2.false))) (omega arith)
    ∙ decimal_pointed _ _ _ c.digits_at-whole.ensures.run _ (omega (arith, eqb-false _ _ (sym c.is_empty.ensures ∙ c.if-is_empty.false)))
    (sym c.stands_at.ensures ∙ c.if-not-stands_at.false) c.digits_at-part.ensures.run
