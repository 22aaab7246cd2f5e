-- `is_end` looks at the byte behind the line's blanks, if there is one. Assumes nothing.
use Rattle.std.proofs.Common.{◌≡◌, ◌+◌, ◌≤◌, ◌<◌, ◌||◌, ℕ, true, false, rules, List, length, drop, get_or, eqb, sym, ap, ◌∙◌, drop-cons, drop_of_length-le}
use borrow.Author.Tests.{ltb-false}
use Rattle.text.specs.Blanks.{is_blank}
use Rattle.text.specs.Fronts.{front, after}
use Rattle.text.proofs.Fronts.{after_is}
use Rattle.operators.specs.OperatorLines.{ends, ends_at}
use Rattle.blocks.proofs.block.is_end.Goals as goal

module _ (l : List ℕ) (at : ℕ) (e : at ≡ 0 + length (front is_blank (drop 0 l))) where
  rest : after is_blank l ≡ drop at l
  rest = after_is is_blank l 0 ∙ ap (λ (k : ℕ). drop k l) (sym e)

  -- the blanks are all
  blank : length l ≤ at → true ≡ ends l
  unfolding ends ends_at
  blank h = rw (rest, drop_of_length-le l h)

  -- a byte stands behind them
  inked : at < length l → ends l ≡ (eqb (get_or l at 0) 35 || (eqb (get_or l at 0) 64 || eqb (get_or l at 0) 59))
  unfolding ends ends_at
  inked h = rw (rest, drop-cons l at 0 h)

pub returns-in-35 : goal.returns-in-35
returns-in-35 c =
    let h = c.in-Some.ensures.lookup in
    let b = c.in-Some.first.now in
    let k : true ≡ (eqb b 35 || (eqb b 64 || eqb b 59)) = search rules in
    k ∙ ap (λ (x : ℕ). eqb x 35 || (eqb x 64 || eqb x 59)) (h.3.1 0) ∙ sym (inked _ _ c.blanks_end.ensures h.3.0)

pub returns-in_default : goal.returns-in_default
returns-in_default c =
    let h = c.in-Some.ensures.lookup in
    let b = c.in-Some.first.now in
    let k : false ≡ (eqb b 35 || (eqb b 64 || eqb b 59)) = search rules in
    k ∙ ap (λ (x : ℕ). eqb x 35 || (eqb x 64 || eqb x 59)) (h.3.1 0) ∙ sym (inked _ _ c.blanks_end.ensures h.3.0)

pub returns-in-None : goal.returns-in-None
returns-in-None c = blank _ _ c.blanks_end.ensures (ltb-false _ _ (sym c.in-None.ensures.lookup.0))
