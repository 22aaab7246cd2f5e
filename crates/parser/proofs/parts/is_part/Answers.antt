-- `is_part` looks for the bytes that other kinds of line begin with. Assumes nothing.
use Rattle.std.proofs.Common.{◌≡◌, ◌⊎◌, ⊎_elim, ℕ, List, length, get_or, false, sym, ◌∙◌, arith}
use borrow.Author.Tests.{eqb-true, eqb-false}
use Rattle.parser.proofs.LineKinds.{Parts, kind_empty, kind_comment, kind_header, kind_directive, kind_macro, kind_part, not_skipped, not_header, not_directive, not_macro, is_part}
use Rattle.parser.proofs.parts.is_part.Goals as goal

other_kind : (l : List ℕ) → (length l ≡ 0 → ⊥)
    → (get_or l 0 0 ≡ 33) ⊎ ((get_or l 0 0 ≡ 35) ⊎ ((get_or l 0 0 ≡ 59) ⊎ (get_or l 0 0 ≡ 64)))
    → Parts l false
other_kind l n =
    ⊎_elim (λ e. not_macro l (kind_macro l n e))
    (⊎_elim (λ e. not_directive l (kind_directive l n e)) (⊎_elim (λ e. not_skipped l (kind_comment l n e)) (λ e. not_header l (kind_header l n e))))

pub returns-then-is_empty : goal.returns-then-is_empty
returns-then-is_empty c = not_skipped _ (kind_empty _ (eqb-true _ _ (sym c.is_empty.ensures ∙ c.if-is_empty.true)))

pub returns-in-59 : goal.returns-in-59
returns-in-59 c = other_kind _ (eqb-false _ _ (sym c.is_empty.ensures ∙ c.if-is_empty.false)) c.in-59.is

pub returns-in_default : goal.returns-in_default
returns-in_default c =
    is_part _
    (kind_part _ (eqb-false _ _ (sym c.is_empty.ensures ∙ c.if-is_empty.false)) (λ e. grind (arith, e)) (λ e. grind (arith, e)) (λ e. grind (arith, e)) (λ e. grind (arith, e)))
