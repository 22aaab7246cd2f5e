-- `number_at` reads the token where it stands: a law of tokens says that the token alone gives the same. A number ends
-- inside its token, so the ink behind the number ends where the token does, and what lies between is its tail. Assumes nothing.
use Rattle.std.proofs.Common.{◌≡◌, ◌+◌, ◌∙◌, ℕ, List, Ok, Err, length, drop, refl, sym, ap}
use lib.Ieee.{Float}
use Rattle.text.specs.declared.parsed.Parsed.{Parsed}
use Rattle.text.specs.Blanks.{is_ink}
use Rattle.text.specs.Fronts.{front}
use Rattle.text.proofs.Walks.{walk_inside}
use Rattle.lines.proofs.Tokens.{Token, token_next, token_there}
use Rattle.number.specs.declared.decimal.NoDecimal.TheVariants.{Unreadable, TooLong}
use Rattle.number.specs.Decimal.{decimal_at}
use Rattle.operators.specs.OperatorLines.{readable}
use Rattle.operators.proofs.Steps.{number_inside, number_passed, number_tailed, number_stopped}
use Rattle.operators.proofs.line.number_at.Goals as goal

-- behind the number of a token, the ink ends where the token does
here : (text : List ℕ) (at from : ℕ) (number : Parsed Float) → ((end : ℕ) → end ≡ from + length (front is_ink (drop from text)) → Token text at from end)
    → decimal_at text from ≡ Ok number → (end : ℕ) → end ≡ number.next + length (front is_ink (drop number.next text)) → Token text at from end
here text at from number token read end e =
    let h = number_inside _ _ _ _ (token _ refl) _ read in
    token end (e ∙ (walk_inside is_ink text _ _ h.0 h.1).place)

pub returns-in-Err-Unreadable : goal.returns-in-Err-Unreadable
unfolding readable
returns-in-Err-Unreadable c =
    number_stopped _ _ _ _ (token_next _ _ _ c.blanks_end-from.ensures (token_there _ _ _ c.blanks_end-from.ensures c.requires) _ refl) _ (Err Unreadable) 18
    (sym c.eat_float.ensures ∙ c.in-Err-Unreadable.is ∙ ap Err c.in-Err-Unreadable.field-0-is) (λ line. refl)

pub returns-in-Err-TooLong : goal.returns-in-Err-TooLong
unfolding readable
returns-in-Err-TooLong c =
    number_stopped _ _ _ _ (token_next _ _ _ c.blanks_end-from.ensures (token_there _ _ _ c.blanks_end-from.ensures c.requires) _ refl) _ (Err TooLong) 19
    (sym c.eat_float.ensures ∙ c.in-Err-TooLong.is ∙ ap Err c.in-Err-TooLong.field-0-is) (λ line. refl)

pub returns-then-has_tail : goal.returns-then-has_tail
returns-then-has_tail c =
    let read = sym c.eat_float.ensures ∙ c.in-Ok.is in
    let token = token_next _ _ _ c.blanks_end-from.ensures (token_there _ _ _ c.blanks_end-from.ensures c.requires) in
    number_tailed _ _ _ _ (here _ _ _ _ token read _ c.ink_end-end.ensures) _ _ read (sym c.has_tail.ensures ∙ c.if-has_tail.true)

pub returns : goal.returns
returns c =
    let read = sym c.eat_float.ensures ∙ c.in-Ok.is in
    let token = token_next _ _ _ c.blanks_end-from.ensures (token_there _ _ _ c.blanks_end-from.ensures c.requires) in
    number_passed _ _ _ _ (here _ _ _ _ token read _ c.ink_end-end.ensures) _ _ read (sym c.has_tail.ensures ∙ c.if-has_tail.false)
