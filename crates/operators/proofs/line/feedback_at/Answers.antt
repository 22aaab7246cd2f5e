-- `feedback_at` reads the token where it stands: a law of tokens says that the token alone gives the same. What lies between the number and the end of the
-- ink is the token's tail. Assumes nothing.
use Rattle.std.proofs.Common.{◌≡◌, ◌+◌, ◌∙◌, ℕ, List, Some, length, drop, refl, sym, ap}
use Rattle.text.specs.declared.parsed.Parsed.{Parsed}
use Rattle.text.specs.Blanks.{is_ink}
use Rattle.text.specs.Fronts.{front}
use Rattle.text.proofs.Walks.{walk_inside}
use Rattle.lines.proofs.Tokens.{Token, token_none, token_next}
use Rattle.number.specs.Digits.{value_most, int_at}
use Rattle.operators.specs.OperatorLines.{feedback_read}
use Rattle.operators.proofs.Steps.{feedback_inside, feedback_read_law, feedback_tailed, feedback_over, feedback_absent}
use Rattle.operators.proofs.line.feedback_at.Goals as goal

pub returns-then-from-text : goal.returns-then-from-text
unfolding feedback_read
returns-then-from-text c line = sym (ap (feedback_read c.args.mode line) (token_none _ _ _ c.blanks_end-from.ensures c.if-from-text.true))

-- behind the digit run of a token, the ink ends where the token does
here : (text : List ℕ) (at from : ℕ) (number : Parsed ℕ) → ((end : ℕ) → end ≡ from + length (front is_ink (drop from text)) → Token text at from end)
    → int_at value_most text from ≡ Some number → (end : ℕ) → end ≡ number.next + length (front is_ink (drop number.next text)) → Token text at from end
here text at from number token read end e =
    let h = feedback_inside _ _ _ _ (token _ refl) _ read in
    token end (e ∙ (walk_inside is_ink text _ _ h.0 h.1).place)

pub returns-in_default : goal.returns-in_default
returns-in_default c line =
    sym
    (feedback_absent _ _ _ _ (token_next _ _ _ c.blanks_end-from.ensures c.if-from-text.false _ refl) c.args.mode line
    (sym c.eat_int.ensures ∙ c.in_default.is))

pub returns-then-feedback-gt-FEEDBACK_MOST : goal.returns-then-feedback-gt-FEEDBACK_MOST
returns-then-feedback-gt-FEEDBACK_MOST c line =
    sym
    (feedback_over _ _ _ _ (token_next _ _ _ c.blanks_end-from.ensures c.if-from-text.false _ refl) c.args.mode line _
    (sym c.eat_int.ensures ∙ c.in-Some.is) c.if-feedback-gt-FEEDBACK_MOST.true)

pub returns-then-has_tail : goal.returns-then-has_tail
returns-then-has_tail c line =
    let read = sym c.eat_int.ensures ∙ c.in-Some.is in
    let token = token_next _ _ _ c.blanks_end-from.ensures c.if-from-text.false in
    sym
    (feedback_tailed _ _ _ _ (here _ _ _ _ token read _ c.ink_end-end.ensures) c.args.mode line _ read c.if-feedback-gt-FEEDBACK_MOST.false
    (sym c.has_tail.ensures ∙ c.if-has_tail.true))

pub returns : goal.returns
returns c line =
    let read = sym c.eat_int.ensures ∙ c.in-Some.is in
    let token = token_next _ _ _ c.blanks_end-from.ensures c.if-from-text.false in
    sym
    (feedback_read_law _ _ _ _ (here _ _ _ _ token read _ c.ink_end-end.ensures) c.args.mode line _ read c.if-feedback-gt-FEEDBACK_MOST.false
    (sym c.has_tail.ensures ∙ c.if-has_tail.false))
