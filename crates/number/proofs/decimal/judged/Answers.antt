-- `judged` is the definition's judgement of two runs of digits: up to 18 together, the value of one read after the other.
-- Assumes nothing.
use Rattle.std.proofs.Common.{ℕ, false, ap, ap₂, ◌∙◌, arith}
use lib.Ieee.{binary32, round}
use Rattle.number.specs.Digits.{value_from}
use Rattle.number.proofs.Decimals.{judged_long, judged_value, before_small, both_small, power_some, power_small}
use Rattle.number.proofs.decimal.judged.Goals as goal
use Rattle.number.proofs.decimal.judged.Goals.{then-whole-gt-DIGITS_MOST-via-then-whole-gt-DIGITS_MOST, then-whole-gt-DIGITS_MOST-via-else-whole-gt-DIGITS_MOST+then-part-room}

pub returns-then-whole-gt-DIGITS_MOST : goal.returns-then-whole-gt-DIGITS_MOST
returns-then-whole-gt-DIGITS_MOST c =
    elim c.then-whole-gt-DIGITS_MOST.branch [
      | then-whole-gt-DIGITS_MOST-via-then-whole-gt-DIGITS_MOST w ↦ judged_long _ _ _ (omega arith)
      | then-whole-gt-DIGITS_MOST-via-else-whole-gt-DIGITS_MOST+then-part-room w ↦ judged_long _ _ _ (omega arith)
    ]

pub returns-in_default : goal.returns-in_default
returns-in_default c =
    let r = c.requires in
    absurd (omega (arith, c.in_default.ensures, before_small _ _ r.whole_digits r.part_digits (omega arith)))

pub returns-in_default-value_after : goal.returns-in_default-value_after
returns-in_default-value_after c =
    let r = c.requires in
    absurd (omega (arith, c.in_default-value_after.ensures, both_small _ _ r.whole_digits r.part_digits (omega arith) _ c.in-Some.ensures))

pub nearest_f32-requires-clause-number : goal.nearest_f32-requires-clause-number
nearest_f32-requires-clause-number c =
    let r = c.requires in
    omega (arith, c.in-Some-value_after.ensures, both_small _ _ r.whole_digits r.part_digits (omega arith) _ c.in-Some.ensures)

pub nearest_f32-requires-clause-some : goal.nearest_f32-requires-clause-some
nearest_f32-requires-clause-some c = rw c.pow-d.ensures (power_some c.args.part.now)

pub nearest_f32-requires-clause-small : goal.nearest_f32-requires-clause-small
nearest_f32-requires-clause-small c = rw c.pow-d.ensures (power_small c.args.part.now (omega arith))

pub returns : goal.returns
returns c =
    judged_value _ _ _ _ (omega arith)
    (c.nearest_f32.ensures
    ∙ ap₂ (λ (n d : ℕ). round binary32 false n d)
    (c.in-Some-value_after.ensures ∙ ap (λ (v : ℕ). value_from v c.args.part.now) c.in-Some.ensures)
    c.pow-d.ensures)
