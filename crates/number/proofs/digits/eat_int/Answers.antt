-- `eat_int` keeps a `Reading`: one digit more makes it longer, a value over the limit refuses the run, and where the run stops `found` answers.
-- Assumes nothing.
use Rattle.std.proofs.Common.{◌≡◌, ◌+◌, ◌-◌, ◌*◌, ◌<◌, ◌≤◌, ℕ, true, false, get_or, sym, ◌∙◌, arith}
use Rattle.text.proofs.Fronts.{front_stop}
use Rattle.number.specs.Digits.{is_digit}
use Rattle.number.proofs.Runs.{reading_more, reading_over, reading_stopped, reading_ended}
use Rattle.number.proofs.digits.eat_int.Goals as goal

-- a value with one digit more, over plain numbers
over_alone : (v d limit : ℕ) → limit < 18446744073709551616 → 18446744073709551616 ≤ v * 10 → limit < v * 10 + d
over_alone v d limit l h = omega arith

pub returns-then-not-is_digit : goal.returns-then-not-is_digit
returns-then-not-is_digit c =
    reading_stopped _ _ _ _ _ c.loop-at.invariant
    (front_stop is_digit _ _ c.loop-at-test.true (sym c.is_digit.ensures ∙ c.if-not-is_digit.true))
    _ (λ (e : c.loop-at.at ≡ c.args.i). c.found.ensures.none (omega arith))
    (λ (n : c.loop-at.at ≡ c.args.i → ⊥). c.found.ensures.some (omega (arith, n, c.loop-at.auto.at)))

pub returns-in_err-checked_mul : goal.returns-in_err-checked_mul
returns-in_err-checked_mul c =
    c.from_residual.ensures ∙ reading_over _ _ _ _ _ c.loop-at.invariant c.loop-at-test.true (sym c.is_digit.ensures ∙ c.if-not-is_digit.false)
    (over_alone _ _ _ c.ranges.limit.fits (omega (arith, c.in_err-checked_mul.ensures)))

pub returns-in_err-longer : goal.returns-in_err-longer
returns-in_err-longer c =
    c.from_residual-in_err-longer.ensures ∙ reading_over _ _ _ _ _ c.loop-at.invariant c.loop-at-test.true (sym c.is_digit.ensures ∙ c.if-not-is_digit.false)
    (omega (arith, c.ranges.limit.fits, c.in_ok-checked_mul.ensures, c.digit.ensures, c.in_err-longer.ensures))

pub returns-then-longer-limit : goal.returns-then-longer-limit
returns-then-longer-limit c =
    reading_over _ _ _ _ _ c.loop-at.invariant c.loop-at-test.true (sym c.is_digit.ensures ∙ c.if-not-is_digit.false)
    (omega (arith, c.in_ok-checked_mul.ensures, c.digit.ensures, c.in_ok-longer.ensures, c.if-longer-limit.true))

pub loop-at-preserved : goal.loop-at-preserved
loop-at-preserved c =
    let more : c.in_ok-longer.longer ≡ c.loop-at.value * 10 + (get_or c.args.s.now c.loop-at.at 0 - 48)
    = omega (arith, c.in_ok-checked_mul.ensures, c.digit.ensures, c.in_ok-longer.ensures) in
    rw more (reading_more _ _ _ _ _ c.loop-at.invariant c.loop-at-test.true (sym c.is_digit.ensures ∙ c.if-not-is_digit.false) (omega (arith, c.if-longer-limit.false, more)))

pub returns : goal.returns
returns c = reading_ended _ _ _ _ _ c.loop-at.invariant c.loop-at.auto.at c.loop-at.auto.at-end c.loop-at-test.false _ c.found-2.ensures.none c.found-2.ensures.some
