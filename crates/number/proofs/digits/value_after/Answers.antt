-- `value_after`: one more digit is read first, and what is to come makes no value smaller. Assumes nothing.
use Rattle.std.proofs.Common.{◌≡◌, ◌+◌, ◌-◌, ◌*◌, ◌<◌, ◌≤◌, ℕ, List, length, drop, get_or, sym, ◌∙◌, arith, ap, drop_of_length-le}
use Rattle.number.specs.Digits.{value_from}
use Rattle.number.proofs.Runs.{value_grows, value_more}
use Rattle.number.proofs.digits.value_after.Goals as goal

-- the digit at i makes the value too large, and so it stays
too_large : (value v : ℕ) (ds : List ℕ) (i limit : ℕ) → i < length ds → value_from value (drop i ds) ≡ value_from v ds
    → limit ≤ value * 10 + (get_or ds i 0 - 48) → limit ≤ value_from v ds
too_large value v ds i limit h e l = omega (arith, value_more value ds i h, value_grows (value * 10 + (get_or ds i 0 - 48)) (drop (i + 1) ds))

pub loop-b-preserved : goal.loop-b-preserved
loop-b-preserved c =
    let b = c.loop-b in
    let e : b.value * 10 + (get_or c.args.digits.now b.b-index 0 - 48) ≡ c.in_ok-value.value = omega (arith, c.in_ok-checked_mul.ensures, c.in_ok-value.ensures) in
    ap (λ (n : ℕ). value_from n (drop (b.b-index + 1) c.args.digits.now)) (sym e) ∙ sym (value_more b.value c.args.digits.now b.b-index (omega arith)) ∙ b.invariant

pub returns-in_err-checked_mul : goal.returns-in_err-checked_mul
returns-in_err-checked_mul c =
    rw c.from_residual.ensures (too_large c.loop-b.value _ _ c.loop-b.b-index _ (omega arith) c.loop-b.invariant (omega (arith, c.in_err-checked_mul.ensures)))

pub returns-in_err-value : goal.returns-in_err-value
returns-in_err-value c =
    rw c.from_residual-in_err-value.ensures
    (too_large c.loop-b.value _ _ c.loop-b.b-index _ (omega arith) c.loop-b.invariant (omega (arith, c.in_ok-checked_mul.ensures, c.in_err-value.ensures)))

pub returns : goal.returns
unfolding value_from
returns c = ap (value_from c.loop-b.value) (sym (drop_of_length-le c.args.digits.now (omega arith))) ∙ c.loop-b.invariant
