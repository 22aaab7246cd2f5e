-- Powers of two as code meets them: one more doubling, and exponents read back from sizes.
-- Assumes nothing.
use mathlib.Core.Path.{◌≡◌, sym, ap, ◌∙◌}
use Prim.Native.Nat.{ℕ, ◌+◌, ◌*◌, ◌^◌, ◌≤◌, ◌<◌}
use native.Mathlib.Nat.{pow-suc, mul_assoc, lt_of_not-le, not-le_of_lt}
use native.Mathlib.Numerals.{add-one}
use lib.Pow.{pow_mono}

-- one more factor of b
pub pow_more : (b i : ℕ) → b ^ (i + 1) ≡ b ^ i * b
pow_more b i = ap (λ (k : ℕ). b ^ k) (add-one i) ∙ pow-suc b i

-- a number doubled once more
pub twice_scaled : (n i : ℕ) → n * 2 ^ (i + 1) ≡ n * 2 ^ i * 2
twice_scaled n i = ap (λ (k : ℕ). n * k) (pow_more 2 i) ∙ sym (mul_assoc n (2 ^ i) 2)

-- the smaller power has the smaller exponent
pub exponent_lt : (i j : ℕ) → 2 ^ i < 2 ^ j → i < j
exponent_lt i j h = lt_of_not-le (λ (g : j ≤ i). not-le_of_lt h (pow_mono g))
