-- Frequencies, as document 01 has them: "Frequency = 440 times step to the power s − 57; step is `SEMINOTE_STEP` rounded to f32.
-- Power of |k|: begin with 1; for bits of |k| from the lowest, multiply by the running square where the bit is set, then
-- square; for negative k, 1 divided by that." Every operation is rounded to f32. Assumes nothing.
use Rattle.std.specs.Prelude.{ℕ, zero, suc, ◌/◌, ◌%◌, ◌^◌, Bool, true, false, List, [], ◌∷◌, ℤ, pos, negsuc, ◌==◌, Float}
use Rattle.std.specs.Float.{binary32}
use Rattle.std.specs.Float.Ieee.{minus, round, mul, div}
use Rattle.ieee.specs.Constants.{concert_pitch, one}

-- the lowest j binary digits of n, the lowest first
unfoldable pub bits : ℕ → ℕ → List Bool
bits zero n = []
bits (suc j) n = (n % 2 == 1) ∷ bits j (n / 2)

-- r, multiplied by the running square q where a bit is set; after each bit q is squared
unfoldable pub power_from : Float → Float → List Bool → Float
power_from r q [] = r
power_from r q (b ∷ bs) = power_from (elim b [ true ↦ mul binary32 r q | false ↦ r ]) (mul binary32 q q) bs

-- x to the power n: 32 binary digits hold every n that a u32 holds
unfoldable pub power_of : Float → ℕ → Float
unfolding bits power_from
power_of x n = power_from one x (bits 32 n)

-- x to the power k, for k of either sign
unfoldable pub power : Float → ℤ → Float
unfolding power_of
power x (pos n) = power_of x n
power x (negsuc n) = div binary32 one (power_of x (suc n))

-- `SEMINOTE_STEP`, the Rust's 1.0594630943592952645618253, rounded to f32
unfoldable pub step : Float
step = round binary32 false 10594630943592952645618253 (10 ^ 25)

-- 440 times step to the power s - 57
unfoldable pub frequency_of : ℕ → Float
unfolding power step
frequency_of s = mul binary32 concert_pitch (power step (minus s 57))

-- the frequencies of n semitones from s on, one after the other; "the hundred frequencies for s from 10 to 109" of document 02, request T-08, are `frequencies 100 10`
unfoldable pub frequencies : ℕ → ℕ → List Float
unfolding frequency_of
frequencies zero s = []
frequencies (suc n) s = frequency_of s ∷ frequencies n (suc s)
