-- Laws of powers by binary digits. How many digits of an exponent are written down does not matter, as long as they hold it: so a loop
-- that takes digits while any is left makes the products that the 32 digits of the definition make. Assumes nothing.
use Rattle.std.proofs.Common.{◌≡◌, ℕ, zero, suc, ◌-◌, ◌/◌, ◌%◌, ◌^◌, ◌<◌, ◌≤◌, Bool, true, false, T, eqb, sym, refl, arith, le-leb}
use borrow.Author.Tests.{lt-leb}
use lib.Ieee.{Float, binary32, minus, mul, div, fits}
use lib.Ieee.Fits.{mul-fits}
use Rattle.ieee.specs.Constants.{concert_pitch, one}
use Rattle.tone.specs.Power.{bits, power_from, power_of, power, step, frequency_of}

-- r, times q where a bit is set
abbrev pub times : Bool → Float → Float → Float
times b r q = elim b [ true ↦ mul binary32 r q | false ↦ r ]

zeros : (j : ℕ) (r q : Float) → power_from r q (bits j 0) ≡ r
unfolding bits power_from
zeros zero r q = refl
zeros (suc j) r q = zeros j r (mul binary32 q q)

-- where nothing is left of an exponent, nothing is multiplied any more
pub ended : (j n : ℕ) (r q : Float) → n ≡ 0 → power_from r q (bits j n) ≡ r
ended j n r q h = rw h (zeros j r q)

half : (j n : ℕ) → n < 2 ^ suc j → n / 2 < 2 ^ j
half j n h = omega arith

-- every width that holds n gives the same power
pub width : (j k n : ℕ) (r q : Float) → n < 2 ^ j → n < 2 ^ k → power_from r q (bits j n) ≡ power_from r q (bits k n)
unfolding bits power_from
width zero k n r q h g = sym (ended k n r q (omega arith))
width (suc j) zero n r q h g = ended (suc j) n r q (omega arith)
width (suc j) (suc k) n r q h g = width j k (n / 2) (times (eqb (n % 2) 1) r q) (mul binary32 q q) (half j n h) (half k n g)

-- one digit taken: n loses its lowest
pub taken : (j n : ℕ) (r q : Float) → n < 2 ^ j → (b : Bool) → eqb (n % 2) 1 ≡ b
    → power_from (times b r q) (mul binary32 q q) (bits j (n / 2)) ≡ power_from r q (bits j n)
unfolding bits power_from
taken j n r q h b e = rw (← e) (width (suc j) j n r q (omega arith) h)

-- ---- the frequency of a semitone, below 57 and from 57 on

exponent : (s : ℕ) → s < 57 → suc (57 - suc s) ≡ 57 - s
exponent s h = omega arith

-- below a of octave 4 the power is divided into 1
pub frequency_below : (s : ℕ) → s < 57 → mul binary32 concert_pitch (div binary32 one (power_of step (57 - s))) ≡ frequency_of s
unfolding frequency_of
frequency_below s h = rw (lt-leb 57 s h, ← exponent s h)

-- from there on it is the power itself
pub frequency_from : (s : ℕ) → 57 ≤ s → mul binary32 concert_pitch (power_of step (s - 57)) ≡ frequency_of s
unfolding frequency_of
frequency_from s h = rw (le-leb 57 s h)

-- every frequency is an f32
pub frequency_fits : (s : ℕ) → T (fits binary32 (frequency_of s))
unfolding frequency_of
frequency_fits s = mul-fits binary32 concert_pitch (power step (minus s 57))
