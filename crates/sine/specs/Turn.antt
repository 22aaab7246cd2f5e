-- The turn sine of document 01, on the logic's account of IEEE 754: a value is `nan`, an infinity, or `fin s m e`, which is
-- m * 2 ^ e with the sign s. The rules are whole-number arithmetic; only the last step, S / 2^24, makes a float again, rounded once.
-- "C is the whole number nearest 2^62 / (2 pi). A turn is 2^32 positions, and positions wrap there." Assumes nothing.
use Rattle.std.specs.Prelude.{ℕ, ◌+◌, ◌-◌, ◌*◌, ◌/◌, ◌%◌, ◌^◌, Bool, true, false, List, ℤ, ◌==◌, nat_le, slice_index, Float}
use Rattle.std.specs.Float.{nan, inf, fin, binary32}
use Rattle.std.specs.Float.Ieee.{up, down, unlike, round}
use Rattle.ieee.specs.Constants.{plus_zero}
use Rattle.sine.specs.Quarter.{quarter}

-- "the whole number nearest 2^62 / (2 pi)"
unfoldable pub C : ℕ
C = 733972625820500307

-- "P = floor(|x|·C / 2^30) mod 2^32", for |x| = m * 2 ^ e
unfoldable pub position : ℕ → ℤ → ℕ
unfolding C
position m e = m * up e * C / (down e * 2 ^ 30) % 2 ^ 32

-- which quarter of the turn the position P lies in, counted from 0
unfoldable pub quarter_of : ℕ → ℕ
quarter_of p = p / 2 ^ 30

-- "With u = P mod 2^30, in the second and fourth quarter u becomes 2^30 − u"
unfoldable pub folded : ℕ → ℕ
unfolding quarter_of
folded p = elim (quarter_of p % 2 == 1) [ true ↦ 2 ^ 30 - p % 2 ^ 30 | false ↦ p % 2 ^ 30 ]

-- "With i = floor(u / 2^20) and r = u mod 2^20, S = T[i] + floor((T[i+1] − T[i])·r / 2^20); at i = 1024, S = T[1024]", by any table T.
-- A difference below zero counts as 0, as `-` on natural numbers has it; document 01's T rises.
unfoldable pub height : List ℕ → ℕ → ℕ
height table u =
    elim (u / 2 ^ 20 == 1024) [
      | true ↦ slice_index table 1024
      | false ↦ slice_index table (u / 2 ^ 20) + (slice_index table (u / 2 ^ 20 + 1) - slice_index table (u / 2 ^ 20)) * (u % 2 ^ 20) / 2 ^ 20
    ]

-- "The result is S / 2^24, negated in the last two quarters, negated again if x has its sign bit"
unfoldable pub sine_at : List ℕ → Bool → ℕ → Float
unfolding quarter_of folded height
sine_at table s p = round binary32 (unlike s (nat_le 2 (quarter_of p))) (height table (folded p)) (2 ^ 24)

-- "x not finite gives NaN; |x| ≥ 2^31 gives 0.0"
unfoldable pub turn_sine_by : List ℕ → Float → Float
unfolding position sine_at
turn_sine_by table nan = nan
turn_sine_by table (inf s) = nan
turn_sine_by table (fin s m e) = elim (nat_le (2 ^ 31 * down e) (m * up e)) [ true ↦ plus_zero | false ↦ sine_at table s (position m e) ]

-- the turn sine: that by T of document 01
abbrev pub turn_sine : Float → Float
turn_sine = turn_sine_by quarter
