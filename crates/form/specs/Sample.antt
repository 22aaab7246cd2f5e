-- One sample, as document 01 has it: "A sample: clamp to −1..1, times 32767.5 in f32, half away from zero, saturate to 16 bits;
-- NaN gives 0." The product is an f32; its exact value is then rounded to a whole number. Assumes nothing.
use Rattle.std.specs.Prelude.{true, false, List, [], ◌∷◌, ◌++◌, ℕ, ◌+◌, ◌-◌, ◌*◌, ◌/◌, ◌≤◌, min, leb, ℤ, pos, negsuc, neg_ℤ, Float}
use Rattle.std.specs.Float.{nan, inf, fin, binary32}
use Rattle.std.specs.Float.Ieee.{up, down, mul, lt}
use Rattle.ieee.specs.Constants.{minus_one, one, plus_zero, sample_scale}
use Rattle.form.specs.Form.{le}

-- "clamp to −1..1": what is neither below nor above stays, so NaN stays NaN
unfoldable pub clamp : Float → Float
clamp x = elim (lt x minus_one) [ true ↦ minus_one | false ↦ elim (lt one x) [ true ↦ one | false ↦ x ] ]

-- the whole number nearest n / d, the larger one at a half
unfoldable pub half_up : ℕ → ℕ → ℕ
half_up n d = (2 * n + d) / (2 * d)

-- "half away from zero, saturate to 16 bits; NaN gives 0": what is below zero goes to -32768 at the least, else to 32767 at the most
unfoldable pub whole16 : Float → ℤ
unfolding half_up
whole16 nan = pos 0
whole16 (inf true) = negsuc 32767
whole16 (inf false) = pos 32767
whole16 (fin true m e) = neg_ℤ (pos (min (half_up (m * up e) (down e)) 32768))
whole16 (fin false m e) = pos (min (half_up (m * up e) (down e)) 32767)

-- the 16-bit number of a sample
unfoldable pub sample16 : Float → ℤ
unfolding clamp whole16
sample16 x = whole16 (mul binary32 (clamp x) sample_scale)

-- a 16-bit number as it is stored: below zero, counted down from 2^16
unfoldable pub word : ℤ → ℕ
word (pos n) = n
word (negsuc n) = 65535 - n

-- the two bytes of a sample
unfoldable pub sample_bytes : Float → List ℕ
unfolding le sample16 word
sample_bytes x = le 2 (word (sample16 x))

-- the bytes of samples, one after the other
unfoldable pub bytes_of : List Float → List ℕ
unfolding sample_bytes
bytes_of [] = []
bytes_of (x ∷ xs) = sample_bytes x ++ bytes_of xs

-- ---- reading back

-- two bytes, the lower first, as a 16-bit number
unfoldable pub number16 : ℕ → ℕ → ℤ
number16 a b = elim (leb 128 b) [ true ↦ negsuc (65535 - (a + 256 * b)) | false ↦ pos (a + 256 * b) ]

-- the 16-bit numbers that bytes stand for, two bytes each; an odd byte at the end stands for none
unfoldable pub numbers_of : List ℕ → List ℤ
unfolding number16
numbers_of [] = []
numbers_of (a ∷ []) = []
numbers_of (a ∷ b ∷ s) = number16 a b ∷ numbers_of s

-- ---- steps of the code: the product without its sign, rounded, and then with its sign

-- a float from -32767.5 to 32767.5
abbrev pub AtMostScale : Float → Type 0
AtMostScale nan = ⊥
AtMostScale (inf s) = ⊥
AtMostScale (fin s m e) = 2 * (m * up e) ≤ 65535 * down e

-- the whole number nearest to such a float without its sign, the larger one at a half
unfoldable pub nearest_whole : Float → ℕ
unfolding half_up
nearest_whole nan = 0
nearest_whole (inf s) = 0
nearest_whole (fin s m e) = half_up (m * up e) (down e)

-- the whole number n nearest to such a float p without its sign, as it is stored, or 2^16 above that
unfoldable pub stored_of : ℕ → Float → ℕ
stored_of n p = elim (lt p plus_zero) [ true ↦ 65536 - n | false ↦ min n 32767 ]
