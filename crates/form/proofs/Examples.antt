-- Worked values of document 01's rules for WAV, proved by computation: what a sample and a header come to can be read off here.
-- Assumes nothing.
use mathlib.Core.Path.{◌≡◌, refl}
use mathlib.Core.Bool.{true, false}
use mathlib.Core.List.{[], ◌∷◌}
use Prim.Native.Nat.{ℕ}
use lib.IntN.{ℤ, pos, negsuc}
use lib.ListN.{take, drop}
use lib.Ieee.{nan, inf, binary32, mul, lt, of_bits}
use Rattle.ieee.specs.Constants.{minus_one, one}
use Rattle.form.specs.declared.size.Size.TheVariants.{Published, Old}
use Rattle.form.specs.Form.{size_field, header}
use Rattle.form.specs.Sample.{sample16, sample_bytes}
use Rattle.form.proofs.Back.{value}

-- the number of the sample whose f32 has the given bits
abbrev number : ℕ → ℤ
number bits = sample16 (of_bits binary32 bits)

-- "Samples 1.0, −1.0, NaN: 32767, −32768, 0", and the bytes of the first two
pub full :
    (sample16 one ≡ pos 32767)
    × (sample16 minus_one ≡ negsuc 32767)
    × (sample16 nan ≡ pos 0)
    × (sample_bytes one ≡ 255 ∷ 127 ∷ [])
    × (sample_bytes minus_one ≡ 0 ∷ 128 ∷ [])
unfolding sample16 sample_bytes mul lt
full = (refl, refl, refl, refl, refl)

-- "half away from zero": the f32 below 0.5 / 32767.5 gives 0 and the one that is scaled to 0.5 gives 1; 1.5, 2.5 and -2.5 go away from zero too
pub halves :
    (number 0x3780007f ≡ pos 0)
    × (number 0x37800080 ≡ pos 1)
    × (number 0xb780007f ≡ pos 0)
    × (number 0xb7800080 ≡ negsuc 0)
    × (number 0x384000c0 ≡ pos 2)
    × (number 0x38a0009f ≡ pos 2)
    × (number 0x38a000a0 ≡ pos 3)
    × (number 0xb8a000a0 ≡ negsuc 2)
unfolding sample16 of_bits mul lt
halves = (refl, refl, refl, refl, refl, refl, refl, refl)

-- "clamp to −1..1": infinities and 2.0 are as the ends; 0.99999994 is below the end, and -0.0 and the smallest floats are 0
pub ends :
    (sample16 (inf false) ≡ pos 32767)
    × (sample16 (inf true) ≡ negsuc 32767)
    × (number 0x40000000 ≡ pos 32767)
    × (number 0xc0000000 ≡ negsuc 32767)
    × (number 0x3f7fffff ≡ pos 32767)
    × (number 0xbf7fffff ≡ negsuc 32766)
    × (number 0x80000000 ≡ pos 0)
    × (number 0x00000001 ≡ pos 0)
    × (number 0x80000001 ≡ pos 0)
unfolding sample16 of_bits mul lt
ends = (refl, refl, refl, refl, refl, refl, refl, refl, refl)

-- the 44 bytes of a file of no samples: 36 bytes follow the RIFF size, and the old one says 32
pub headers :
    (header Published 44100 0 ≡
    82 ∷ 73 ∷ 70 ∷ 70 ∷ 36 ∷ 0 ∷ 0 ∷ 0 ∷ 87 ∷ 65 ∷ 86 ∷ 69
    ∷ 102 ∷ 109 ∷ 116 ∷ 32 ∷ 16 ∷ 0 ∷ 0 ∷ 0 ∷ 1 ∷ 0 ∷ 1 ∷ 0 ∷ 68 ∷ 172 ∷ 0 ∷ 0 ∷ 136 ∷ 88 ∷ 1 ∷ 0 ∷ 2 ∷ 0 ∷ 16 ∷ 0
    ∷ 100 ∷ 97 ∷ 116 ∷ 97 ∷ 0 ∷ 0 ∷ 0 ∷ 0 ∷ [])
    × (take 8 (header Old 44100 0) ≡ 82 ∷ 73 ∷ 70 ∷ 70 ∷ 32 ∷ 0 ∷ 0 ∷ 0 ∷ [])
unfolding header
headers = (refl, refl)

-- sheet 13: "26,461; RIFF size 52,954", which is the old one; "Sheet 13's field becomes 52,958"
pub sheet_13 :
    (size_field Published 26461 ≡ 52958)
    × (size_field Old 26461 ≡ 52954)
    × (value (take 4 (drop 4 (header Published 44100 26461))) ≡ 52958)
    × (value (take 4 (drop 4 (header Old 44100 26461))) ≡ 52954)
unfolding header size_field value
sheet_13 = (refl, refl, refl, refl)
