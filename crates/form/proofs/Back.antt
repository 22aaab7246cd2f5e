-- What was written reads back: a number's bytes, the lower first, give the number modulo 256 ^ n, a sample's 16-bit number lies from -32768 to 32767,
-- and so the bytes of samples give exactly the samples' 16-bit numbers. Assumes nothing.
use mathlib.Core.Path.{◌≡◌, refl, sym, ap, ap₂, ◌∙◌}
use mathlib.Core.Bool.{true, false}
use mathlib.Core.List.{List, [], ◌∷◌, ◌++◌, map}
use Prim.Native.Nat.{ℕ, zero, suc, ◌+◌, ◌-◌, ◌*◌, ◌/◌, ◌%◌, ◌^◌, ◌≤◌, ◌<◌, min}
use native.Mathlib.Nat.{pow-suc, one-le-pow, mod-eq_of_lt}
use native.Mathlib.Omega.{arith}
use lib.Arith.{mod-mul}
use lib.IntN.{ℤ, pos, negsuc, neg_ℤ}
use lib.ListN.{take, drop}
use lib.Seq.{drop_at}
use lib.Ieee.{Float, nan, inf, fin, binary32, up, down, mul}
use borrow.Author.Tests.{le-leb, lt-leb}
use Rattle.ieee.specs.Constants.{sample_scale}
use Rattle.form.specs.declared.size.Size.{Size}
use Rattle.form.specs.declared.size.Size.TheVariants.{Published, Old}
use Rattle.form.specs.Form.{le, size_field, header}
use Rattle.form.specs.Sample.{clamp, half_up, whole16, sample16, word, bytes_of, number16, numbers_of}
use Rattle.form.proofs.Published.{header_length}

-- ---- bytes of any number, the lower first

-- the number that bytes stand for
unfoldable pub value : List ℕ → ℕ
value [] = 0
value (b ∷ s) = b + 256 * value s

-- n bytes hold a number modulo 256 ^ n
pub le_value : (n v : ℕ) → value (le n v) ≡ v % 256 ^ n
unfolding le value
le_value zero v = omega arith
le_value (suc n) v =
    ap (λ (k : ℕ). v % 256 + 256 * k) (le_value n (v / 256))
    ∙ sym (ap (λ (k : ℕ). v % k) (pow-suc 256 n) ∙ mod-mul v {m = 256 ^ n} {c = 256} (one-le-pow n 256 (omega arith)) (omega arith) ∙ omega arith)

-- so a number below that comes back whole
pub le_back : (n v : ℕ) → v < 256 ^ n → value (le n v) ≡ v
le_back n v h = le_value n v ∙ mod-eq_of_lt h

-- as the RIFF size and the length of the samples do, at their places of a header
pub sizes_back : (size : Size) (rate n : ℕ) → size_field size n < 256 ^ 4 → 2 * n < 256 ^ 4
    → (value (take 4 (drop 4 (header size rate n))) ≡ size_field size n) × (value (take 4 (drop 40 (header size rate n))) ≡ 2 * n)
unfolding header
sizes_back size rate n h g = (le_back 4 (size_field size n) h, le_back 4 (2 * n) g)

-- two numbers that are four apart are not the same modulo 256 ^ 4
four_apart : (n : ℕ) → (32 + 2 * n) % 256 ^ 4 ≡ (36 + 2 * n) % 256 ^ 4 → ⊥
four_apart n e = omega arith

-- so the four bytes of the RIFF size are others under each of its names, for every number of samples
pub sizes_differ : (rate n : ℕ) → take 4 (drop 4 (header Old rate n)) ≡ take 4 (drop 4 (header Published rate n)) → ⊥
unfolding header size_field
sizes_differ rate n e = four_apart n (sym (le_value 4 (32 + 2 * n)) ∙ ap value e ∙ le_value 4 (36 + 2 * n))

-- ---- 16 bits

-- a number from -32768 to 32767
abbrev pub In16 : ℤ → Type 0
In16 (pos n) = n ≤ 32767
In16 (negsuc n) = n ≤ 32767

below_zero : (n : ℕ) → n ≤ 32768 → In16 (neg_ℤ (pos n))
below_zero zero h = omega arith
below_zero (suc n) h = omega arith

whole_range : (p : Float) → In16 (whole16 p)
unfolding whole16
whole_range nan = omega arith
whole_range (inf true) = omega arith
whole_range (inf false) = omega arith
whole_range (fin true m e) = below_zero (min (half_up (m * up e) (down e)) 32768) (omega arith)
whole_range (fin false m e) = omega arith

-- every sample's number is one
pub sample_range : (x : Float) → In16 (sample16 x)
unfolding sample16
sample_range x = whole_range (mul binary32 (clamp x) sample_scale)

-- whose two bytes give it back
pub word_back : (z : ℤ) → In16 z → number16 (word z % 256) (word z / 256 % 256) ≡ z
unfolding number16 word
word_back (pos n) h = rw (lt-leb 128 (n / 256 % 256) (omega arith), number16) (ap pos (omega arith))
word_back (negsuc n) h = rw (le-leb 128 ((65535 - n) / 256 % 256) (omega arith), number16) (ap negsuc (omega arith))

-- ---- samples

-- the bytes of samples, read as 16-bit numbers, are the samples' numbers
pub samples_back : (xs : List Float) → numbers_of (bytes_of xs) ≡ map sample16 xs
unfolding numbers_of bytes_of
samples_back [] = refl
samples_back (x ∷ xs) = ap₂ (λ (z : ℤ) (zs : List ℤ). z ∷ zs) (word_back (sample16 x) (sample_range x)) (samples_back xs)

-- and so are those after the 44 bytes of a file's header
pub file_back : (size : Size) (rate n : ℕ) (xs : List Float) → numbers_of (drop 44 (header size rate n ++ bytes_of xs)) ≡ map sample16 xs
file_back size rate n xs = ap numbers_of (drop_at (header size rate n) (bytes_of xs) 44 (header_length size rate n)) ∙ samples_back xs
