-- The file that is written is the published form, byte for byte: its chunks have even lengths, so no byte is padded, and the RIFF size counts every byte behind
-- it. With the old size it is the same file but for the four bytes of that field. Assumes nothing.
use mathlib.Core.Path.{◌≡◌, refl, sym, ap, ◌∙◌}
use mathlib.Core.List.{List, [], ◌∷◌, ◌++◌}
use Prim.Native.Nat.{ℕ, ◌+◌, ◌*◌, ◌%◌}
use native.Mathlib.Omega.{arith}
use lib.ListN.{length, take, drop}
use lib.Seq.{take_at}
use lib.Ieee.{Float}
use borrow.Author.Tests.{eq-eqb}
use Rattle.form.specs.declared.size.Size.{Size}
use Rattle.form.specs.declared.size.Size.TheVariants.{Published, Old}
use Rattle.form.specs.Form.{padded, wave_body, wave_file, published, size_field, header}
use Rattle.form.specs.Sample.{bytes_of}

-- ---- how long the parts are

-- a header has 44 bytes
pub header_length : (size : Size) (rate n : ℕ) → length (header size rate n) ≡ 44
unfolding header
header_length size rate n = refl

-- a sample has two
pub bytes_length : (xs : List Float) → length (bytes_of xs) ≡ 2 * length xs
unfolding bytes_of
bytes_length [] = refl
bytes_length (x ∷ xs) = omega (arith, bytes_length xs)

-- what has an even length is not padded
padded_even : (body : List ℕ) → length body % 2 ≡ 0 → padded body ≡ body
unfolding padded
padded_even body h = rw (eq-eqb _ _ h, padded)

-- ---- the form around an even number of bytes

module _ (rate : ℕ) (body : List ℕ) (n : ℕ) (even : length body ≡ 2 * n) where
  -- 4 + 24 + 8 bytes and the samples' own
  body_length : length (wave_body rate body) ≡ 36 + 2 * n
  unfolding wave_body
  body_length = rw (padded_even body (omega arith)) (omega arith)

  -- the header goes in front
  file_is : (size : Size) → header size rate n ++ body ≡ wave_file (size_field size n) rate body
  unfolding wave_file header
  file_is size = rw (padded_even (wave_body rate body) (omega (arith, body_length)), padded_even body (omega arith), even)

  -- as published, it says how long the rest is
  published_is : header Published rate n ++ body ≡ published rate body
  unfolding wave_file published size_field
  published_is = file_is Published ∙ rw body_length

  -- and is the published file's front
  front_is : header Published rate n ≡ take 44 (published rate body)
  front_is = sym (ap (take 44) (sym published_is) ∙ take_at (header Published rate n) body 44 (header_length Published rate n))

-- ---- the file of given samples

-- the header and the samples are the published file
pub file_published : (rate : ℕ) (xs : List Float) → header Published rate (length xs) ++ bytes_of xs ≡ published rate (bytes_of xs)
file_published rate xs = published_is rate (bytes_of xs) (length xs) (bytes_length xs)

-- so the header is its first 44 bytes
pub header_published : (rate : ℕ) (xs : List Float) → header Published rate (length xs) ≡ take 44 (published rate (bytes_of xs))
header_published rate xs = front_is rate (bytes_of xs) (length xs) (bytes_length xs)

-- under the old name it is the form's file whose RIFF size says 32 + 2n
pub file_old : (rate : ℕ) (xs : List Float) → header Old rate (length xs) ++ bytes_of xs ≡ wave_file (32 + 2 * length xs) rate (bytes_of xs)
unfolding size_field
file_old rate xs = file_is rate (bytes_of xs) (length xs) (bytes_length xs) Old

-- ---- the two sizes

-- two files agree before and behind the four bytes of the size, whatever it is called
pub beside_the_size : (a b : Size) (rate n : ℕ) (body : List ℕ)
    → (take 4 (header a rate n ++ body) ≡ take 4 (header b rate n ++ body)) × (drop 8 (header a rate n ++ body) ≡ drop 8 (header b rate n ++ body))
unfolding header
beside_the_size a b rate n body = (refl, refl)
