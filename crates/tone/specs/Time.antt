-- Seconds and samples, as document 01 has them: "Duration = (60 / tempo) · (denominator / value), then times 1.5 if dotted, f32 at
-- each operation", and lengths "ceil(duration·44100) .. products and sums in f32". The rate is a parameter. A length has
-- its own error for a time that is not a number, for one below zero, and for more samples than one note may have. Assumes nothing.
use Rattle.std.specs.Prelude.{ℕ, ◌+◌, ◌-◌, ◌*◌, ◌/◌, Bool, true, false, pos, ◌==◌, nat_le, Float, Result, Ok, Err}
use Rattle.std.specs.Float.{nan, inf, fin, binary32}
use Rattle.std.specs.Float.Ieee.{up, down, mul, div, of_int}
use Rattle.ieee.specs.Constants.{dot_factor, minute}
use Rattle.tone.specs.declared.time.Uncounted.{Uncounted}
use Rattle.tone.specs.declared.time.Uncounted.TheVariants.{NotANumber, Negative, TooMany}

-- "then times 1.5 if dotted"
unfoldable pub dotted_time : Bool → Float → Float
dotted_time true d = mul binary32 d dot_factor
dotted_time false d = d

-- "(60 / tempo) · (denominator / value)"; a whole number becomes the f32 nearest to it
unfoldable pub duration_of : ℕ → ℕ → ℕ → Bool → Float
unfolding dotted_time
duration_of tempo denom value dotted =
    dotted_time dotted
    (mul binary32
    (div binary32 minute (of_int binary32 (pos tempo)))
    (div binary32 (of_int binary32 (pos denom)) (of_int binary32 (pos value))))

-- "One note with its release 16,777,216 samples"
abbrev pub note_most : ℕ
note_most = 16777216

-- the least whole number that is at least n / d
unfoldable pub ceiling : ℕ → ℕ → ℕ
ceiling n d = (n + (d - 1)) / d

-- a time counted in samples, as a whole number of them
unfoldable pub count_of : Float → Result ℕ Uncounted
unfolding ceiling
count_of nan = Err NotANumber
count_of (inf true) = Err Negative
count_of (inf false) = Err TooMany
count_of (fin true m e) = elim (m == 0) [ true ↦ Ok 0 | false ↦ Err Negative ]
count_of (fin false m e) =
    elim (nat_le (ceiling (m * up e) (down e)) note_most) [ true ↦ Ok (ceiling (m * up e) (down e)) | false ↦ Err TooMany ]

-- "ceil(duration·44100)", at any rate
unfoldable pub length_of : ℕ → Float → Result ℕ Uncounted
unfolding count_of
length_of rate seconds = count_of (mul binary32 seconds (of_int binary32 (pos rate)))
