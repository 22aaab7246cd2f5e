-- How long notes last, in samples at a rate: "A note starts where the sums of ceil(duration·44100) before it end, and sounds ceil((duration +
-- release)·44100) samples"; "The sheet's length is the largest end of a sounding note, 0 without notes." Assumes nothing.
use Rattle.std.specs.Prelude.{Bool, true, false, List, [], ◌∷◌, ℕ, ◌+◌, max, get_or, Float, Result, Ok, Err}
use Rattle.std.specs.Float.{nan, binary32}
use Rattle.std.specs.Float.Ieee.{add}
use Rattle.tone.specs.declared.time.Uncounted.{Uncounted}
use Rattle.tone.specs.Time.{length_of}
use Rattle.sheet.specs.declared.note.Note.{Note}

-- "sounds ceil((duration + release)·44100) samples", at any rate
unfoldable pub sounding_of : ℕ → Float → Note → Result ℕ Uncounted
unfolding length_of
sounding_of rate release n = length_of rate (add binary32 n.duration release)

-- "One note with its release 16,777,216 samples": whether it has a number of samples within that
unfoldable pub is_counted : Result ℕ Uncounted → Bool
is_counted (Ok n) = true
is_counted (Err why) = false

-- how many samples a length has; none where it has no number of them
unfoldable pub samples_of : Result ℕ Uncounted → ℕ
samples_of (Ok n) = n
samples_of (Err why) = 0

-- the largest end of the notes of a part, from a start on, with the releases of the instruments
unfoldable pub end_of : ℕ → List Float → ℕ → List Note → ℕ
unfolding length_of sounding_of samples_of
end_of rate releases start [] = 0
end_of rate releases start (n ∷ ns) =
    max
    (start + samples_of (sounding_of rate (get_or releases n.instrument nan) n))
    (end_of rate releases (start + samples_of (length_of rate n.duration)) ns)

-- the largest end of the notes of several parts, each from sample 0 on
unfoldable pub longest_of : ℕ → List Float → List (List Note) → ℕ
unfolding end_of
longest_of rate releases [] = 0
longest_of rate releases (ns ∷ parts) = max (end_of rate releases 0 ns) (longest_of rate releases parts)
