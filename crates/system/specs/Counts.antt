-- How many bytes at the start of a buffer mean something. Assumes nothing.
use Rattle.std.specs.Prelude.{◌≡◌, Option, None, Some, List, ℕ, ◌≤◌, length, take, ⊤}
use Rattle.std.specs.Io.KnownBytes.{Keeps}

-- n counts bytes at the start of xs; the second part follows from the first, and both are what `&buf[..n]` asks
abbrev pub Counts : ℕ → List ℕ → Type 0
Counts n xs = (n ≤ length xs) × (n ≡ length (take n xs))

-- as many bytes as were read are there
abbrev pub Within : Option ℕ → List ℕ → Type 0
Within (Some n) bytes = Counts n bytes
Within None bytes = Unit

-- Of a reader whose bytes are known: those that were read are its first ones, as many as the buffer has room for.
abbrev pub ReadsFirst : Option (List ℕ) → Option ℕ → List ℕ → Type 0
ReadsFirst None read bytes = ⊤
ReadsFirst (Some xs) (Some n) bytes = take n bytes ≡ take (length bytes) xs
ReadsFirst (Some xs) None bytes = ⊤

-- where reading did not fail, known bytes stay as they were
abbrev pub KeepsUnlessFailed : Option ℕ → Option (List ℕ) → Option (List ℕ) → Type 0
KeepsUnlessFailed (Some n) old new = Keeps old new
KeepsUnlessFailed None old new = ⊤
