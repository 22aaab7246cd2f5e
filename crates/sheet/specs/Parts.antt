-- A sheet's arrays as lists: the parts with their notes, the instruments that it counts, and the releases of its table. Assumes nothing.
use Rattle.std.specs.Prelude.{List, [], ◌∷◌, map, ℕ, ◌+◌, take, drop, Float}
use Rattle.instrument.specs.declared.machine.Instrument.{Instrument}
use Rattle.sheet.specs.declared.note.Note.{Note}
use Rattle.sheet.specs.declared.sheet.Sheet.{Sheet}
use Rattle.sheet.specs.Lengths.{longest_of}

-- notes cut into parts: the first has the first so many notes, the next the next so many
unfoldable pub cut : List ℕ → List Note → List (List Note)
cut [] notes = []
cut (c ∷ cs) notes = take c notes ∷ cut cs (drop c notes)

-- how many notes each part has
abbrev pub counts_of : Sheet → List ℕ
counts_of s = take s.parts s.counts

-- the parts, in order of first appearance
unfoldable pub parts_of : Sheet → List (List Note)
unfolding cut
parts_of s = cut (counts_of s) s.notes

-- how many notes there are
unfoldable pub total : List ℕ → ℕ
total [] = 0
total (c ∷ cs) = c + total cs

-- the instruments that the sheet counts
abbrev pub instruments_of : Sheet → List Instrument
instruments_of s = take s.instruments s.table

-- the release of each instrument of a table
unfoldable pub releases_of : List Instrument → List Float
releases_of is = map (λ (i : Instrument). i.release) is

-- "The sheet's length is the largest end of a sounding note, 0 without notes.", in samples at a rate
unfoldable pub length_of : ℕ → Sheet → ℕ
unfolding parts_of releases_of longest_of
length_of rate s = longest_of rate (releases_of (instruments_of s)) (parts_of s)
