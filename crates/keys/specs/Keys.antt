-- Accidentals and keys, as document 01 has them: "`k` and `#key` take any run of letters a to g, empty or repeating, then `+`, `-` or `=`"; "Absent
-- accidental: the key's." A note's accidental may also be doubled, as in the Rust. Assumes nothing.
use Rattle.std.specs.Prelude.{Option as Answer, Some, None, Bool, true, false, ◌&&◌, ◌||◌, List, [], ◌∷◌, ℕ, ◌+◌, ◌-◌, leb, eqb, length, drop}
use Rattle.std.proofs.Math.Option.{Option, none, some}
use Prim.Native.Char.{Char, code}
use Rattle.text.specs.Characters.{is, starts_with, begins, row_of}
use Rattle.text.specs.Fronts.{front}
use Rattle.text.specs.declared.parsed.Parsed.{Parsed}
use Rattle.text.specs.Parsed.{parsed}
use Rattle.keys.specs.declared.key.Accidental.{Accidental}
use Rattle.keys.specs.declared.key.Accidental.TheVariants.{DoubleFlat, Flat, Natural, Sharp, DoubleSharp}
use Rattle.keys.specs.declared.key.Key.{Key}

-- ---- accidentals

-- "`+`, `-` or `=`"
abbrev pub accidental_rows : List (Char × Option Accidental)
accidental_rows = ("+", some Sharp) ∷ ("-", some Flat) ∷ ("=", some Natural) ∷ []

unfoldable pub accidental_of : ℕ → Option Accidental
unfolding row_of
accidental_of b = row_of b none accidental_rows

-- the accidental that a text begins with
unfoldable pub key_accidental : List ℕ → Option Accidental
unfolding accidental_of
key_accidental [] = none
key_accidental (b ∷ s) = accidental_of b

-- the accidental that a note's text begins with: it may be doubled
unfoldable pub note_accidental : List ℕ → Option Accidental
unfolding accidental_of starts_with
note_accidental [] = none
note_accidental (b ∷ s) =
    elim (is "+" b && begins "+" s) [
      | true ↦ some DoubleSharp
      | false ↦ elim (is "-" b && begins "-" s) [ true ↦ some DoubleFlat | false ↦ accidental_of b ]
    ]

-- how many bytes it takes
unfoldable pub accidental_width : Accidental → ℕ
accidental_width DoubleFlat = 2
accidental_width Flat = 1
accidental_width Natural = 1
accidental_width Sharp = 1
accidental_width DoubleSharp = 2

-- an accidental at a place, with the place after it
unfoldable pub mark_of : ℕ → Option Accidental → Answer (Parsed Accidental)
unfolding accidental_width
mark_of at none = None
mark_of at (some a) = Some (parsed a (at + accidental_width a))

-- the accidental of a key at place `at` of the text s, and that of a note
unfoldable pub mark_at : List ℕ → ℕ → Answer (Parsed Accidental)
unfolding key_accidental mark_of
mark_at s at = mark_of at (key_accidental (drop at s))

unfoldable pub note_mark_at : List ℕ → ℕ → Answer (Parsed Accidental)
unfolding note_accidental mark_of
note_mark_at s at = mark_of at (note_accidental (drop at s))

-- a semitone moved by an accidental
unfoldable pub moved_by : Accidental → ℕ → ℕ
moved_by DoubleFlat s = s - 2
moved_by Flat s = s - 1
moved_by Natural s = s
moved_by Sharp s = s + 1
moved_by DoubleSharp s = s + 2

-- ---- keys

-- "letters a to g"
unfoldable pub is_key_letter : ℕ → Bool
is_key_letter b = leb (code "a") b && leb b (code "g")

-- whether a letter is among letters
unfoldable pub among : List ℕ → ℕ → Bool
among [] letter = false
among (b ∷ s) letter = eqb b letter || among s letter

-- the key of a run of letters and an accidental
unfoldable pub key_of : List ℕ → Accidental → Key
unfolding among
key_of letters accidental =
    record {
      a = among letters (code "a");
      b = among letters (code "b");
      c = among letters (code "c");
      d = among letters (code "d");
      e = among letters (code "e");
      f = among letters (code "f");
      g = among letters (code "g");
      accidental = accidental;
    }

-- a run of letters and then an accidental is a key, with the place after it; without the accidental there is none
unfoldable pub key_from : List ℕ → Answer (Parsed Accidental) → Answer (Parsed Key)
unfolding key_of
key_from letters (Some mark) = Some (parsed (key_of letters mark.value) mark.next)
key_from letters None = None

-- "any run of letters a to g, empty or repeating, then `+`, `-` or `=`", at place `at` of the text s
unfoldable pub key_at : List ℕ → ℕ → Answer (Parsed Key)
unfolding front is_key_letter mark_at key_from
key_at s at =
    key_from (front is_key_letter (drop at s)) (mark_at s (at + length (front is_key_letter (drop at s))))

-- what a key says of each letter
abbrev pub key_rows : Key → List (Char × Bool)
key_rows k = ("a", k.a) ∷ ("b", k.b) ∷ ("c", k.c) ∷ ("d", k.d) ∷ ("e", k.e) ∷ ("f", k.f) ∷ ("g", k.g) ∷ []

-- an accidental and a key without the place after them
unfoldable pub accidental_found : Answer (Parsed Accidental) → Option Accidental
accidental_found (Some mark) = some mark.value
accidental_found None = none

unfoldable pub key_found : Answer (Parsed Key) → Option Key
key_found (Some key) = some key.value
key_found None = none

-- where the reading of a text from its start stopped: behind the key, or at the start where there is none
unfoldable pub key_width : Answer (Parsed Key) → ℕ
key_width (Some key) = key.next
key_width None = 0

-- whether a letter is in a key: `r` never is
unfoldable pub in_key : Key → ℕ → Bool
unfolding row_of
in_key k letter = row_of letter false (key_rows k)

-- the accidental that a key gives to a letter
unfoldable pub accidental_in : Key → ℕ → Accidental
unfolding in_key
accidental_in k letter = elim (in_key k letter) [ true ↦ k.accidental | false ↦ Natural ]

-- "Absent accidental: the key's"
unfoldable pub keyed : Key → ℕ → Option Accidental → Accidental
unfolding accidental_in
keyed k letter (some a) = a
keyed k letter none = accidental_in k letter
