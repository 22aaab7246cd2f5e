-- The answers to some of document 01's sheets, and to the words of the command line, by example, computed. Assumes nothing.
use mathlib.Core.Path.{◌≡◌, refl}
use mathlib.Core.List.{List, [], ◌∷◌, map}
use Prim.Native.Nat.{ℕ}
use Rattle.std.specs.Prelude.{Some, None}
use Prim.Native.String.{String}
use lib.ListN.{length, take, drop}
use lib.Ieee.{round, add, sub, mul, div, lt, of_bits, of_int}
use Rattle.text.specs.Quoted.{bytes}
use Rattle.sheet.specs.Refusals.{◌>>=◌, ◌>>◌, refuse◌on◌unless◌, refuse◌on◌if◌, refuse◌on◌without◌}
use Rattle.form.specs.declared.size.Size.{Size}
use Rattle.form.specs.declared.size.Size.TheVariants.{Published, Old}
use Rattle.strict.specs.declared.mode.Mode.TheVariants.{Plain, Strict}
use Rattle.cue.specs.Answer.{answer_of}
use Rattle.cue.specs.Words.{asked_by}

-- sheets 4, 5 and 8, and one whose third line is refused
abbrev pub refusals : List (String × String)
refusals =
    ("p [c]0", "refused 11 1\n")
    ∷ ("p [", "refused 26 0\n")
    ∷ ("p v1.0000001 c", "refused 8 1\n")
    ∷ ("@i\n1 1 0 0 1 0\n\t\t2 1 0 0 1 0", "refused 16 3\n")
    ∷ []

pub refused : map (λ (row : String × String). answer_of Plain Published (bytes row.0)) refusals ≡ map (λ (row : String × String). bytes row.1) refusals
unfolding answer_of ◌>>=◌ ◌>>◌ refuse◌on◌unless◌ refuse◌on◌if◌ refuse◌on◌without◌ round add sub mul div lt of_bits of_int
refused = refl

-- sheet 6: a file of 44 bytes, which says that 36 follow its size field, or 32 by the old name
abbrev pub size_in : Size → List ℕ
size_in size = take 4 (drop 4 (answer_of Plain size (bytes "p ;")))

pub empty : (length (answer_of Plain Published (bytes "p ;")) ≡ 44) × (size_in Published ≡ 36 ∷ 0 ∷ 0 ∷ 0 ∷ []) × (size_in Old ≡ 32 ∷ 0 ∷ 0 ∷ 0 ∷ [])
unfolding answer_of ◌>>=◌ ◌>>◌ refuse◌on◌unless◌ refuse◌on◌if◌ refuse◌on◌without◌ round add sub mul div lt of_bits of_int
empty = (refl, refl, refl)

-- the words that the program is started with, and what it is asked by them
pub words :
    (asked_by 1 [] [] ≡ Some (Plain, Published))
    × (asked_by 2 (bytes "strict") [] ≡ Some (Strict, Published))
    × (asked_by 2 (bytes "old-size") [] ≡ Some (Plain, Old))
    × (asked_by 3 (bytes "strict") (bytes "old-size") ≡ Some (Strict, Old))
    × (asked_by 3 (bytes "old-size") (bytes "strict") ≡ Some (Strict, Old))
    × (asked_by 3 (bytes "strict") (bytes "strict") ≡ None)
    × (asked_by 3 (bytes "old-size") (bytes "old-size") ≡ None)
    × (asked_by 2 (bytes "old") [] ≡ None)
    × (asked_by 4 (bytes "strict") (bytes "old-size") ≡ None)
unfolding asked_by
words = (refl, refl, refl, refl, refl, refl, refl, refl, refl)
