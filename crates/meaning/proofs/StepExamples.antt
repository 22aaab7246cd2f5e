-- Step counts of sheets, computed. Document 01: "A reading step is one note, command, mark or macro call; blanks and `;` are none.": a macro's body counts each time
-- that it is called, a loop's once, and lines beside the parts count nothing. Assumes nothing.
use mathlib.Core.Path.{◌≡◌, refl}
use mathlib.Core.List.{List, [], ◌∷◌, map}
use Prim.Native.Nat.{ℕ}
use Prim.Native.String.{String}
use lib.Ieee.{round, add, sub, mul, div, lt, of_bits, of_int}
use Rattle.sheet.specs.Refusals.{Outcome, going, ◌>>=◌, ◌>>◌, refuse◌on◌unless◌, refuse◌on◌if◌, refuse◌on◌without◌}
use Rattle.strict.specs.declared.mode.Mode.TheVariants.{Plain}
use Rattle.meaning.specs.Answers.{answer}

-- the steps of an accepted sheet
abbrev steps_of : String → Outcome ℕ
steps_of text = ◌>>=◌ (answer Plain text) (λ a. going a.steps)

unfoldable pub counts : List (String × ℕ)
counts =
    ("p ; c d", 0)
    ∷ ("p c  d ; e", 2)
    ∷ ("p [c:d]9", 5)
    ∷ ("!m cc\np !m", 3)
    ∷ ("!m cc\np !m !m", 6)
    ∷ ("!m cc\np [!m ]4", 5)
    ∷ ("!m ; cc\np !m c", 2)
    -- a call in a macro: one for `!n`, three for `!m cc`, one for `d`, and three for `!m` again
    ∷ ("!m cc\n!n !m d\np !n !m", 8)
    ∷ ("!a c\n!b !a !a\n!c !b !b\np !c", 11)
    -- what stands in no body counts nothing
    ∷ ("@i\n1 1 0 0 1 0\n\n#tempo 60\n!m @i c\np !m\nq r", 4)
    ∷ []

pub counted : map (λ (row : String × ℕ). steps_of row.0) counts ≡ map (λ (row : String × ℕ). going row.1) counts
unfolding counts answer ◌>>=◌ ◌>>◌ refuse◌on◌unless◌ refuse◌on◌if◌ refuse◌on◌without◌ round add sub mul div lt of_bits of_int
counted = refl
