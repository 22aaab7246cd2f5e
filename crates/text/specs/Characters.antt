-- Characters and names: whether a byte is a character, whether a text begins with one, whether two texts are the same, and what a table has for a
-- character or a text. Tables of characters are how document 01 lists what a body may hold. Assumes nothing.
use Rattle.std.specs.Prelude.{Bool, true, false, ◌&&◌, List, [], ◌∷◌, ℕ, eqb}
use Prim.Native.Char.{Char, code}
use Prim.Native.String.{String}
use Rattle.text.specs.Quoted.{bytes}

-- whether b is the character c
abbrev pub is : Char → ℕ → Bool
is c b = eqb b (code c)

-- whether a text begins with the byte c
unfoldable pub starts_with : ℕ → List ℕ → Bool
starts_with c [] = false
starts_with c (b ∷ s) = eqb b c

-- whether it begins with the character c
abbrev pub begins : Char → List ℕ → Bool
begins c s = starts_with (code c) s

-- whether two texts are the same
unfoldable pub same : List ℕ → List ℕ → Bool
same [] [] = true
same [] (b ∷ t) = false
same (a ∷ s) [] = false
same (a ∷ s) (b ∷ t) = eqb a b && same s t

-- what a table has for the character b, and `other` where it has nothing
unfoldable pub row_of : {A : Type 0} → ℕ → A → List (Char × A) → A
row_of b other [] = other
row_of b other (row ∷ rows) = elim (is row.0 b) [ true ↦ row.1 | false ↦ row_of b other rows ]

-- what a table has for a text, and `other` where it has nothing
unfoldable pub row_named : {A : Type 0} → List ℕ → A → List (String × A) → A
unfolding same bytes
row_named t other [] = other
row_named t other (row ∷ rows) = elim (same t (bytes row.0)) [ true ↦ row.1 | false ↦ row_named t other rows ]
