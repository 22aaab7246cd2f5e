-- Numerals at the places where they get longer, and the line of a refusal in buffers with and without room for it, computed. Assumes nothing.
use mathlib.Core.Path.{◌≡◌, refl}
use mathlib.Core.List.{[], ◌∷◌, map}
use Rattle.text.specs.Quoted.{bytes}
use Rattle.refusal.specs.Line.{numeral, line_count, line_in}

pub numerals : map numeral (0 ∷ 9 ∷ 10 ∷ 26 ∷ 99 ∷ 100 ∷ 32769 ∷ []) ≡ map bytes ("0" ∷ "9" ∷ "10" ∷ "26" ∷ "99" ∷ "100" ∷ "32769" ∷ [])
unfolding numeral bytes
numerals = refl

-- a line of 13 bytes, and none where there is room for 49
pub counts : (line_count 26 0 50 ≡ 13) × (line_count 26 0 49 ≡ 0)
unfolding line_count bytes
counts = (refl, refl)

pub short : line_in 26 0 (bytes "nothing is written") ≡ bytes "nothing is written"
unfolding line_in bytes
short = refl
