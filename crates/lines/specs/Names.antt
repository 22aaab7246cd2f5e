-- Names as places in a text: a table has two places for each name, where it begins and where it ends. Assumes nothing.
use Rattle.std.specs.Prelude.{true, false, List, [], ◌∷◌, ℕ, ◌+◌, ◌-◌, take, drop}
use Rattle.text.specs.Characters.{same}

-- the part of a text from a place to a place
abbrev pub between : List ℕ → ℕ → ℕ → List ℕ
between s a e = take (e - a) (drop a s)

-- the names of a table
unfoldable pub names_in : List ℕ → List ℕ → List (List ℕ)
names_in s [] = []
names_in s (a ∷ []) = []
names_in s (a ∷ e ∷ places) = between s a e ∷ names_in s places

-- how many names stand before the first that is this one; where none is, how many there are
unfoldable pub place_among : List ℕ → List (List ℕ) → ℕ
unfolding same
place_among name [] = 0
place_among name (x ∷ xs) = elim (same name x) [ true ↦ 0 | false ↦ place_among name xs + 1 ]
