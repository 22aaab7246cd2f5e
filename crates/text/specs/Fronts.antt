-- A text is the list of its bytes. It is read from the front: the longest run at its start whose bytes pass a test, and what
-- follows that run. Digits, names, lines and tokens are such runs. Assumes nothing.
use Rattle.std.specs.Prelude.{Bool, true, false, List, [], ◌∷◌, ℕ}

-- the longest front of a text whose bytes all pass the test p
unfoldable pub front : (ℕ → Bool) → List ℕ → List ℕ
front p [] = []
front p (b ∷ s) = elim (p b) [ true ↦ b ∷ front p s | false ↦ [] ]

-- what follows that front
unfoldable pub after : (ℕ → Bool) → List ℕ → List ℕ
after p [] = []
after p (b ∷ s) = elim (p b) [ true ↦ after p s | false ↦ b ∷ s ]
