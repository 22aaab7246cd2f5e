-- What has a name: macros, and instruments by their places. Assumes nothing.
use Rattle.std.specs.Prelude.{true, false, List, [], ◌∷◌, ℕ, ◌+◌}
use Rattle.std.proofs.Math.Option.{Option, none, some}
use Rattle.text.specs.Characters.{same}
use Rattle.lines.specs.Names.{between}

-- a macro: its name, its body, and its own line
pub record Macro : Type 0 where
  pub name : List ℕ
  pub body : List ℕ
  pub line : ℕ

-- the macro of a name
unfoldable pub macro_named : List ℕ → List Macro → Option Macro
unfolding same
macro_named name [] = none
macro_named name (m ∷ ms) = elim (same name m.name) [ true ↦ some m | false ↦ macro_named name ms ]

-- the place of a name in a list, counted from n
unfoldable pub place_of : List ℕ → ℕ → List (List ℕ) → Option ℕ
unfolding same
place_of name n [] = none
place_of name n (x ∷ xs) = elim (same name x) [ true ↦ some n | false ↦ place_of name (n + 1) xs ]

-- macros in two tables: in the one where each name begins and ends, in the other where its body ends, which begins where the name ends, and its line
unfoldable pub macros_in : List ℕ → List ℕ → List ℕ → List Macro
macros_in s [] bs = []
macros_in s (a ∷ []) bs = []
macros_in s (a ∷ b ∷ ns) [] = []
macros_in s (a ∷ b ∷ ns) (e ∷ []) = []
macros_in s (a ∷ b ∷ ns) (e ∷ l ∷ bs) = record { name = between s a b; body = between s b e; line = l } ∷ macros_in s ns bs
