-- Laws of tables of characters: a byte that is the first row's character has that row, and else what the other rows have. Assumes nothing.
use mathlib.Core.Path.{◌≡◌, refl, sym, ◌∙◌}
use mathlib.Core.List.{List, [], ◌∷◌}
use Prim.Native.Nat.{ℕ, zero, suc}
use Prim.Native.Char.{Char, code}
use lib.ListN.{take, drop}
use borrow.Author.Tests.{eq-eqb, ne_eqb}
use Rattle.text.specs.Characters.{row_of}

module _ {A : Type 0} (b : ℕ) (other : A) (c : Char) (x : A) (rows : List (Char × A)) where
  pub row_here : b ≡ code c → row_of b other ((c, x) ∷ rows) ≡ x
  unfolding row_of
  row_here e = rw (eq-eqb b (code c) e, row_of)

  pub row_there : (b ≡ code c → ⊥) → row_of b other ((c, x) ∷ rows) ≡ row_of b other rows
  unfolding row_of
  row_there e = rw (ne_eqb b (code c) e, row_of)

-- a byte that is no row's character
abbrev pub Differs : {A : Type 0} → ℕ → List (Char × A) → Type 0
Differs b [] = Unit
Differs b (row ∷ rows) = (b ≡ code row.0 → ⊥) × Differs b rows

-- has what stands for all others
pub row_none : {A : Type 0} (b : ℕ) (other : A) (rows : List (Char × A)) → Differs b rows → row_of b other rows ≡ other
unfolding row_of
row_none b other [] h = refl
row_none b other (row ∷ rows) h = row_there b other row.0 row.1 rows h.0 ∙ row_none b other rows h.1

-- and rows that it passes may be left out
pub row_past : {A : Type 0} (k b : ℕ) (other : A) (rows : List (Char × A)) → Differs b (take k rows) → row_of b other (drop k rows) ≡ row_of b other rows
unfolding row_of
row_past zero b other rows h = refl
row_past (suc k) b other [] h = refl
row_past (suc k) b other (row ∷ rows) h = row_past k b other rows h.1 ∙ sym (row_there b other row.0 row.1 rows h.0)
