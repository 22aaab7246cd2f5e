-- Lines are accepted just where no refusal is given of them, whatever the number of their first line: the hypothesis of demand 3 is the
-- one that the refusals 15 and 16 leave. Assumes nothing.
use mathlib.Core.Path.{◌≡◌, refl}
use mathlib.Core.Bool.{Bool, ◌&&◌}
use mathlib.Core.List.{List, [], ◌∷◌}
use mathlib.Core.Option.{Option, some}
use Prim.Native.Nat.{ℕ, zero, suc}
use native.Mathlib.Omega.{arith}
use lib.Dec.{eqb}
use borrow.Author.Tests.{ne_eqb}
use Rattle.tree.specs.Lines.{Line, Refusal, indent_refusal, refusal_from, accepted}

-- of one line: the first refusal is its own, or that of the lines after it
one_line : (n at : ℕ) (later : Refusal) (b : Bool)
    → b ≡ eqb later.number 0
    → (eqb n 0 && b) ≡ (let first : Refusal = elim n [ zero ↦ later | suc m ↦ record { number = suc m; line = at } ] in eqb first.number 0)
one_line zero at later b h = h
one_line (suc n) at later b h = rw (ne_eqb (suc n) 0 (λ z. omega (arith, z))) refl

pub accepted_unrefused : (before : Option ℕ) (at : ℕ) (ls : List Line) → accepted before ls ≡ eqb (refusal_from before at ls).number 0
unfolding accepted refusal_from
accepted_unrefused before at [] = refl
accepted_unrefused before at (l ∷ ls) =
    one_line (indent_refusal before l.indent) at (refusal_from (some l.indent) (suc at) ls) (accepted (some l.indent) ls)
    (accepted_unrefused (some l.indent) (suc at) ls)
