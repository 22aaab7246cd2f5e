-- What the operator lines of an accepted instrument say: no indent is refused, so demand 3 speaks of them, and there are at most 32. Assumes nothing.
use mathlib.Core.Path.{◌≡◌, refl}
use mathlib.Core.List.{List, [], ◌∷◌}
use mathlib.Core.Option.{Option, some}
use Prim.Native.Nat.{ℕ, zero, suc, ◌+◌, ◌≤◌, ◌<◌}
use native.Mathlib.Omega.{arith}
use lib.Dec.{T, eqb}
use lib.ListN.{length}
use lib.Ieee.Fits.{and_i, eq→eqb}
use borrow.Author.Tests.{ltb-true}
use Rattle.tree.specs.Lines.{Line, indent_refusal, accepted}
use Rattle.sheet.specs.Capacities.{operators_most}
use Rattle.sheet.specs.Refusals.{Outcome, going, refused, ◌>>◌}
use Rattle.sheet.proofs.Holds.{Holds, holds_going, holds_unless, holds_then, holds_after}
use Rattle.strict.specs.declared.mode.Mode.{Mode}
use Rattle.operators.specs.OperatorLines.{indented, indent_of, operator_read, operators_read}

-- behind the test of an indent
pub holds_indented : {A : Type 0} (P : A → Type 0) (line : ℕ) (before : Option ℕ) (i : ℕ) (rest : Outcome A) → (indent_refusal before i ≡ 0 → Holds P rest)
    → Holds P (◌>>◌ (indented line before i) rest)
unfolding indented ◌>>◌ Holds
holds_indented P line before i rest h = go (indent_refusal before i) refl
  where
    go : (n : ℕ) → indent_refusal before i ≡ n → Holds P (◌>>◌ (elim n as (λ _. Outcome (Unit {0})) [ zero ↦ going tt | suc m ↦ refused (suc m) line ]) rest)
    go zero e = h e
    go (suc m) e = tt

-- an operator that is read: its indent is not refused, and there is room for it
pub record Fits (before : Option ℕ) (above : ℕ) (o : Line) : Type 0 where
  pub indent : indent_refusal before o.indent ≡ 0
  pub room : above < operators_most

pub one_fits : (mode : Mode) (line : ℕ) (before : Option ℕ) (above : ℕ) (l : List ℕ) → Holds (Fits before above) (operator_read mode line before above l)
unfolding operator_read
one_fits mode line before above l =
    holds_indented _ line before (indent_of l) _
    (λ e. holds_unless _ _ _ _ _
    (λ t. holds_after _ _ _
    (λ xs. holds_after _ _ _
    (λ f. holds_unless _ _ _ _ _ (λ u. holds_going (Fits before above) _ (record { indent = e; room = ltb-true _ _ u }))))))

-- all of them
pub record AllFit (before : Option ℕ) (above : ℕ) (os : List Line) : Type 0 where
  pub indents : T (accepted before os)
  pub few : above + length os ≤ operators_most

pub all_fit : (mode : Mode) (before : Option ℕ) (line above : ℕ) (ls : List (List ℕ)) → above ≤ operators_most → Holds (AllFit before above) (operators_read mode before line above ls)
unfolding operators_read accepted
all_fit mode before line above [] h = holds_going (AllFit before above) [] (record { indents = tt; few = omega arith })
all_fit mode before line above (l ∷ ls) h =
    holds_then (Fits before above) (AllFit before above) (operator_read mode line before above l) _ (one_fits mode line before above l)
    (λ o g. holds_then (AllFit (some o.indent) (above + 1)) (AllFit before above) (operators_read mode (some o.indent) (line + 1) (above + 1) ls) _
    (all_fit mode (some o.indent) (line + 1) (above + 1) ls (omega (arith, g.room)))
    (λ os k. holds_going (AllFit before above) (o ∷ os)
    (record { indents = and_i (eqb (indent_refusal before o.indent) 0) (accepted (some o.indent) os) (eq→eqb g.indent) k.indents; few = omega (arith, k.few) })))
