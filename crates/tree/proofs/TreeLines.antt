-- The tree is the one that the lines describe: written out again with its levels as indents, it is the lines, each one once and in
-- their order. Every accepted list has this, with equal neighbours or without. With its chains the tree has the same operators, each one once and in their order.
-- Assumes nothing.
use mathlib.Core.Path.{◌≡◌, refl, sym, ap, ap₂, ◌∙◌}
use mathlib.Core.Logic.{inl, inr}
use mathlib.Core.List.{List, [], ◌∷◌, ◌++◌, append_assoc, append-nil}
use mathlib.Core.Option.{none, some}
use Prim.Native.Nat.{ℕ, zero, suc, ◌+◌, ◌≤◌, ◌<◌}
use native.Mathlib.Nat.{le_of_suc-le-suc, eq-or-lt_of_le, not-suc-le-zero, le_refl}
use native.Mathlib.Omega.{arith}
use lib.Dec.{T}
use Rattle.operator.specs.declared.operator.Operator.{Operator}
use Rattle.tree.specs.Lines.{Line, accepted}
use Rattle.tree.specs.Tree.{Forest, bare, grown, forest_at, tree_of}
use Rattle.tree.specs.Chains.{chained}
use Rattle.tree.proofs.Descent.{forest_same, forest_ended, forest_passed, next_accepted, first_accepted}

-- a forest written out as lines, from a level of indent on
pub lines_at : ℕ → Forest → List Line
lines_at level bare = []
lines_at level (grown op kids later) = record { indent = level; op = op } ∷ (lines_at (suc level) kids ++ lines_at level later)

-- the forests of the levels below j, the deepest first, written out
lower : ℕ → List Line → List Line
lower zero ls = []
lower (suc j) ls = lines_at j (forest_at j ls) ++ lower j ls

lower_none : (j : ℕ) → lower j [] ≡ []
unfolding lower lines_at forest_at
lower_none zero = refl
lower_none (suc j) = lower_none j

lower_passed : (j : ℕ) (l : Line) (ls : List Line) → j ≤ l.indent → lower j (l ∷ ls) ≡ lower j ls
unfolding lower
lower_passed zero l ls h = refl
lower_passed (suc j) l ls h = ap₂ (λ (f : Forest) (rest : List Line). lines_at j f ++ rest) (forest_passed j l ls h) (lower_passed j l ls (omega arith))

-- above a line's own level there is nothing
lower_above : (j : ℕ) (l : Line) (ls : List Line) → l.indent < j → lower j (l ∷ ls) ≡ lower (suc l.indent) (l ∷ ls)
unfolding lower lines_at
lower_above zero l ls h = absurd (not-suc-le-zero h)
lower_above (suc j) l ls h =
    elim (eq-or-lt_of_le (le_of_suc-le-suc h)) [
      | inl e ↦ ap (λ (n : ℕ). lower (suc n) (l ∷ ls)) (sym e)
      | inr g ↦ ap (λ (f : Forest). lines_at j f ++ lower j (l ∷ ls)) (forest_ended j l ls g) ∙ lower_above j l ls g
    ]

-- the lines after a line of indent i are the forests up to level i + 1, written out
after_line : (i : ℕ) (ls : List Line) → T (accepted (some i) ls) → lower (suc (suc i)) ls ≡ ls
unfolding lower lines_at
after_line i [] a = lower_none (suc (suc i))
after_line i (l ∷ ls) a =
    let p = next_accepted i l ls a in
    let k = l.indent in
    let t = after_line k ls p.1 in
    lower_above (suc (suc i)) l ls (omega (arith, p.0))
    ∙ ap₂ (λ (f : Forest) (rest : List Line). lines_at k f ++ rest) (forest_same l ls) (lower_passed k l ls (le_refl k))
    ∙ ap (λ (rest : List Line). l ∷ rest) (append_assoc (lines_at (suc k) (forest_at (suc k) ls)) (lines_at k (forest_at k ls)) (lower k ls) ∙ t)

unindented : (l : Line) (ls : List Line) → l.indent ≡ 0 → T (accepted (some l.indent) ls) → lines_at l.indent (forest_at l.indent (l ∷ ls)) ≡ l ∷ ls
unfolding lower lines_at
unindented l ls z a =
    let k = l.indent in
    let X = lines_at (suc k) (forest_at (suc k) ls) in
    let Y = lines_at k (forest_at k ls) in
    let none_lower : lower k ls ≡ [] = ap (λ (n : ℕ). lower n ls) z in
    ap (lines_at k) (forest_same l ls)
    ∙ ap (λ (rest : List Line). l ∷ (X ++ rest)) (sym (append-nil Y) ∙ ap (λ (rest : List Line). Y ++ rest) (sym none_lower))
    ∙ ap (λ (rest : List Line). l ∷ rest) (after_line k ls a)

pub tree_lines : (ls : List Line) → T (accepted none ls) → lines_at 0 (tree_of ls) ≡ ls
unfolding tree_of forest_at lines_at
tree_lines [] a = refl
tree_lines (l ∷ ls) a =
    let z = first_accepted l ls a in
    ap (λ (n : ℕ). lines_at n (forest_at n (l ∷ ls))) (sym z.0) ∙ unindented l ls z.0 z.1

-- ---- with chains

-- a forest's operators, each before its children and those before its later siblings
pub operators_of : Forest → List Operator
operators_of bare = []
operators_of (grown op kids later) = op ∷ (operators_of kids ++ operators_of later)

pub chained_operators : (f : Forest) → operators_of (chained f) ≡ operators_of f
unfolding operators_of chained
chained_operators bare = refl
chained_operators (grown op bare bare) = refl
chained_operators (grown op bare (grown next kids later)) =
    ap (λ (os : List Operator). op ∷ os) (append-nil (operators_of (chained (grown next kids later))) ∙ chained_operators (grown next kids later))
chained_operators (grown op (grown first kids rest) later) =
    ap₂ (λ (os ps : List Operator). op ∷ (os ++ ps)) (chained_operators (grown first kids rest)) (chained_operators later)
