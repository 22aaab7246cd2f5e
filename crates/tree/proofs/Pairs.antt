-- Pairs of neighbouring lines of equal indent, and the tree with chains where there is none. In an accepted list a line is childless and has a later sibling just where the
-- next line has its indent (`paired`, `unpaired`): so `chained`, which looks at the tree, is request T-13's chain, which looks at the lines. Where no two neighbours have equal
-- indent, the hypothesis of demand 3 with chains holds (`stepped_last`) and the tree is as it was (`stepped_same`). Assumes nothing.
use mathlib.Core.Path.{◌≡◌, refl, sym, ap₂, subst}
use mathlib.Core.Bool.{Bool, true, false, not}
use mathlib.Core.Logic.{◌⊎◌, inl, inr}
use mathlib.Core.List.{List, [], ◌∷◌}
use mathlib.Core.Option.{none, some}
use Prim.Native.Nat.{ℕ, suc, ◌≤◌}
use native.Mathlib.Nat.{eq-or-lt_of_le}
use native.Mathlib.Numerals.{add-one}
use native.Mathlib.Omega.{arith}
use lib.Dec.{T, eqb, leb}
use lib.Ieee.Fits.{and_l, and_r}
use borrow.Author.Tests.{eq-eqb, leb-true, leb-false}
use Rattle.operator.specs.declared.operator.Operator.{Operator}
use Rattle.tree.specs.Lines.{Line, accepted}
use Rattle.tree.specs.Tree.{Forest, bare, grown, forest_at, tree_of, stepped_after, stepped}
use Rattle.tree.specs.Chains.{chained, chains_last_after, chains_last}
use Rattle.tree.proofs.Descent.{forest_same, forest_here, forest_ended, forest_passed, next_accepted, first_accepted, pair_last_law}

-- ---- pairs

-- a line before one of equal indent is childless, and that one is its next sibling
pub paired : (l m : Line) (ms : List Line) → l.indent ≡ m.indent
    → (forest_at (suc l.indent) (m ∷ ms) ≡ bare) × (forest_at l.indent (m ∷ ms) ≡ grown m.op (forest_at (suc m.indent) ms) (forest_at m.indent ms))
paired l m ms e =
    (forest_ended (suc l.indent) m ms (omega arith), forest_here l.indent m ms (sym e))

-- a line before one of another indent has it as its first child, or has neither children nor later siblings
pub unpaired : (l m : Line) (ms : List Line) → m.indent ≤ suc l.indent → (l.indent ≡ m.indent → ⊥)
    → (forest_at (suc l.indent) (m ∷ ms) ≡ grown m.op (forest_at (suc m.indent) ms) (forest_at m.indent ms))
    ⊎ ((forest_at (suc l.indent) (m ∷ ms) ≡ bare) × (forest_at l.indent (m ∷ ms) ≡ bare))
unpaired l m ms h n =
    elim (eq-or-lt_of_le h) [
      | inl e ↦ inl (forest_here (suc l.indent) m ms e)
      | inr g ↦ inr (forest_ended (suc l.indent) m ms g, forest_ended l.indent m ms (omega arith))
    ]

-- So the tree with chains is, line by line, what the request says, of every accepted list: a line before one of equal indent is modulated by the forest that this one begins, and the sum
-- ends with it; any other has its children and its later siblings, as in the tree without chains.
pub chain_here : (l m : Line) (ms : List Line) → l.indent ≡ m.indent
    → chained (forest_at l.indent (l ∷ m ∷ ms)) ≡ grown l.op (chained (forest_at l.indent (m ∷ ms))) bare
unfolding chained
chain_here l m ms e = let p = paired l m ms e in rw (forest_same l (m ∷ ms), p.0, p.1)

pub no_chain_here : (l m : Line) (ms : List Line) → m.indent ≤ suc l.indent → (l.indent ≡ m.indent → ⊥)
    → chained (forest_at l.indent (l ∷ m ∷ ms)) ≡ grown l.op (chained (forest_at (suc l.indent) (m ∷ ms))) (chained (forest_at l.indent (m ∷ ms)))
unfolding chained
no_chain_here l m ms h n =
    elim (unpaired l m ms h n) [ inl e ↦ rw (forest_same l (m ∷ ms), e) | inr p ↦ rw (forest_same l (m ∷ ms), p.0, p.1) ]

pub last_here : (l : Line) → chained (forest_at l.indent (l ∷ [])) ≡ grown l.op bare bare
unfolding chained forest_at
last_here l = rw (forest_same l [])

-- ---- no pairs

pub next_stepped : (i : ℕ) (l : Line) (ls : List Line) → T (stepped_after i (l ∷ ls))
    → (i ≡ l.indent → ⊥) × T (stepped_after l.indent ls)
unfolding stepped_after
next_stepped i l ls t =
    (apart (and_l (not (eqb i l.indent)) (stepped_after l.indent ls) t), and_r (not (eqb i l.indent)) (stepped_after l.indent ls) t)
  where
    apart : T (not (eqb i l.indent)) → i ≡ l.indent → ⊥
    apart h e = subst (λ (b : Bool). T (not b)) (eq-eqb i l.indent e) h

last_after : (i : ℕ) (ls : List Line) → T (stepped_after i ls) → T (chains_last_after i ls)
unfolding chains_last_after
last_after i [] s = tt
last_after i (l ∷ ls) s =
    let q = next_stepped i l ls s in
    pair_last_law i l ls (λ e. absurd (q.0 e)) (last_after l.indent ls q.1)

pub stepped_last : (ls : List Line) → T (stepped ls) → T (chains_last ls)
unfolding stepped chains_last
stepped_last [] s = tt
stepped_last (l ∷ ls) s = last_after l.indent ls s

-- a line with children, of which nothing is in a chain
kids_same : (op first : Operator) (kids rest later : Forest) → chained (grown first kids rest) ≡ grown first kids rest → chained later ≡ later
    → chained (grown op (grown first kids rest) later) ≡ grown op (grown first kids rest) later
unfolding chained
kids_same op first kids rest later k r = ap₂ (grown op) k r

-- the tree that a line begins, where the next line has another indent
line_same : (l m : Line) (ms : List Line) → m.indent ≤ suc l.indent → (l.indent ≡ m.indent → ⊥) → ((level : ℕ) → chained (forest_at level (m ∷ ms)) ≡ forest_at level (m ∷ ms))
    → (K L : Forest) → forest_at (suc l.indent) (m ∷ ms) ≡ K → forest_at l.indent (m ∷ ms) ≡ L → chained (grown l.op K L) ≡ grown l.op K L
unfolding chained
line_same l m ms h n same bare bare k r = refl
line_same l m ms h n same (grown first kids rest) later k r =
    kids_same l.op first kids rest later
    (subst (λ (f : Forest). chained f ≡ f) k (same (suc l.indent))) (subst (λ (f : Forest). chained f ≡ f) r (same l.indent))
line_same l m ms h n same bare (grown next kids later) k r =
    elim (unpaired l m ms h n) [
      | inl e ↦ cc (e, k)
      | inr p ↦ cc (p.1, r)
    ]

-- the forest of a level that lines begin with: the first line's tree, one of the lines after it, or none
level_same : (l : Line) (ls : List Line) (level : ℕ)
    → chained (grown l.op (forest_at (suc l.indent) ls) (forest_at l.indent ls)) ≡ grown l.op (forest_at (suc l.indent) ls) (forest_at l.indent ls)
    → chained (forest_at level ls) ≡ forest_at level ls → chained (forest_at level (l ∷ ls)) ≡ forest_at level (l ∷ ls)
unfolding chained
level_same l ls level here after = go (leb level l.indent) refl
  where
    go : (c : Bool) → leb level l.indent ≡ c → chained (forest_at level (l ∷ ls)) ≡ forest_at level (l ∷ ls)
    go false e = rw (forest_ended level l ls (leb-false level l.indent e))
    go true e =
        elim (eq-or-lt_of_le (leb-true level l.indent e)) [
          | inl z ↦ subst (λ (n : ℕ). chained (forest_at n (l ∷ ls)) ≡ forest_at n (l ∷ ls)) (sym z) (rw (forest_same l ls) here)
          | inr g ↦ rw (forest_passed level l ls g) after
        ]

forest_unchained : (l : Line) (ls : List Line) → T (accepted (some l.indent) ls) → T (stepped_after l.indent ls) → (level : ℕ)
    → chained (forest_at level (l ∷ ls)) ≡ forest_at level (l ∷ ls)
unfolding chained forest_at
forest_unchained l [] a s level = level_same l [] level refl refl
forest_unchained l (m ∷ ms) a s level =
    let p = next_accepted l.indent m ms a in
    let q = next_stepped l.indent m ms s in
    let same : (n : ℕ) → chained (forest_at n (m ∷ ms)) ≡ forest_at n (m ∷ ms) = λ n. forest_unchained m ms p.1 q.1 n in
    level_same l (m ∷ ms) level (line_same l m ms (subst (λ (n : ℕ). m.indent ≤ n) (add-one l.indent) p.0) q.0 same _ _ refl refl) (same level)

pub stepped_same : (ls : List Line) → T (accepted none ls) → T (stepped ls) → chained (tree_of ls) ≡ tree_of ls
unfolding chained tree_of forest_at stepped
stepped_same [] a s = refl
stepped_same (l ∷ ls) a s = forest_unchained l ls (first_accepted l ls a).1 s 0
