-- The hypotheses of demand 3 in words. Without chains: "no two neighbouring operator lines have equal indent". With
-- them: "each such pair is followed, anywhere later in the instrument, by no line of smaller indent than the pair". The
-- definitions, which are executable, say just that: neither more (`stepped_in_words`, `last_in_words`) nor less
-- (`words_stepped`, `words_last`). Assumes nothing.
use mathlib.Core.Path.{◌≡◌, refl, ap, subst}
use mathlib.Core.Bool.{Bool, true, false, not}
use mathlib.Core.List.{List, [], ◌∷◌, ◌++◌}
use Prim.Native.Nat.{ℕ, ◌≤◌}
use lib.Dec.{T, eqb, leb, leb→le, le→leb}
use lib.Ieee.Fits.{and_i, and_l, and_r}
use borrow.Author.Tests.{eqb-true}
use Rattle.tree.specs.Lines.{Line}
use Rattle.tree.specs.Tree.{stepped_after, stepped}
use Rattle.tree.specs.Chains.{none_below, chains_last_after, chains_last}
use Rattle.tree.proofs.Descent.{next_last, pair_last_law}
use Rattle.tree.proofs.Pairs.{next_stepped}

-- ---- no two neighbours of equal indent

-- wherever a line l is directly followed by a line m, their indents differ
abbrev pub SteppedInWords : List Line → Type 0
SteppedInWords ls = (before after : List Line) (l m : Line) → ls ≡ before ++ (l ∷ m ∷ after) → l.indent ≡ m.indent → ⊥

rest_stepped : (i : ℕ) (ls : List Line) → T (stepped_after i ls) → T (stepped ls)
unfolding stepped
rest_stepped i [] t = tt
rest_stepped i (l ∷ ls) t = (next_stepped i l ls t).1

at_stepped : (before after : List Line) (l m : Line)
    → T (stepped (before ++ (l ∷ m ∷ after))) → l.indent ≡ m.indent → ⊥
unfolding stepped
at_stepped [] after l m t e = (next_stepped l.indent m after t).0 e
at_stepped (b ∷ before) after l m t e =
    at_stepped before after l m (rest_stepped b.indent (before ++ (l ∷ m ∷ after)) t) e

pub stepped_in_words : (ls : List Line) → T (stepped ls) → SteppedInWords ls
stepped_in_words ls t before after l m s e =
    at_stepped before after l m (subst (λ (ks : List Line). T (stepped ks)) s t) e

apart : (i j : ℕ) → (i ≡ j → ⊥) → T (not (eqb i j))
apart i j h = go (eqb i j) refl
  where
    go : (b : Bool) → eqb i j ≡ b → T (not b)
    go true e = absurd (h (eqb-true i j e))
    go false e = tt

pub words_stepped : (ls : List Line) → SteppedInWords ls → T (stepped ls)
unfolding stepped_after stepped
words_stepped [] w = tt
words_stepped (l ∷ []) w = tt
words_stepped (l ∷ (m ∷ ms)) w =
    and_i (not (eqb l.indent m.indent)) (stepped_after m.indent ms)
    (apart l.indent m.indent (λ e. w [] ms l m refl e))
    (words_stepped (m ∷ ms) (λ before after a b s e. w (l ∷ before) after a b (ap (λ (ks : List Line). l ∷ ks) s) e))

-- ---- every pair last

-- wherever a line l is directly followed by a line m of equal indent, and x is any later line, the indent of x is not smaller
abbrev pub InWords : List Line → Type 0
InWords ls =
    (before between after : List Line) (l m x : Line)
    → ls ≡ before ++ (l ∷ m ∷ (between ++ (x ∷ after))) → l.indent ≡ m.indent → l.indent ≤ x.indent

-- no line of smaller indent
below_in_words : (i : ℕ) (between after : List Line) (x : Line) → T (none_below i (between ++ (x ∷ after))) → i ≤ x.indent
unfolding none_below
below_in_words i [] after x t = leb→le i x.indent (and_l (leb i x.indent) (none_below i after) t)
below_in_words i (b ∷ between) after x t = below_in_words i between after x (and_r (leb i b.indent) (none_below i (between ++ (x ∷ after))) t)

words_below : (i : ℕ) (ls : List Line) → ((between after : List Line) (x : Line) → ls ≡ between ++ (x ∷ after) → i ≤ x.indent) → T (none_below i ls)
unfolding none_below
words_below i [] w = tt
words_below i (l ∷ ls) w =
    and_i (leb i l.indent) (none_below i ls) (le→leb i l.indent (w [] ls l refl))
    (words_below i ls (λ between after x e. w (l ∷ between) after x (ap (λ (ks : List Line). l ∷ ks) e)))

-- every pair
rest_last : (i : ℕ) (ls : List Line) → T (chains_last_after i ls) → T (chains_last ls)
unfolding chains_last
rest_last i [] t = tt
rest_last i (l ∷ ls) t = (next_last i l ls t).1

at_last : (before between after : List Line) (l m x : Line)
    → T (chains_last (before ++ (l ∷ m ∷ (between ++ (x ∷ after))))) → l.indent ≡ m.indent → l.indent ≤ x.indent
unfolding chains_last
at_last [] between after l m x t e = below_in_words l.indent between after x ((next_last l.indent m (between ++ (x ∷ after)) t).0 e)
at_last (b ∷ before) between after l m x t e =
    at_last before between after l m x (rest_last b.indent (before ++ (l ∷ m ∷ (between ++ (x ∷ after)))) t) e

pub last_in_words : (ls : List Line) → T (chains_last ls) → InWords ls
last_in_words ls t before between after l m x s e = at_last before between after l m x (subst (λ (ks : List Line). T (chains_last ks)) s t) e

pub words_last : (ls : List Line) → InWords ls → T (chains_last ls)
unfolding chains_last chains_last_after
words_last [] w = tt
words_last (l ∷ []) w = tt
words_last (l ∷ (m ∷ ms)) w =
    pair_last_law l.indent m ms
    (λ e. words_below l.indent ms (λ between after x s. w [] between after l m x (ap (λ (ks : List Line). l ∷ m ∷ ks) s) e))
    (words_last (m ∷ ms) (λ before between after a b x s e. w (l ∷ before) between after a b x (ap (λ (ks : List Line). l ∷ ks) s) e))
