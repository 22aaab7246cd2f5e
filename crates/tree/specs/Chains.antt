-- Request T-13, the tree with chains: "a childless line directly followed by one of equal indent is modulated by the sum of that line and all its later siblings, and a
-- sum that reaches the childless line ends with it: 0,1,1 is Op1 modulated by Op2 alone, and Op2 by Op3". Nothing is assumed of an operator but that it is a function
-- of its input, and nothing of the sum. Assumes nothing.
use Rattle.std.specs.Prelude.{◌≡◌, Bool, true, false, ◌&&◌, List, [], ◌∷◌, ℕ, T, eqb, leb}
use Rattle.std.proofs.Math.Option.{none}
use Rattle.operator.specs.declared.operator.Operator.{Operator}
use Rattle.instrument.specs.Machine.{machine}
use Rattle.tree.specs.Lines.{Line, accepted, commands_of}
use Rattle.tree.specs.Tree.{Forest, bare, grown, tree_of, sum}

-- A forest with its chains: a childless line with a later sibling, which then stands directly below it, has that sibling and all later ones as its
-- children, and no later sibling.
unfoldable pub chained : Forest → Forest
chained bare = bare
chained (grown op bare bare) = grown op bare bare
chained (grown op bare (grown next kids later)) = grown op (chained (grown next kids later)) bare
chained (grown op (grown first kids rest) later) = grown op (chained (grown first kids rest)) (chained later)

-- no line has a smaller indent than i
unfoldable pub none_below : ℕ → List Line → Bool
none_below i [] = true
none_below i (l ∷ ls) = leb i l.indent && none_below i ls

-- each pair of neighbouring lines of equal indent is followed, anywhere later, by no line of smaller indent: after a line of indent i, and at all
unfoldable pub chains_last_after : ℕ → List Line → Bool
unfolding none_below
chains_last_after i [] = true
chains_last_after i (l ∷ ls) = elim (eqb i l.indent) [ true ↦ none_below i ls | false ↦ true ] && chains_last_after l.indent ls

unfoldable pub chains_last : List Line → Bool
unfolding chains_last_after
chains_last [] = true
chains_last (l ∷ ls) = chains_last_after l.indent ls

-- Demand 3 with chains, over any values, operator, sum and zero: for all accepted lines in which each such pair is followed by no line of smaller indent, the
-- command list that they are turned into, run on the stack, gives the value of the tree with chains
abbrev pub Demand3WithChains : Type 1
Demand3WithChains =
    (A : Type 0) (works : Operator → A → A) (plus : A → A → A) (nothing : A) (ls : List Line)
    → T (accepted none ls) → T (chains_last ls) → machine A works plus nothing (commands_of ls) ≡ sum A works plus nothing (chained (tree_of ls))
