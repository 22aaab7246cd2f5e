-- Demand 3: the indented tree that a dealer writes, its value, and the statement that the command list run on the stack has that value.
-- "each operator modulated by the sum of its children, siblings added first plus the sum of the later ones, unindented lines
-- likewise, a sum of one that value itself, an empty sum 0.0". Nothing is assumed of an operator but that it is a function of its
-- input, and nothing of the sum. Assumes nothing.
use Rattle.std.specs.Prelude.{◌≡◌, Bool, true, false, not, ◌&&◌, List, [], ◌∷◌, ℕ, suc, T, eqb, ltb}
use Rattle.std.proofs.Math.Option.{none}
use Rattle.operator.specs.declared.operator.Operator.{Operator}
use Rattle.tree.specs.Lines.{Line, accepted, commands_of}
use Rattle.instrument.specs.Machine.{machine}

-- a forest: no tree, or a tree, an operator with the forest of its children, and the later siblings of that tree
pub data Forest : Type 0 where
  bare : Forest
  grown : Operator → Forest → Forest → Forest

-- The forest of one level of indent that a list of lines begins with. A line of that indent is a tree: its children are the forest one
-- level deeper of the lines after it, its later siblings the forest of the same level. A deeper line belongs to a tree that
-- came before, and is passed over; a line of smaller indent ends the forest.
unfoldable pub forest_at : ℕ → List Line → Forest
forest_at level [] = bare
forest_at level (l ∷ ls) =
    elim (eqb l.indent level) [
      | true ↦ grown l.op (forest_at (suc level) ls) (forest_at level ls)
      | false ↦ elim (ltb l.indent level) [ true ↦ bare | false ↦ forest_at level ls ]
    ]

-- the tree that an instrument's lines describe: the unindented lines, likewise
unfoldable pub tree_of : List Line → Forest
unfolding forest_at
tree_of ls = forest_at 0 ls

module _ (A : Type 0) (works : Operator → A → A) (plus : A → A → A) (nothing : A) where
  -- a first value with the sum of the later siblings: a sum of one is that value itself
  unfoldable pub with_later : A → Forest → A → A
  with_later first bare later = first
  with_later first (grown op kids rest) later = plus first later

  -- the sum of a forest: each operator modulated by the sum of its children
  unfoldable pub sum : Forest → A
  unfolding with_later
  sum bare = nothing
  sum (grown op kids later) = with_later (works op (sum kids)) later (sum later)

-- no two neighbouring lines have equal indent: none after a line of indent i, and none at all
unfoldable pub stepped_after : ℕ → List Line → Bool
stepped_after i [] = true
stepped_after i (l ∷ ls) = not (eqb i l.indent) && stepped_after l.indent ls

unfoldable pub stepped : List Line → Bool
unfolding stepped_after
stepped [] = true
stepped (l ∷ ls) = stepped_after l.indent ls

-- Demand 3, over any values, operator, sum and zero: for all accepted lines of which no two neighbours have equal indent, the command
-- list that they are turned into, run on the stack, gives the value of the tree
abbrev pub Demand3 : Type 1
Demand3 =
    (A : Type 0) (works : Operator → A → A) (plus : A → A → A) (nothing : A) (ls : List Line)
    → T (accepted none ls) → T (stepped ls) → machine A works plus nothing (commands_of ls) ≡ sum A works plus nothing (tree_of ls)
