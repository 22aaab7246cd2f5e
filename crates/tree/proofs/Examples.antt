-- Worked examples, by computation. Document 01: "Indents 0,1,2,1: Op4, Stack 1, Op3, Op2, Op1"; "Indents 0,2: 16". One where two
-- neighbours have equal indent: the commands and the tree without chains part, so the hypothesis of demand 3 is needed; with its chain the tree has the commands' value.
-- And one where a line of smaller indent follows such a pair: the commands and the tree with chains part. Assumes nothing.
use mathlib.Core.Path.{◌≡◌, refl}
use mathlib.Core.Bool.{true, false}
use mathlib.Core.List.{List, [], ◌∷◌}
use mathlib.Core.Option.{none}
use Prim.Native.Nat.{ℕ}
use lib.IntN.{negsuc}
use lib.Ieee.{Float, fin, binary32, round, add, sub, mul, div, lt, of_bits, to_bits}
use Rattle.ieee.specs.Constants.{one, plus_zero}
use Rattle.sine.specs.Turn.{turn_sine_by}
use Rattle.sine.specs.Quarter.{quarter}
use Rattle.operator.specs.declared.operator.Operator.{Operator}
use Rattle.instrument.specs.declared.machine.Command.{Command}
use Rattle.instrument.specs.declared.machine.Command.TheVariants as Command
use Rattle.operator.specs.Evaluation.{operator_at}
use Rattle.tree.specs.Lines.{Line, refusal_from, accepted, commands_of}
use Rattle.instrument.specs.Machine.{machine}
use Rattle.tree.specs.Tree.{bare, grown, sum, tree_of, stepped}
use Rattle.tree.specs.Chains.{chained, chains_last}
use Rattle.tree.proofs.Demand3.{demand3_with_chains}

abbrev line : ℕ → Operator → Line
line i o = record { indent = i; op = o }

-- indents 0, 1, 2, 1
pub stacked : (a b c d : Operator)
    → commands_of (line 0 a ∷ line 1 b ∷ line 2 c ∷ line 1 d ∷ [])
    ≡ Command.Operator d ∷ Command.Stack 1 ∷ Command.Operator c ∷ Command.Operator b ∷ Command.Operator a ∷ []
unfolding commands_of
stacked a b c d = refl

-- indents 0, 2: 16, at the second line
pub too_deep : (a b : Operator) → refusal_from none 1 (line 0 a ∷ line 2 b ∷ []) ≡ record { number = 16; line = 2 }
unfolding refusal_from
too_deep a b = refl

-- a first line that is indented: 15
pub not_first : (a : Operator) → refusal_from none 1 (line 1 a ∷ []) ≡ record { number = 15; line = 1 }
unfolding refusal_from
not_first a = refl

-- ---- a chain

-- indents 0, 1, 1
abbrev three : Operator → Operator → Operator → List Line
three a b c = line 0 a ∷ line 1 b ∷ line 1 c ∷ []

-- "0,1,1 is Op1 modulated by Op2 alone, and Op2 by Op3"
pub chain_of_three : (a b c : Operator) → chained (tree_of (three a b c)) ≡ grown a (grown b (grown c bare bare) bare) bare
unfolding chained tree_of
chain_of_three a b c = refl

pub three_in_turn : (A : Type 0) (works : Operator → A → A) (plus : A → A → A) (nothing : A) (a b c : Operator)
    → machine A works plus nothing (commands_of (three a b c)) ≡ works a (works b (works c nothing))
unfolding accepted chains_last chained tree_of sum
three_in_turn A works plus nothing a b c = demand3_with_chains A works plus nothing (three a b c) tt tt

-- ---- equal neighbours

-- the operator `1 1 0 0 1 0`
abbrev plain : Operator
plain =
    record {
      amplitude = one;
      freqratio = one;
      attack = plus_zero;
      decay = plus_zero;
      sustain = one;
      release = plus_zero;
      feedback = 0;
    }

-- indents 0, 1, 1, an eighth of a second into a second of 1 Hz
abbrev equals : List Line
equals = line 0 plain ∷ line 1 plain ∷ line 1 plain ∷ []

abbrev at : Operator → Float → Float
at = operator_at one one (fin false 1 (negsuc 2))

pub equal_accepted : accepted none equals ≡ true
unfolding accepted
equal_accepted = refl

pub equal_not_stepped : stepped equals ≡ false
unfolding stepped
equal_not_stepped = refl

pub by_commands : to_bits binary32 (machine Float at (add binary32) plus_zero (commands_of equals)) ≡ 0x3f7a4b21
unfolding machine commands_of operator_at turn_sine_by quarter round add sub mul div lt of_bits to_bits
by_commands = refl

pub by_the_tree : to_bits binary32 (sum Float at (add binary32) plus_zero (tree_of equals)) ≡ 0x3f4f0896
unfolding sum tree_of operator_at turn_sine_by quarter round add sub mul div lt of_bits to_bits
by_the_tree = refl

-- with its chain the tree has the commands' value
pub equal_last : chains_last equals ≡ true
unfolding chains_last
equal_last = refl

pub by_the_chain : to_bits binary32 (sum Float at (add binary32) plus_zero (chained (tree_of equals))) ≡ 0x3f7a4b21
unfolding sum chained tree_of operator_at turn_sine_by quarter round add sub mul div lt of_bits to_bits
by_the_chain = refl

-- ---- outside

-- indents 0, 1, 2, 2, 1: the pair is followed by a line of smaller indent
abbrev outside : List Line
outside = line 0 plain ∷ line 1 plain ∷ line 2 plain ∷ line 2 plain ∷ line 1 plain ∷ []

pub outside_accepted : accepted none outside ≡ true
unfolding accepted
outside_accepted = refl

pub outside_not_last : chains_last outside ≡ false
unfolding chains_last
outside_not_last = refl

pub outside_by_commands : to_bits binary32 (machine Float at (add binary32) plus_zero (commands_of outside)) ≡ 0x3f7beead
unfolding machine commands_of operator_at turn_sine_by quarter round add sub mul div lt of_bits to_bits
outside_by_commands = refl

pub outside_by_the_chain : to_bits binary32 (sum Float at (add binary32) plus_zero (chained (tree_of outside))) ≡ 0x3f1f3fb6
unfolding sum chained tree_of operator_at turn_sine_by quarter round add sub mul div lt of_bits to_bits
outside_by_the_chain = refl
