-- Demand 3, proved, with chains and, as a case of that, without: `specs/Tree.antt` and `specs/Chains.antt` have the statements, `Descent.antt` the argument, `Pairs.antt`
-- what the first statement needs of the second. At this engine's operator, sum and zero they say that an instrument's value at any frequency, duration and time is that of
-- its indented tree, bit for bit on the logic's Float, which has one NaN. Assumes nothing.
use mathlib.Core.Path.{◌≡◌, ap, ◌∙◌}
use mathlib.Core.List.{List}
use mathlib.Core.Option.{none}
use lib.Dec.{T}
use lib.Ieee.{Float, binary32, add}
use Rattle.ieee.specs.Constants.{plus_zero}
use Rattle.instrument.specs.declared.machine.Instrument.{Instrument}
use Rattle.operator.specs.Evaluation.{operator_at}
use Rattle.instrument.specs.Evaluation.{list_of, instrument_at}
use Rattle.tree.specs.Lines.{Line, accepted, commands_of}
use Rattle.instrument.specs.Machine.{machine}
use Rattle.tree.specs.Tree.{sum, tree_of, stepped, Demand3}
use Rattle.tree.specs.Chains.{chained, chains_last, Demand3WithChains}
use Rattle.tree.proofs.Descent.{tree_value}
use Rattle.tree.proofs.Pairs.{stepped_last, stepped_same}

-- over any values, operator, sum and zero
pub demand3_with_chains : Demand3WithChains
demand3_with_chains A works plus nothing ls a c = tree_value A works plus nothing ls a c

-- so where no two neighbours have equal indent, as no chain is there
pub demand3_from : Demand3WithChains → Demand3
demand3_from with-chains A works plus nothing ls a s = with-chains A works plus nothing ls a (stepped_last ls s) ∙ ap (sum A works plus nothing) (stepped_same ls a s)

pub demand3 : Demand3
demand3 = demand3_from demand3_with_chains

-- at this engine's
pub demand3_with_chains_here : (f d t : Float) (ls : List Line) → T (accepted none ls) → T (chains_last ls)
    → machine Float (operator_at f d t) (add binary32) plus_zero (commands_of ls) ≡ sum Float (operator_at f d t) (add binary32) plus_zero (chained (tree_of ls))
demand3_with_chains_here f d t ls a c = demand3_with_chains Float (operator_at f d t) (add binary32) plus_zero ls a c

pub demand3_here : (f d t : Float) (ls : List Line) → T (accepted none ls) → T (stepped ls)
    → machine Float (operator_at f d t) (add binary32) plus_zero (commands_of ls) ≡ sum Float (operator_at f d t) (add binary32) plus_zero (tree_of ls)
demand3_here f d t ls a s = demand3 Float (operator_at f d t) (add binary32) plus_zero ls a s

-- so an instrument whose commands are those of the lines has the tree's value, which `Instrument::eval` gives
pub demand3_with_chains_instrument : (f d t : Float) (i : Instrument) (ls : List Line) → list_of i ≡ commands_of ls → T (accepted none ls) → T (chains_last ls)
    → instrument_at f d t i ≡ sum Float (operator_at f d t) (add binary32) plus_zero (chained (tree_of ls))
unfolding instrument_at
demand3_with_chains_instrument f d t i ls e a c = ap (machine Float (operator_at f d t) (add binary32) plus_zero) e ∙ demand3_with_chains_here f d t ls a c

pub demand3_instrument : (f d t : Float) (i : Instrument) (ls : List Line) → list_of i ≡ commands_of ls → T (accepted none ls) → T (stepped ls)
    → instrument_at f d t i ≡ sum Float (operator_at f d t) (add binary32) plus_zero (tree_of ls)
unfolding instrument_at
demand3_instrument f d t i ls e a s = ap (machine Float (operator_at f d t) (add binary32) plus_zero) e ∙ demand3_here f d t ls a s
