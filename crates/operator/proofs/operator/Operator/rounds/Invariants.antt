-- `rounds` does one round in each turn: what is left of them, done on x, gives the result. Assumes nothing.
use mathlib.Core.Path.{◌≡◌}
use mathlib.Core.List.{List}
use Prim.Native.Nat.{ℕ, suc, ◌-◌}
use lib.Ieee.{Float, binary32, add, mul}
use Rattle.sine.specs.Turn.{turn_sine_by}
use Rattle.operator.specs.Evaluation.{rounds}
use Rattle.operator.proofs.operator.Operator.rounds.Given as goal

-- one round, by the locals that the loop reads
abbrev pub round : List ℕ → Float → Float → Float → Float → Float
round table level amplitude turn y = mul binary32 level (mul binary32 amplitude (turn_sine_by table (add binary32 turn y)))

abbrev pub invariant-loop : goal.invariant-loop
invariant-loop l =
    rounds (suc l.end) (round l.table l.level l.amplitude l.turn) l.input ≡ rounds (suc l.end - l.counter) (round l.table l.level l.amplitude l.turn) l.x
