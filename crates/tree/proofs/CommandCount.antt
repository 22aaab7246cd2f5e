-- How many commands lines come to: at most two a line, so 32 operator lines fit the 64 commands of an instrument. Assumes nothing.
use mathlib.Core.Bool.{Bool, true, false}
use mathlib.Core.List.{List, [], ◌∷◌}
use mathlib.Core.Option.{Option, none, some}
use Prim.Native.Nat.{ℕ, ◌-◌, ◌*◌, ◌≤◌}
use native.Mathlib.Omega.{arith}
use lib.Dec.{ltb}
use lib.ListN.{length, length-append, length-reverse}
use Rattle.instrument.specs.declared.machine.Command.{Command}
use Rattle.instrument.specs.declared.machine.Command.TheVariants as Command
use Rattle.tree.specs.Lines.{Line, outdent, downward, commands_of}

pub outdent_few : (before : Option ℕ) (i : ℕ) → length (outdent before i) ≤ 1
unfolding outdent
outdent_few none i = omega arith
outdent_few (some b) i = go (ltb i b)
  where
    go : (x : Bool) → length {A = Command} (elim x as (λ _. List Command) [ true ↦ Command.Stack (b - i) ∷ [] | false ↦ [] ]) ≤ 1
    go true = omega arith
    go false = omega arith

pub downward_few : (before : Option ℕ) (ls : List Line) → length (downward before ls) ≤ 2 * length ls
unfolding downward
downward_few before [] = omega arith
downward_few before (l ∷ ls) =
    omega (
      arith,
      length-append (outdent before l.indent) (Command.Operator l.op ∷ downward (some l.indent) ls),
      outdent_few before l.indent,
      downward_few (some l.indent) ls,
    )

pub commands_few : (ls : List Line) → length (commands_of ls) ≤ 2 * length ls
unfolding commands_of
commands_few ls = omega (arith, length-reverse (downward none ls), downward_few none ls)
