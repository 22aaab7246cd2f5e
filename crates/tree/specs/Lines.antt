-- From operator lines to commands, as document 01 has it: "Lines are read downward, the list reversed." "A line outdented by n puts
-- Stack(n) before itself, so after itself once reversed." "An instrument's release is its largest operator release, 0 for none."
-- Refusals: 15, "first operator line indented"; 16, "indent grows by more than 1". Assumes nothing.
use Rattle.std.specs.Prelude.{Bool, true, false, ◌&&◌, List, [], ◌∷◌, ◌++◌, reverse, ℕ, zero, suc, ◌+◌, ◌-◌, leb, ltb, eqb, Float}
use Rattle.std.proofs.Math.Option.{Option, none, some}
use Rattle.std.specs.Float.Ieee.{lt}
use Rattle.ieee.specs.Constants.{plus_zero}
use Rattle.operator.specs.declared.operator.Operator.{Operator}
use Rattle.instrument.specs.declared.machine.Command.{Command}
use Rattle.instrument.specs.declared.machine.Command.TheVariants as Command

-- an operator line: its indent, the number of leading tabs, and its operator
pub record Line : Type 0 where
  pub indent : ℕ
  pub op : Operator

-- the refusal of an indent after the line before it, if there is one: 15, 16, or 0 for none
unfoldable pub indent_refusal : Option ℕ → ℕ → ℕ
indent_refusal none i = elim (eqb i 0) [ true ↦ 0 | false ↦ 15 ]
indent_refusal (some before) i = elim (leb i (before + 1)) [ true ↦ 0 | false ↦ 16 ]

-- what a line puts before itself: Stack(n) where it is outdented by n
unfoldable pub outdent : Option ℕ → ℕ → List Command
outdent none i = []
outdent (some before) i = elim (ltb i before) [ true ↦ Command.Stack (before - i) ∷ [] | false ↦ [] ]

-- what the lines put, downward
unfoldable pub downward : Option ℕ → List Line → List Command
unfolding outdent
downward before [] = []
downward before (l ∷ ls) = outdent before l.indent ++ (Command.Operator l.op ∷ downward (some l.indent) ls)

-- the instrument's commands
unfoldable pub commands_of : List Line → List Command
unfolding downward
commands_of ls = reverse (downward none ls)

-- the first refusal of the lines, with the line it is given at, counted from `at`; 0 for none
pub record Refusal : Type 0 where
  pub number : ℕ
  pub line : ℕ

unfoldable pub refusal_from : Option ℕ → ℕ → List Line → Refusal
unfolding indent_refusal
refusal_from before at [] = record { number = 0; line = 0 }
refusal_from before at (l ∷ ls) =
    elim (indent_refusal before l.indent)
    [ zero ↦ refusal_from (some l.indent) (suc at) ls | suc n ↦ record { number = suc n; line = at } ]

-- whether the lines are accepted: no indent is refused
unfoldable pub accepted : Option ℕ → List Line → Bool
unfolding indent_refusal
accepted before [] = true
accepted before (l ∷ ls) = eqb (indent_refusal before l.indent) 0 && accepted (some l.indent) ls

-- the larger of a release and those before it
unfoldable pub larger : Float → Float → Float
larger most r = elim (lt most r) [ true ↦ r | false ↦ most ]

unfoldable pub release_from : Float → List Line → Float
unfolding larger
release_from most [] = most
release_from most (l ∷ ls) = release_from (larger most l.op.release) ls

-- the largest operator release, 0 for none
unfoldable pub release_of : List Line → Float
unfolding release_from
release_of ls = release_from plus_zero ls
