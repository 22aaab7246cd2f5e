-- What the functions below `instrument_of` answer: the lines from a place on, the line at a place, and commands that are laid down one behind the other.
-- Assumes nothing.
use Rattle.std.specs.Prelude.{List, [], ◌∷◌, map, reverse, ℕ, zero, suc, ◌+◌, ◌*◌, min, length, drop, get_or, set, Float}
use Rattle.std.proofs.Math.Option.{Option, none, some}
use Rattle.std.specs.Float.{nan}
use Rattle.operator.specs.declared.operator.Operator.{Operator}
use Rattle.instrument.specs.declared.machine.Command.{Command}
use Rattle.tree.specs.Lines.{Line}
use Rattle.sheet.specs.Capacities.{commands_most, feedback_most}
use Rattle.blocks.specs.Blocks.{lines_in}
use Rattle.commands.specs.declared.layout.Laid.{Laid}
use Rattle.commands.specs.Commands.{no_command, clipped}
use Rattle.sheet.specs.Padding.{padded}

-- so many lines from the line i on
unfoldable pub lines_from : ℕ → ℕ → List Float → List ℕ → List Line
unfolding lines_in clipped
lines_from k i fs ss = map clipped (lines_in k (drop (6 * i) fs) (drop (2 * i) ss))

-- the operator of the line i
abbrev pub operator_at : ℕ → List Float → List ℕ → Operator
operator_at i fs ss =
    record {
      amplitude = get_or fs (6 * i) nan;
      freqratio = get_or fs (6 * i + 1) nan;
      attack = get_or fs (6 * i + 2) nan;
      decay = get_or fs (6 * i + 3) nan;
      sustain = get_or fs (6 * i + 4) nan;
      release = get_or fs (6 * i + 5) nan;
      feedback = min (get_or ss (2 * i + 1) 0) feedback_most;
    }

-- the indent of the line above the line i, if there is one
unfoldable pub above : ℕ → List ℕ → Option ℕ
above zero ss = none
above (suc i) ss = some (get_or ss (2 * i) 0)

-- one command more
abbrev pub put : Command → Laid → Laid
put c l = record { commands = set l.commands l.count (record { command = c }); count = l.count + 1 }

-- no command, or a few, the last of them first
unfoldable pub puts : List Command → Laid → Laid
puts [] l = l
puts (c ∷ cs) l = put c (puts cs l)

-- commands laid down, the last of them first
abbrev pub laid : List Command → Laid
laid cs = record { commands = padded commands_most no_command (map (λ (c : Command). record { command = c }) (reverse cs)); count = length cs }
