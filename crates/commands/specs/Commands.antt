-- An instrument laid out in its arrays, from its operator lines: its commands, then commands that say nothing; and its release. Assumes nothing.
use Rattle.std.specs.Prelude.{List, map, ℕ, ◌/◌, min, length, Float}
use Rattle.instrument.specs.declared.machine.Command.{Command}
use Rattle.instrument.specs.declared.machine.Slot.{Slot}
use Rattle.instrument.specs.declared.machine.Instrument.{Instrument}
use Rattle.tree.specs.Lines.{Line, commands_of, release_of}
use Rattle.sheet.specs.Padding.{padded}
use Rattle.sheet.specs.Capacities.{operators_most, commands_most, feedback_most}
use Rattle.blocks.specs.Blocks.{lines_in}

-- a command that says nothing
abbrev pub no_command : Slot
no_command = record { command = Command.Stack 0 }

-- the instrument of operator lines
unfoldable pub instrument_of : List Line → Instrument
unfolding commands_of release_of padded
instrument_of ls =
    record {
      release = release_of ls;
      commands = padded commands_most no_command (map (λ (c : Command). record { command = c }) (commands_of ls));
      count = length (commands_of ls);
    }

-- a line whose feedback is within its capacity: one past 255 counts as 255
unfoldable pub clipped : Line → Line
clipped l =
    record {
      indent = l.indent;
      op =
          record {
            amplitude = l.op.amplitude;
            freqratio = l.op.freqratio;
            attack = l.op.attack;
            decay = l.op.decay;
            sustain = l.op.sustain;
            release = l.op.release;
            feedback = min l.op.feedback feedback_most;
          };
    }

-- the first operator lines of two columns: so many, and no more than 32 or than the columns hold whole
unfoldable pub lines_held : ℕ → List Float → List ℕ → List Line
unfolding lines_in clipped
lines_held count fs ss = map clipped (lines_in (min (min count operators_most) (min (length fs / 6) (length ss / 2))) fs ss)
