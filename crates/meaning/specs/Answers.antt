-- What a reader of a sheet asks first: the notes of its parts, the commands of its instruments behind the default one,
-- its length and its steps, or the refusal. Worked examples are stated in these terms. Assumes nothing.
use Rattle.std.specs.Prelude.{List, [], ◌∷◌, map, ℕ}
use Prim.Native.String.{String}
use Rattle.text.specs.Quoted.{bytes}
use Rattle.instrument.specs.declared.machine.Command.{Command}
use Rattle.tree.specs.Lines.{Line, commands_of}
use Rattle.sheet.specs.declared.note.Note.{Note}
use Rattle.sheet.specs.Refusals.{Outcome, going, refused}
use Rattle.strict.specs.declared.mode.Mode.{Mode}
use Rattle.meaning.specs.Parts.{NamedPart}
use Rattle.meaning.specs.Sheets.{Read, sheet_read, length_read}

pub record Answer : Type 0 where
  pub notes : List (List Note)
  pub commands : List (List Command)
  pub samples : ℕ
  pub steps : ℕ

-- the instruments behind the default one
unfoldable pub written : List (List Line) → List (List Line)
written [] = []
written (l ∷ ls) = ls

unfoldable pub answered : ℕ → Outcome Read → Outcome Answer
unfolding written commands_of length_read
answered rate (going r) =
    going
    (record {
      notes = map (λ (p : NamedPart). p.part.notes) r.parts;
      commands = map commands_of (written r.instruments);
      samples = length_read rate r;
      steps = r.steps;
    })
answered rate (refused n l) = refused n l

-- the answer to a quoted sheet in a mode, at 44,100 samples a second
unfoldable pub answer : Mode → String → Outcome Answer
unfolding bytes sheet_read answered
answer mode t = answered 44100 (sheet_read mode 44100 (bytes t))
