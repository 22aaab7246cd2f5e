-- A reading laid out in the arrays of a `Sheet`: the notes of the parts one part after the other, then silence; the instruments, then empty ones. "1 to
-- 27 return an empty sheet (no parts, notes or instruments), step count 0 and a line". Assumes nothing.
use Rattle.std.specs.Prelude.{List, [], map, ℕ, length}
use Rattle.tree.specs.Lines.{Line}
use Rattle.commands.specs.Commands.{instrument_of}
use Rattle.sheet.specs.Padding.{padded, silence}
use Rattle.sheet.specs.declared.sheet.Sheet.{Sheet}
use Rattle.sheet.specs.Capacities.{parts_most, notes_most, instruments_most}
use Rattle.sheet.specs.Refusals.{Outcome, going, refused}
use Rattle.strict.specs.declared.mode.Mode.{Mode}
use Rattle.meaning.specs.declared.reading.Reading.{Reading}
use Rattle.meaning.specs.Parts.{NamedPart, notes_of}
use Rattle.meaning.specs.Sheets.{Read, sheet_read}

-- the sheet of parts and instruments
unfoldable pub sheet_of : List NamedPart → List (List Line) → Sheet
unfolding padded instrument_of notes_of
sheet_of ps is =
    record {
      parts = length ps;
      counts = padded parts_most 0 (map (λ (p : NamedPart). length p.part.notes) ps);
      notes = padded notes_most silence (notes_of ps);
      instruments = length is;
      table = padded instruments_most (instrument_of []) (map instrument_of is);
    }

-- a refusal number, 0 for none, a line, the steps and the sheet
unfoldable pub laid_out : Outcome Read → Reading
unfolding sheet_of
laid_out (going r) = record { refusal = 0; line = 0; steps = r.steps; sheet = sheet_of r.parts r.instruments }
laid_out (refused n l) = record { refusal = n; line = l; steps = 0; sheet = sheet_of [] [] }

-- what a source is read as in a mode, its notes counted at a rate
unfoldable pub reading_of : Mode → ℕ → List ℕ → Reading
unfolding laid_out sheet_read
reading_of mode rate source = laid_out (sheet_read mode rate source)
