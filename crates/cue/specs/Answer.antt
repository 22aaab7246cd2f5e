-- All that the program writes. Document 01: "A program reads a sheet from standard input and writes the WAV; on refusal only `refused N L` (number, line) and
-- a line feed". Assumes nothing.
use Rattle.std.specs.Prelude.{true, false, List, ℕ, eqb}
use Rattle.form.specs.declared.size.Size.{Size}
use Rattle.strict.specs.declared.mode.Mode.{Mode}
use Rattle.refusal.specs.Line.{refused_line}
use Rattle.meaning.specs.declared.reading.Reading.{Reading}
use Rattle.meaning.specs.Layout.{reading_of}
use Rattle.engine.specs.Stream.{file_of}

-- a sheet's file, or the line of its refusal
unfoldable pub answer_to : Size → Reading → List ℕ
unfolding file_of refused_line
answer_to size r = elim (eqb r.refusal 0) [ true ↦ file_of size 44100 r.sheet | false ↦ refused_line r.refusal r.line ]

-- what the program writes in a mode, with the RIFF size of a name, where a source stands on its standard input
unfoldable pub answer_of : Mode → Size → List ℕ → List ℕ
unfolding reading_of answer_to
answer_of mode size source = answer_to size (reading_of mode 44100 source)
