-- The whole file of a sheet, and how it is handed on in turn: first the header, then as many samples as a buffer holds, and so on to the end. Document 01:
-- "WAV: 44 header bytes as in source document 000, then little-endian samples". Assumes nothing.
use Rattle.std.specs.Prelude.{Bool, true, false, ◌&&◌, List, [], ◌++◌, ℕ, ◌-◌, ◌*◌, ◌/◌, ◌%◌, leb, eqb, length, take, drop}
use Rattle.form.specs.declared.size.Size.{Size}
use Rattle.form.specs.Form.{header}
use Rattle.form.specs.Sample.{bytes_of}
use Rattle.wave.specs.File.{put}
use Rattle.sheet.specs.declared.sheet.Sheet.{Sheet}
use Rattle.sheet.specs.Parts.{length_of}
use Rattle.sheet.specs.Refusals.{Outcome, going, refused}
use Rattle.handed.specs.Check.{is_sheet}
use Rattle.evaluator.specs.Samples.{samples_from}
use Rattle.mixing.specs.Placing.{placed}
use Rattle.windows.specs.Written.{written_of}
use Rattle.engine.specs.Files.{header_of}

-- the bytes of a sheet's file, with the RIFF size of a name; a sheet that does not pass the check has none
unfoldable pub file_of : Size → ℕ → Sheet → List ℕ
unfolding is_sheet header length_of bytes_of samples_from placed
file_of size rate s =
    elim (is_sheet rate s) [
      | true ↦ header size rate (length_of rate s) ++ bytes_of (samples_from (placed rate s) 0 (length_of rate s))
      | false ↦ []
    ]

-- how many there are, none where it was refused
unfoldable pub count_in : Outcome ℕ → ℕ
count_in (going n) = n
count_in (refused k l) = 0

-- a place where a sample begins
unfoldable pub is_sample_at : ℕ → Bool
is_sample_at at = leb 44 at && eqb ((at - 44) % 2) 0

-- how many bytes of samples are handed on from place `at` of the file on, in a buffer of so many: whole samples
unfoldable pub samples_next : ℕ → Sheet → ℕ → ℕ → ℕ
unfolding count_in is_sample_at written_of
samples_next rate s room at = elim (is_sample_at at) [ true ↦ 2 * count_in (written_of rate s ((at - 44) / 2) room 0) | false ↦ 0 ]

-- how many bytes are handed on: at the file's start the header, behind it samples
unfoldable pub next_of : ℕ → Sheet → ℕ → ℕ → ℕ
unfolding count_in header_of samples_next
next_of rate s room at = elim (eqb at 0) [ true ↦ count_in (header_of rate s room) | false ↦ samples_next rate s room at ]

-- the buffer afterwards: those bytes of the file in front
unfoldable pub next_in : Size → ℕ → Sheet → List ℕ → ℕ → List ℕ
unfolding put next_of file_of
next_in size rate s buffer at = put buffer 0 (take (next_of rate s (length buffer) at) (drop at (file_of size rate s)))
