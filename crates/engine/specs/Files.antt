-- The header of the WAV file of a sheet that is handed in. Document 01: "The header of a sheet goes to the buffer's first 44 bytes (28; 30 if there are
-- fewer)."; "Other bytes keep their values." Assumes nothing.
use Rattle.std.specs.Prelude.{List, ℕ, leb, length}
use Rattle.form.specs.declared.size.Size.{Size}
use Rattle.form.specs.Form.{header}
use Rattle.wave.specs.File.{put}
use Rattle.sheet.specs.declared.sheet.Sheet.{Sheet}
use Rattle.sheet.specs.Parts.{length_of}
use Rattle.sheet.specs.Refusals.{Outcome, going, refused, ◌>>◌, refuse◌on◌unless◌}
use Rattle.handed.specs.Check.{is_sheet}

-- how many bytes the header takes in a buffer of so many: "28; 30"
unfoldable pub header_of : ℕ → Sheet → ℕ → Outcome ℕ
unfolding is_sheet
header_of rate s room = do
  refuse 28 on 0 unless (is_sheet rate s)
  refuse 30 on 0 unless (leb 44 room)
  going 44

-- the buffer afterwards, by what came of it: the header in front, with the RIFF size of a name, or every byte as it was
unfoldable pub headed_by : Size → ℕ → Sheet → List ℕ → Outcome ℕ → List ℕ
unfolding put header length_of
headed_by size rate s buffer (going n) = put buffer 0 (header size rate (length_of rate s))
headed_by size rate s buffer (refused k l) = buffer

unfoldable pub header_in : Size → ℕ → Sheet → List ℕ → List ℕ
unfolding header_of headed_by
header_in size rate s buffer = headed_by size rate s buffer (header_of rate s (length buffer))
