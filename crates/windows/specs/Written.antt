-- A window of the samples of a sheet that is handed in, as bytes. Document 01: "A sheet's window takes a start, a buffer and a place, writes as two bytes
-- each the samples from the start that exist and fit whole, and returns how many (28, 29; 30 if the place is past the buffer's length, or a sample exists
-- and under two bytes are left)."; "Other bytes keep their values." Assumes nothing.
use Rattle.std.specs.Prelude.{◌&&◌, List, ℕ, ◌-◌, min, leb, ltb, length}
use Rattle.form.specs.Sample.{bytes_of}
use Rattle.wave.specs.File.{put, room_at}
use Rattle.sheet.specs.declared.sheet.Sheet.{Sheet}
use Rattle.sheet.specs.Parts.{length_of}
use Rattle.sheet.specs.Refusals.{Outcome, going, refused, ◌>>◌, refuse◌on◌unless◌, refuse◌on◌if◌}
use Rattle.handed.specs.Check.{is_sheet}
use Rattle.evaluator.specs.Samples.{samples_from}
use Rattle.mixing.specs.Placing.{placed}

-- how many samples a window from sample `start` on takes, in a buffer of so many bytes from place `at` on: "28, 29, 30"
unfoldable pub written_of : ℕ → Sheet → ℕ → ℕ → ℕ → Outcome ℕ
unfolding is_sheet length_of room_at
written_of rate s start room at = do
  refuse 28 on 0 unless (is_sheet rate s)
  refuse 29 on 0 unless (leb start (length_of rate s))
  refuse 30 on 0 unless (leb at room)
  refuse 30 on 0 if (ltb start (length_of rate s) && ltb (room - at) 2)
  going (min (room_at room at) (length_of rate s - start))

-- the buffer afterwards, by what came of it: so many samples as bytes from place `at` on, or every byte as it was
unfoldable pub written_by : ℕ → Sheet → ℕ → List ℕ → ℕ → Outcome ℕ → List ℕ
unfolding put bytes_of samples_from placed
written_by rate s start buffer at (going n) = put buffer at (bytes_of (samples_from (placed rate s) start n))
written_by rate s start buffer at (refused k l) = buffer

unfoldable pub written_in : ℕ → Sheet → ℕ → List ℕ → ℕ → List ℕ
unfolding written_of written_by
written_in rate s start buffer at = written_by rate s start buffer at (written_of rate s start (length buffer) at)
