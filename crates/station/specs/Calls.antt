-- What a caller of the library is told of a text that is read in a mode, at 44,100 samples a second. Each call is a `do` block in document 01's order of refusals: those of reading,
-- 1 to 27 and 32, then 29, then 30. 28 is none of them, since every accepted sheet passes the check; proofs/Checked.antt shows each to be the same with it.
-- Assumes nothing.
use Rattle.std.specs.Prelude.{◌&&◌, List, ◌++◌, ℕ, ◌+◌, ◌-◌, ◌*◌, min, leb, ltb, length}
use Rattle.form.specs.declared.size.Size.{Size}
use Rattle.form.specs.Form.{header}
use Rattle.form.specs.Sample.{bytes_of}
use Rattle.wave.specs.File.{put, room_at}
use Rattle.sheet.specs.declared.sheet.Sheet.{Sheet}
use Rattle.sheet.specs.Parts.{length_of}
use Rattle.sheet.specs.Refusals.{Outcome, going, refused, ◌>>=◌, ◌>>◌, refuse◌on◌unless◌, refuse◌on◌if◌}
use Rattle.strict.specs.declared.mode.Mode.{Mode}
use Rattle.evaluator.specs.Samples.{samples_from}
use Rattle.mixing.specs.Placing.{placed}
use Rattle.meaning.specs.Sheets.{sheet_read}
use Rattle.meaning.specs.Layout.{sheet_of}
use Rattle.station.specs.declared.told.Told.{Told}

-- ---- what a caller is told

-- a count, a refusal's number and its line: "28 to 30 return count 0, line 0"; a number of 0 is no refusal
unfoldable pub told : Outcome ℕ → Told
told (going n) = record { count = n; refusal = 0; line = 0 }
told (refused k l) = record { count = 0; refusal = k; line = l }

-- a buffer afterwards: with these bytes from place `at` on, or, after a refusal, every byte as it was
unfoldable pub written : List ℕ → ℕ → Outcome (List ℕ) → List ℕ
unfolding put
written buffer at (going bs) = put buffer at bs
written buffer at (refused k l) = buffer

-- ---- the sheet of a text

-- "16-bit mono WAV at 44,100 Hz"
abbrev pub rate : ℕ
rate = 44100

-- what a text is read as, or its refusal: 1 to 27, and 32 in strict mode, each with its line
unfoldable pub sheet_in : Mode → List ℕ → Outcome Sheet
unfolding sheet_read sheet_of
sheet_in mode source = do
  r ← sheet_read mode rate source
  going (sheet_of r.parts r.instruments)

-- how many samples it has
unfoldable pub samples_asked : Mode → List ℕ → Outcome ℕ
unfolding sheet_in length_of
samples_asked mode source = do
  s ← sheet_in mode source
  going (length_of rate s)

-- ---- the header

-- "The header of a sheet goes to the buffer's first 44 bytes (.. 30 if there are fewer)."
unfoldable pub header_asked : Mode → List ℕ → ℕ → Outcome ℕ
unfolding sheet_in
header_asked mode source room = do
  s ← sheet_in mode source
  refuse 30 on 0 unless (leb 44 room)
  going 44

-- with the RIFF size of a name
abbrev pub header_bytes : Size → Sheet → List ℕ
header_bytes riff s = header riff rate (length_of rate s)

unfoldable pub header_written : Mode → Size → List ℕ → List ℕ → List ℕ
unfolding written sheet_in header_asked header length_of
header_written mode riff source buffer =
    written buffer 0 (do
      n ← header_asked mode source (length buffer)
      s ← sheet_in mode source
      going (header_bytes riff s))

-- ---- a window

-- "A sheet's window takes a start, a buffer and a place, writes as two bytes each the samples from the start that exist and fit whole, and returns how many
-- (.. 29; 30 if the place is past the buffer's length, or a sample exists and under two bytes are left)."
unfoldable pub window_asked : Mode → List ℕ → ℕ → ℕ → ℕ → Outcome ℕ
unfolding sheet_in length_of room_at
window_asked mode source start room at = do
  s ← sheet_in mode source
  refuse 29 on 0 unless (leb start (length_of rate s))
  refuse 30 on 0 unless (leb at room)
  refuse 30 on 0 if (ltb start (length_of rate s) && ltb (room - at) 2)
  going (min (room_at room at) (length_of rate s - start))

-- n samples of a sheet as bytes
abbrev pub sample_bytes : Sheet → ℕ → ℕ → List ℕ
sample_bytes s start n = bytes_of (samples_from (placed rate s) start n)

unfoldable pub window_written : Mode → List ℕ → ℕ → List ℕ → ℕ → List ℕ
unfolding written sheet_in window_asked bytes_of samples_from placed
window_written mode source start buffer at =
    written buffer at (do
      n ← window_asked mode source start (length buffer) at
      s ← sheet_in mode source
      going (sample_bytes s start n))

-- ---- the whole file

-- how many bytes the file has: "44 header bytes .., then little-endian samples"
unfoldable pub size_asked : Mode → List ℕ → Outcome ℕ
unfolding samples_asked
size_asked mode source = do
  n ← samples_asked mode source
  going (44 + 2 * n)

-- the same, where a buffer has room for it: "The file .. fills the buffer's first 44 + 2n bytes (30)."
unfoldable pub wav_asked : Mode → List ℕ → ℕ → Outcome ℕ
unfolding size_asked
wav_asked mode source room = do
  n ← size_asked mode source
  refuse 30 on 0 unless (leb n room)
  going n

-- what is told of the file: the count is the size that it needs, also where the buffer is too short
unfoldable pub wav_told : Mode → List ℕ → ℕ → Told
unfolding told size_asked wav_asked
wav_told mode source room =
    record { count = (told (size_asked mode source)).count; refusal = (told (wav_asked mode source room)).refusal; line = (told (wav_asked mode source room)).line }

unfoldable pub wav_written : Mode → Size → List ℕ → List ℕ → List ℕ
unfolding written sheet_in wav_asked header length_of bytes_of samples_from placed
wav_written mode riff source buffer =
    written buffer 0 (do
      n ← wav_asked mode source (length buffer)
      s ← sheet_in mode source
      going (header_bytes riff s ++ sample_bytes s 0 (length_of rate s)))
