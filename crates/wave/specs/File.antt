-- What the writers leave in a buffer. Document 01: "a window's sample bytes start at any place in the caller's buffer"; "The file of
-- given f32 samples fills the buffer's first 44 + 2n bytes (30). Other bytes keep their values"; refusal 30 is "WAV buffer too
-- short, or over 2,000,000,000 given samples", and then nothing is written. Assumes nothing.
use Rattle.std.specs.Prelude.{Bool, true, false, ◌&&◌, List, ◌++◌, ℕ, ◌+◌, ◌-◌, ◌*◌, ◌/◌, min, leb, length, take, drop, Float, Result, Ok, Err}
use Rattle.form.specs.declared.size.Size.{Size}
use Rattle.form.specs.Form.{header}
use Rattle.form.specs.Sample.{bytes_of}
use Rattle.wave.specs.declared.file.TooShort.{TooShort}

-- the buffer with the bytes bs from place `at` on, if they fit; the bytes before and after them are the ones that were there
unfoldable pub put : List ℕ → ℕ → List ℕ → List ℕ
put buffer at bs = take at buffer ++ (bs ++ drop (at + length bs) buffer)

-- how many samples fit whole into a buffer of so many bytes from place `at` on
unfoldable pub room_at : ℕ → ℕ → ℕ
room_at room at = (room - at) / 2

-- how many of the samples xs are written there: those that fit
unfoldable pub count_in : ℕ → ℕ → ℕ → ℕ
unfolding room_at
count_in room at samples = min samples (room_at room at)

-- the buffer with those samples' bytes from place `at` on
unfoldable pub samples_in : List ℕ → ℕ → List Float → List ℕ
unfolding put count_in bytes_of
samples_in buffer at xs = put buffer at (bytes_of (take (count_in (length buffer) at (length xs)) xs))

-- ---- what a caller is told

-- a refusal number, 0 for none, how many bytes were written, and a line
pub record Told : Type 0 where
  pub number : ℕ
  pub count : ℕ
  pub line : ℕ

-- so many bytes are written
abbrev pub written : ℕ → Told
written n = record { number = 0; count = n; line = 0 }

-- "28 to 30 return count 0, line 0, and write nothing"
abbrev pub refused : ℕ → Told
refused number = record { number = number; count = 0; line = 0 }

-- document 01's number and values for each case of a writer's answer
unfoldable pub told : Result ℕ TooShort → Told
told (Ok n) = written n
told (Err why) = refused 30

-- ---- a header

-- "The header of a sheet goes to the buffer's first 44 bytes (.. 30 if there are fewer)": what the caller is told
unfoldable pub header_told : ℕ → Told
header_told room = elim (leb 44 room) [ true ↦ written 44 | false ↦ refused 30 ]

-- and the buffer afterwards: the header in front, with the RIFF size of a name, or every byte as it was
unfoldable pub header_in : Size → ℕ → ℕ → List ℕ → List ℕ
unfolding put header
header_in size rate n buffer = elim (leb 44 (length buffer)) [ true ↦ put buffer 0 (header size rate n) | false ↦ buffer ]

-- ---- a file

-- "over 2,000,000,000 given samples"
abbrev pub file_most : ℕ
file_most = 2000000000

-- whether the file of so many samples can be written to a buffer of so many bytes
unfoldable pub fits_file : ℕ → ℕ → Bool
fits_file samples room = leb samples file_most && leb (44 + 2 * samples) room

-- what the caller is told: how many bytes the file has, or refusal 30
unfoldable pub file_told : ℕ → ℕ → Told
unfolding fits_file
file_told samples room = elim (fits_file samples room) [ true ↦ written (44 + 2 * samples) | false ↦ refused 30 ]

-- the buffer afterwards: the file in front, with the RIFF size of a name, or every byte as it was
unfoldable pub file_in : Size → ℕ → List Float → List ℕ → List ℕ
unfolding fits_file put header bytes_of
file_in size rate xs buffer =
    elim (fits_file (length xs) (length buffer))
    [ true ↦ put buffer 0 (header size rate (length xs) ++ bytes_of xs) | false ↦ buffer ]
