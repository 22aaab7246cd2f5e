-- Where the notes of a sheet stand. Document 01: "Parts go in order of first appearance. A note starts where the sums of ceil(duration·44100) before it
-- end, and sounds ceil((duration + release)·44100) samples". The rate is a parameter. Assumes nothing.
use Rattle.std.specs.Prelude.{List, [], ◌∷◌, ◌++◌, ℕ, ◌+◌, get_or}
use Rattle.std.specs.Float.{nan}
use Rattle.tone.specs.Time as time
use Rattle.instrument.specs.declared.machine.Instrument.{Instrument}
use Rattle.instrument.specs.Fill.{sound_at}
use Rattle.sheet.specs.declared.note.Note.{Note}
use Rattle.sheet.specs.declared.sheet.Sheet.{Sheet}
use Rattle.sheet.specs.Lengths.{sounding_of, samples_of}
use Rattle.sheet.specs.Parts.{parts_of, instruments_of}
use Rattle.mixing.specs.Sounding.{Placed}

-- an instrument for an index past the table, which refusal 28 turns away: its notes have no number of samples, and none sounds
abbrev pub nobody : Instrument
nobody = record { release = nan; commands = []; count = 0 }

-- the instrument of a note
abbrev pub player_of : List Instrument → Note → Instrument
player_of is n = get_or is n.instrument nobody

-- how many samples a note sounds, and how many pass until the next one starts
abbrev pub sounds_of : ℕ → Instrument → Note → ℕ
sounds_of rate i n = samples_of (sounding_of rate i.release n)

abbrev pub takes_of : ℕ → Note → ℕ
takes_of rate n = samples_of (time.length_of rate n.duration)

-- a note on an instrument, from sample `start` on
unfoldable pub placed_note : ℕ → Instrument → Note → ℕ → Placed
unfolding sounding_of samples_of sound_at
placed_note rate i n start =
    record { start = start; sounds = sounds_of rate i n; sound = sound_at i n.amplitude n.frequency n.duration rate }

-- the notes of a part, from sample `start` on
unfoldable pub placed_from : ℕ → List Instrument → ℕ → List Note → List Placed
unfolding placed_note samples_of
placed_from rate is start [] = []
placed_from rate is start (n ∷ ns) = placed_note rate (player_of is n) n start ∷ placed_from rate is (start + takes_of rate n) ns

-- the parts one after the other, each from sample 0 on
unfoldable pub placed_parts : ℕ → List Instrument → List (List Note) → List Placed
unfolding placed_from
placed_parts rate is [] = []
placed_parts rate is (ns ∷ parts) = placed_from rate is 0 ns ++ placed_parts rate is parts

-- the notes of a sheet in their places
unfoldable pub placed : ℕ → Sheet → List Placed
unfolding placed_parts parts_of
placed rate s = placed_parts rate (instruments_of s) (parts_of s)
