-- The starred sheets of document 01 in one table, each with its answer. A row asks what a text is read as, which bytes
-- its file has, or which number a sample is; `told` says what the definitions give. Assumes nothing.
use Rattle.std.specs.Prelude.{List, [], ◌∷◌, ◌++◌, ℕ, ℤ, pos, negsuc, Float}
use Prim.Native.String.{String}
use Rattle.std.specs.Float.{nan, binary32}
use Rattle.std.specs.Float.Ieee.{of_bits}
use Rattle.ieee.specs.Constants.{plus_zero, one, minus_one}
use Rattle.text.specs.Quoted.{bytes}
use Rattle.form.specs.declared.size.Size.TheVariants.{Published}
use Rattle.form.specs.Sample.{sample16}
use Rattle.instrument.specs.declared.machine.Command.{Command}
use Rattle.instrument.specs.declared.machine.Command.TheVariants as Command
use Rattle.sheet.specs.declared.note.Note.{Note}
use Rattle.sheet.specs.Refusals.{Outcome, going, refused}
use Rattle.strict.specs.declared.mode.Mode.TheVariants.{Plain}
use Rattle.meaning.specs.Layout.{reading_of}
use Rattle.meaning.specs.Answers.{Answer, answer}
use Rattle.engine.specs.Stream.{file_of}

-- a note of 0.6 seconds, a quarter at tempo 100, on the default instrument: its amplitude and its frequency by their
-- bits
abbrev pub quarter : ℕ → ℕ → Note
quarter amplitude frequency =
    record {
      amplitude = of_bits binary32 amplitude;
      frequency = of_bits binary32 frequency;
      duration = of_bits binary32 0x3f19999a;
      instrument = 0;
    }

-- c, d and e of octave 4 at amplitude 0.5: 261.6, 293.7 and 329.6 Hz
abbrev pub c : Note
c = quarter 0x3f000000 0x4382d00e

abbrev pub d : Note
d = quarter 0x3f000000 0x4392d513

abbrev pub e : Note
e = quarter 0x3f000000 0x43a4d051

-- an accepted sheet of one part and no instrument of its own: its notes, samples and steps
abbrev pub plays : List Note → ℕ → ℕ → Outcome Answer
plays notes samples steps = going (record { notes = notes ∷ []; commands = []; samples = samples; steps = steps })

-- the operator `a 1 0 0 1 0`, where a has the given bits
abbrev pub op : ℕ → Command
op a =
    Command.Operator
    (record {
      amplitude = of_bits binary32 a;
      freqratio = one;
      attack = plus_zero;
      decay = plus_zero;
      sustain = one;
      release = plus_zero;
      feedback = 0;
    })

-- an accepted sheet of one empty part and one instrument
abbrev pub silent : List Command → Outcome Answer
silent commands = going (record { notes = [] ∷ []; commands = commands ∷ []; samples = 0; steps = 0 })

-- what can be asked, and what is told
pub data Question : Type 0 where
  reading file : String → Question
  sample : Float → Question

pub data Told : Type 0 where
  read : Outcome Answer → Told
  bytes_are : List ℕ → Told
  number : ℤ → Told

unfoldable pub told : Question → Told
unfolding answer file_of reading_of bytes sample16
told (reading text) = read (answer Plain text)
told (file text) = bytes_are (file_of Published 44100 (reading_of Plain 44100 (bytes text)).sheet)
told (sample x) = number (sample16 x)

-- the 44 bytes of a file of no samples, 36 of which stand behind the RIFF size: 16-bit mono at 44,100 Hz
unfoldable pub empty_file : List ℕ
unfolding bytes
empty_file =
    bytes "RIFF" ++ (36 ∷ 0 ∷ 0 ∷ 0 ∷ (bytes "WAVE"
    ++ (bytes "fmt " ++ (16 ∷ 0 ∷ 0 ∷ 0 ∷ 1 ∷ 0 ∷ 1 ∷ 0 ∷ 68 ∷ 172 ∷ 0 ∷ 0 ∷ 136 ∷ 88 ∷ 1 ∷ 0 ∷ 2 ∷ 0 ∷ 16 ∷ 0
    ∷ (bytes "data" ++ (0 ∷ 0 ∷ 0 ∷ 0 ∷ []))))))

-- sheets 1 to 4, 6 to 11, in their order
unfoldable pub table : List (Question × Told)
unfolding empty_file
table =
    (reading "p [c:d]3", read (plays (c ∷ d ∷ c ∷ d ∷ c ∷ []) 132305 5))
    ∷ (reading "p [c:d:e]2", read (plays (c ∷ d ∷ e ∷ c ∷ d ∷ []) 132305 7))
    ∷ (reading "p [c:d]1", read (plays (c ∷ []) 26461 5))
    ∷ (reading "p [c]0", read (refused 11 1))
    ∷ (reading "p ;", read (plays [] 0 0))
    ∷ (file "p ;", bytes_are empty_file)
    ∷ (reading "p o8>a", read (plays (quarter 0x3f000000 0x45dc0026 ∷ []) 26461 3))
    ∷ (reading "p o1<a", read (plays (quarter 0x3f000000 0x425bffe4 ∷ []) 26461 3))
    ∷ (reading "p v1.00000001 c", read (plays (quarter 0x3f800000 0x4382d00e ∷ []) 26461 2))
    ∷ (reading "p v1.0000001 c", read (refused 8 1))
    ∷ (sample one, number (pos 32767))
    ∷ (sample minus_one, number (negsuc 32767))
    ∷ (sample nan, number (pos 0))
    ∷ (
      reading "@i\n1 1 0 0 1 0\n\t2 1 0 0 1 0\n\t\t3 1 0 0 1 0\n\t4 1 0 0 1 0\n\np ;",
      read (silent (op 0x40800000 ∷ Command.Stack 1 ∷ op 0x40400000 ∷ op 0x40000000 ∷ op 0x3f800000 ∷ [])),
    )
    ∷ (reading "@i\n1 1 0 0 1 0\n\t\t2 1 0 0 1 0", read (refused 16 3))
    ∷ []
