-- What a written note sounds like: its semitone, frequency, duration and amplitude, from the environment of its part. Assumes nothing.
use Rattle.std.specs.Prelude.{Bool, true, false, [], ◌∷◌, ℕ, ◌+◌, ◌*◌, leb, Float}
use Rattle.std.proofs.Math.Option.{Option, none, some}
use Rattle.ieee.specs.Constants.{plus_zero}
use Rattle.text.specs.Characters.{is, row_of}
use Rattle.tone.specs.Power.{frequency_of}
use Rattle.tone.specs.Time.{duration_of}
use Rattle.sheet.specs.declared.note.Note.{Note}
use Rattle.environment.specs.declared.environment.Environment.{Environment}
use Rattle.keys.specs.declared.key.Accidental.{Accidental}
use Rattle.environment.specs.Bounds.{octaves}
use Rattle.keys.specs.Keys.{moved_by, keyed}

-- "offsets c 0, d 2, e 4, f 5, g 7, a 9, b 11, r 0"
unfoldable pub offset_of : ℕ → ℕ
unfolding row_of
offset_of letter =
    row_of letter 0 (("c", 0) ∷ ("d", 2) ∷ ("e", 4) ∷ ("f", 5) ∷ ("g", 7) ∷ ("a", 9) ∷ ("b", 11) ∷ ("r", 0) ∷ [])

-- "Semitone s = 12·octave + offset + accidental"
unfoldable pub semitone_of : Environment → ℕ → Option Accidental → ℕ
unfolding offset_of moved_by keyed
semitone_of e letter a = moved_by (keyed e.key letter a) (12 * e.octave + offset_of letter)

-- the same as code counts it: 0 past the highest octave, which no command sets
unfoldable pub semitone_within : Environment → ℕ → Option Accidental → ℕ
unfolding semitone_of
semitone_within e letter a = elim (leb e.octave octaves.most) [ true ↦ semitone_of e letter a | false ↦ 0 ]

-- "A rest has amplitude 0."
unfoldable pub amplitude_of : Environment → ℕ → Float
amplitude_of e letter = elim (is "r" letter) [ true ↦ plus_zero | false ↦ e.amplitude ]

-- "An absent value .. takes the default"
unfoldable pub value_of : Environment → Option ℕ → ℕ
value_of e none = e.value
value_of e (some v) = v

-- the note of a letter, an accidental, a value and perhaps a dot
unfoldable pub note_of : Environment → ℕ → Option Accidental → ℕ → Bool → Note
unfolding semitone_of amplitude_of frequency_of duration_of
note_of e letter a v dot =
    record {
      amplitude = amplitude_of e letter;
      frequency = frequency_of (semitone_of e letter a);
      duration = duration_of e.tempo e.denominator v dot;
      instrument = e.instrument;
    }
