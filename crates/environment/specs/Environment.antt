-- The environment of a part, as document 01 has it: what it is at the start, and each change of it. Assumes nothing.
use Rattle.std.specs.Prelude.{[], ℕ, ◌+◌, ◌-◌, min, max, Float}
use Rattle.ieee.specs.Constants.{half}
use Rattle.environment.specs.declared.environment.Environment.{Environment}
use Rattle.keys.specs.declared.key.Accidental.TheVariants.{Natural}
use Rattle.keys.specs.declared.key.Key.{Key}
use Rattle.keys.specs.Keys.{key_of}
use Rattle.environment.specs.Bounds.{octaves}

-- ---- the start

-- "At the start: octave 4, value 4, tempo 100, amplitude 0.5, denominator 4, no key, instrument 0"
unfoldable pub at_the_start : Environment
unfolding key_of
at_the_start =
    record {
      octave = 4;
      value = 4;
      tempo = 100;
      amplitude = half;
      denominator = 4;
      key = key_of [] Natural;
      instrument = 0;
    }

-- ---- changes

-- an environment by its values in their order
abbrev pub of : ℕ → ℕ → ℕ → Float → ℕ → Key → ℕ → Environment
of o v t a d k i = record { octave = o; value = v; tempo = t; amplitude = a; denominator = d; key = k; instrument = i }

abbrev pub with_octave : ℕ → Environment → Environment
with_octave o e = of o e.value e.tempo e.amplitude e.denominator e.key e.instrument

abbrev pub with_value : ℕ → Environment → Environment
with_value v e = of e.octave v e.tempo e.amplitude e.denominator e.key e.instrument

abbrev pub with_tempo : ℕ → Environment → Environment
with_tempo t e = of e.octave e.value t e.amplitude e.denominator e.key e.instrument

abbrev pub with_amplitude : Float → Environment → Environment
with_amplitude a e = of e.octave e.value e.tempo a e.denominator e.key e.instrument

abbrev pub with_denominator : ℕ → Environment → Environment
with_denominator d e = of e.octave e.value e.tempo e.amplitude d e.key e.instrument

abbrev pub with_key : Key → Environment → Environment
with_key k e = of e.octave e.value e.tempo e.amplitude e.denominator k e.instrument

abbrev pub with_instrument : ℕ → Environment → Environment
with_instrument i e = of e.octave e.value e.tempo e.amplitude e.denominator e.key i

-- "`>` and `<` move the octave by one and stop at 8 and 1."
unfoldable pub octave_up : Environment → Environment
octave_up e = with_octave (min (e.octave + 1) octaves.most) e

unfoldable pub octave_down : Environment → Environment
octave_down e = with_octave (max (e.octave - 1) octaves.least) e
