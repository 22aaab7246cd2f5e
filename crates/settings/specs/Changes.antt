-- What a command comes to: the environment that it makes of another, with its refusals in order: "`o`, `l`, `t`: 7, 8."; "Decimal command: 7, 19, 8."; "key
-- without accidental" is 9. Assumes nothing.
use Rattle.std.proofs.Math.Option.{Option}
use Rattle.std.specs.Prelude.{ℕ, ◌≤◌, ◌<◌, Result}
use Rattle.sheet.specs.Refusals.{Outcome, going, refused, ◌>>=◌}
use Rattle.sheet.specs.declared.refusal.Refusal.{Refusal}
use Rattle.sheet.specs.Numbers.{outcome_on}
use Rattle.environment.specs.declared.environment.Environment.{Environment}
use Rattle.keys.specs.declared.key.Key.{Key}
use Rattle.environment.specs.Bounds.{octaves, values, tempos}
use Rattle.environment.specs.Environment.{with_octave, with_value, with_tempo, with_amplitude, with_key}
use Rattle.environment.specs.Ranges.{Amount, ranged, loudness, key_taken}

module _ (line : ℕ) where
  unfoldable pub octave_read : Option ℕ → Environment → Outcome Environment
  unfolding ranged
  octave_read n e = do
    v ← ranged line octaves n
    going (with_octave v e)

  unfoldable pub value_read : Option ℕ → Environment → Outcome Environment
  unfolding ranged
  value_read n e = do
    v ← ranged line values n
    going (with_value v e)

  unfoldable pub tempo_read : Option ℕ → Environment → Outcome Environment
  unfolding ranged
  tempo_read n e = do
    v ← ranged line tempos n
    going (with_tempo v e)

  unfoldable pub amplitude_read : Amount → Environment → Outcome Environment
  unfolding loudness
  amplitude_read a e = do
    x ← loudness line a
    going (with_amplitude x e)

  unfoldable pub key_read : Option Key → Environment → Outcome Environment
  unfolding key_taken
  key_read k e = do
    x ← key_taken line k
    going (with_key x e)

-- ---- answers: what each stands for, on a line

abbrev pub change_outcome : ℕ → Result Environment Refusal → Outcome Environment
change_outcome line r = outcome_on line r

-- a command leaves an octave that is in range, or is refused with a number that is not 0
unfoldable pub Low : Outcome Environment → Type 0
Low (going e) = e.octave ≤ octaves.most
Low (refused n l) = 0 < n
