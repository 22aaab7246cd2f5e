-- Laws of values within bounds and of keys, one for each answer, and of the octave's steps. Assumes nothing.
use mathlib.Core.Path.{◌≡◌}
use mathlib.Core.Bool.{true, false}
use Prim.Native.Nat.{ℕ, ◌≤◌, ◌<◌}
use lib.Ieee.{Float, lt}
use borrow.Author.Tests.{le-leb, lt-leb}
use Rattle.ieee.specs.Constants.{plus_zero, one}
use Rattle.std.specs.Prelude.{Option as Answer, Some, None, Result, Ok, Err}
use Rattle.text.specs.declared.parsed.Parsed.{Parsed}
use Rattle.number.specs.declared.decimal.NoDecimal.{NoDecimal}
use Rattle.number.specs.declared.decimal.NoDecimal.TheVariants.{Unreadable, TooLong}
use Rattle.sheet.specs.declared.refusal.Refusal.TheVariants.{NoNumber, OutOfRange, TooManyDigits}
use Rattle.keys.specs.declared.key.Key.{Key}
use Rattle.sheet.specs.Refusals.{going, refused, ◌>>=◌, ◌>>◌, refuse◌on◌unless◌, refuse◌on◌if◌, refuse◌on◌without◌}
use Rattle.environment.specs.Bounds.{bounds}
use Rattle.environment.specs.Ranges.{digit_run, amount_of, ranged, loudness, value_outcome, amplitude_outcome, key_outcome}

-- ---- digit runs

module _ (n : Answer (Parsed ℕ)) (least most : ℕ) where
  pub value_none : n ≡ None → (line : ℕ) → value_outcome line (Err NoNumber) ≡ ranged line (bounds least most) (digit_run n)
  unfolding digit_run ranged ◌>>=◌ refuse◌on◌without◌
  value_none e line = rw e

  module _ (found : Parsed ℕ) (e : n ≡ Some found) where
    pub value_low : found.value < least → (line : ℕ) → value_outcome line (Err OutOfRange) ≡ ranged line (bounds least most) (digit_run n)
    unfolding digit_run ranged ◌>>=◌ ◌>>◌ refuse◌on◌without◌ refuse◌on◌unless◌
    value_low h line = rw (e, lt-leb least found.value h)

    pub value_high : least ≤ found.value → most < found.value → (line : ℕ) → value_outcome line (Err OutOfRange) ≡ ranged line (bounds least most) (digit_run n)
    unfolding digit_run ranged ◌>>=◌ ◌>>◌ refuse◌on◌without◌ refuse◌on◌unless◌
    value_high g h line = rw (e, le-leb least found.value g, lt-leb found.value most h)

    pub value_within : least ≤ found.value → found.value ≤ most → (line : ℕ)
        → value_outcome line (Ok found.value) ≡ ranged line (bounds least most) (digit_run n)
    unfolding digit_run ranged ◌>>=◌ ◌>>◌ refuse◌on◌without◌ refuse◌on◌unless◌
    value_within g h line = rw (e, le-leb least found.value g, le-leb found.value most h)

-- ---- decimals

module _ (d : Result (Parsed Float) NoDecimal) where
  pub amplitude_none : d ≡ Err Unreadable → (line : ℕ) → amplitude_outcome line (Err NoNumber) ≡ loudness line (amount_of d)
  unfolding amount_of loudness ◌>>=◌
  amplitude_none e line = rw e

  pub amplitude_long : d ≡ Err TooLong → (line : ℕ) → amplitude_outcome line (Err TooManyDigits) ≡ loudness line (amount_of d)
  unfolding amount_of loudness ◌>>=◌
  amplitude_long e line = rw e

  module _ (found : Parsed Float) (e : d ≡ Ok found) where
    pub amplitude_low : lt found.value plus_zero ≡ true → (line : ℕ) → amplitude_outcome line (Err OutOfRange) ≡ loudness line (amount_of d)
    unfolding amount_of loudness ◌>>=◌ ◌>>◌ refuse◌on◌if◌
    amplitude_low h line = rw (e, h)

    pub amplitude_high : lt found.value plus_zero ≡ false → lt one found.value ≡ true → (line : ℕ)
        → amplitude_outcome line (Err OutOfRange) ≡ loudness line (amount_of d)
    unfolding amount_of loudness ◌>>=◌ ◌>>◌ refuse◌on◌if◌
    amplitude_high g h line = rw (e, g, h)

    pub amplitude_within : lt found.value plus_zero ≡ false → lt one found.value ≡ false → (line : ℕ)
        → amplitude_outcome line (Ok found.value) ≡ loudness line (amount_of d)
    unfolding amount_of loudness ◌>>=◌ ◌>>◌ refuse◌on◌if◌
    amplitude_within g h line = rw (e, g, h)

-- ---- keys

-- what each case of the answer stands for
module _ (line : ℕ) (r : Answer (Parsed Key)) where
  pub key_found_law : (found : Parsed Key) → r ≡ Some found → key_outcome line r ≡ going found.value
  unfolding key_outcome refuse◌on◌without◌
  key_found_law found e = rw e

  pub key_absent : r ≡ None → key_outcome line r ≡ refused 9 line
  unfolding key_outcome refuse◌on◌without◌
  key_absent e = rw e
