-- The values that commands and directives take, with their refusals in order: "`o`, `l`, `t`: 7, 8."; "Decimal command:
-- 7, 19, 8."; "key without accidental" is 9. Assumes nothing.
use Rattle.std.specs.Prelude.{◌||◌, ℕ, Float, Option as Answer, Some, None, Result, Ok, Err}
use Rattle.std.proofs.Math.Option.{Option, none, some}
use Rattle.std.specs.Float.Ieee.{lt}
use Rattle.ieee.specs.Constants.{plus_zero, one}
use Rattle.text.specs.declared.parsed.Parsed.{Parsed}
use Rattle.number.specs.declared.decimal.NoDecimal.{NoDecimal}
use Rattle.number.specs.declared.decimal.NoDecimal.TheVariants.{Unreadable, TooLong}
use Rattle.sheet.specs.declared.refusal.Refusal.{Refusal}
use Rattle.sheet.specs.Numbers.{outcome_on}
use Rattle.sheet.specs.Refusals.{Outcome, going, refused, ◌>>=◌, ◌>>◌, refuse◌on◌unless◌, refuse◌on◌if◌, refuse◌on◌without◌}
use Rattle.keys.specs.declared.key.Key.{Key}
use Rattle.keys.specs.Keys.{key_found}
use Rattle.environment.specs.Bounds.{Bounds, within}

-- "a digit run, not found if absent or over 4,294,967,295"
unfoldable pub digit_run : Answer (Parsed ℕ) → Option ℕ
digit_run (Some found) = some found.value
digit_run None = none

-- a digit run within bounds, on a line: "`o`, `l`, `t`: 7, 8."
unfoldable pub ranged : ℕ → Bounds → Option ℕ → Outcome ℕ
ranged line b n = do
  v ← refuse 7 on line without n
  refuse 8 on line unless (within b v)
  going v

-- a decimal without the place after it
pub data Amount : Type 0 where
  amount : Float → Amount
  unreadable too_long : Amount

unfoldable pub amount_of : Result (Parsed Float) NoDecimal → Amount
amount_of (Ok found) = amount found.value
amount_of (Err Unreadable) = unreadable
amount_of (Err TooLong) = too_long

-- a decimal that is there: "Decimal command: 7, 19"
unfoldable pub readable : ℕ → Amount → Outcome Float
readable line (amount x) = going x
readable line unreadable = refused 7 line
readable line too_long = refused 19 line

-- "`v` takes a decimal from 0 to 1."; "Decimal command: 7, 19, 8."
unfoldable pub loudness : ℕ → Amount → Outcome Float
unfolding readable
loudness line a = do
  x ← readable line a
  refuse 8 on line if (lt x plus_zero || lt one x)
  going x

-- "`k` and `#key` take any run of letters a to g, empty or repeating, then `+`, `-` or `=`"; "key without accidental"
-- is 9
unfoldable pub key_taken : ℕ → Option Key → Outcome Key
key_taken line k = refuse 9 on line without k

-- ---- answers: what each stands for, on a line

abbrev pub value_outcome : ℕ → Result ℕ Refusal → Outcome ℕ
value_outcome line r = outcome_on line r

abbrev pub amplitude_outcome : ℕ → Result Float Refusal → Outcome Float
amplitude_outcome line r = outcome_on line r

unfoldable pub key_outcome : ℕ → Answer (Parsed Key) → Outcome Key
unfolding key_taken key_found
key_outcome line k = key_taken line (key_found k)
