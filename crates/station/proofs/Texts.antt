-- What a reading tells of its text: it is refused where its number is not 0, and else its sheet, which passes the check of a sheet that is handed in.
-- Assumes nothing.
use mathlib.Core.Path.{◌≡◌, refl, sym, subst}
use mathlib.Core.Bool.{true}
use mathlib.Core.List.{List}
use Prim.Native.Nat.{ℕ}
use native.Mathlib.Omega.{arith}
use Rattle.sheet.specs.declared.sheet.Sheet.{Sheet}
use Rattle.sheet.specs.Refusals.{Outcome, going, refused, ◌>>=◌}
use Rattle.sheet.proofs.Holds.{Holds, holds_going, holds_refused, holds_of}
use Rattle.sheet.proofs.Outcomes.{Numbered}
use Rattle.handed.specs.Check.{is_sheet}
use Rattle.meaning.specs.declared.reading.Reading.{Reading}
use Rattle.meaning.specs.Sheets.{Read, sheet_read}
use Rattle.meaning.specs.Layout.{sheet_of, laid_out, reading_of}
use Rattle.meaning.proofs.Handed.{accepted_passes}
use Rattle.strict.specs.declared.mode.Mode.{Mode}
use Rattle.station.specs.Calls.{rate, sheet_in}
use Rattle.station.proofs.Numbers.{sheet_numbered}

-- ---- the check

abbrev pub Passes : Sheet → Type 0
Passes s = is_sheet rate s ≡ true

pub text_passes : (mode : Mode) (source : List ℕ) → Holds Passes (sheet_in mode source)
unfolding sheet_in ◌>>=◌
text_passes mode source = go (sheet_read mode rate source) refl
  where
    go : (o : Outcome Read) → sheet_read mode rate source ≡ o → Holds Passes (o >>= (λ r. going (sheet_of r.parts r.instruments)))
    go (going r) e = holds_going Passes _ (accepted_passes mode rate source r e)
    go (refused n l) e = holds_refused Passes n l

pub sheet_passes : (mode : Mode) (source : List ℕ) (s : Sheet) → sheet_in mode source ≡ going s → is_sheet rate s ≡ true
sheet_passes mode source s e = holds_of Passes s (subst (Holds Passes) e (text_passes mode source))

-- ---- a reading

refused_by : (o : Outcome Read) → ((laid_out o).refusal ≡ 0 → ⊥)
    → (o >>= (λ r. going (sheet_of r.parts r.instruments))) ≡ refused (laid_out o).refusal (laid_out o).line
unfolding ◌>>=◌ laid_out
refused_by (going r) h = absurd (h refl)
refused_by (refused n l) h = refl

going_by : (o : Outcome Read) → Numbered o → (laid_out o).refusal ≡ 0 → (o >>= (λ r. going (sheet_of r.parts r.instruments))) ≡ going (laid_out o).sheet
unfolding ◌>>=◌ laid_out Numbered
going_by (going r) k z = refl
going_by (refused n l) k z = absurd (omega (arith, k, z))

module _ (mode : Mode) (source : List ℕ) (x : Reading) (e : x ≡ reading_of mode rate source) where
  pub text_refused : (x.refusal ≡ 0 → ⊥) → sheet_in mode source ≡ refused x.refusal x.line
  unfolding sheet_in reading_of
  text_refused =
      subst (λ (y : Reading). (y.refusal ≡ 0 → ⊥) → sheet_in mode source ≡ refused y.refusal y.line) (sym e) (refused_by (sheet_read mode rate source))

  pub text_going : x.refusal ≡ 0 → sheet_in mode source ≡ going x.sheet
  unfolding sheet_in reading_of
  text_going =
      subst (λ (y : Reading). y.refusal ≡ 0 → sheet_in mode source ≡ going y.sheet) (sym e)
      (going_by (sheet_read mode rate source) (sheet_numbered mode rate source))
