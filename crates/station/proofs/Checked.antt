-- 28 cannot occur: with the check asked right behind the reading, as of a sheet that is handed in, every answer is the same. Assumes nothing.
use mathlib.Core.Path.{◌≡◌, refl, sym, ◌∙◌}
use mathlib.Core.List.{List}
use Prim.Native.Nat.{ℕ}
use Rattle.sheet.specs.declared.sheet.Sheet.{Sheet}
use Rattle.sheet.specs.Refusals.{Outcome, going, refused, ◌>>=◌, ◌>>◌, refuse◌on◌unless◌}
use Rattle.sheet.proofs.Outcomes.{then_going, then_refused}
use Rattle.handed.specs.Check.{is_sheet}
use Rattle.windows.specs.Written.{written_of}
use Rattle.engine.specs.Files.{header_of}
use Rattle.strict.specs.declared.mode.Mode.{Mode}
use Rattle.station.specs.Calls.{rate, sheet_in, header_asked, window_asked}
use Rattle.station.proofs.Texts.{sheet_passes}
use Rattle.station.proofs.Asked.{header_refused, header_going, window_refused, window_going}

-- every call begins with the sheet of its text, and that is the same with 28
pub sheet_checked : (mode : Mode) (source : List ℕ) → sheet_in mode source ≡ (sheet_in mode source >>= (λ (s : Sheet). ◌>>◌ (refuse◌on◌unless◌ 28 0 (is_sheet rate s)) (going s)))
unfolding ◌>>◌ refuse◌on◌unless◌
sheet_checked mode source = go (sheet_in mode source) refl
  where
    go : (o : Outcome Sheet) → sheet_in mode source ≡ o → sheet_in mode source ≡ (sheet_in mode source >>= (λ (s : Sheet). ◌>>◌ (refuse◌on◌unless◌ 28 0 (is_sheet rate s)) (going s)))
    go (going s) e = e ∙ sym (then_going s (sheet_in mode source) _ e ∙ rw (sheet_passes mode source s e))
    go (refused n l) e = e ∙ sym (then_refused n l (sheet_in mode source) _ e)

-- so the header and a window are those of the engine to who hands in the sheet
pub header_checked : (mode : Mode) (source : List ℕ) (room : ℕ) → header_asked mode source room ≡ (sheet_in mode source >>= (λ (s : Sheet). header_of rate s room))
header_checked mode source room = go (sheet_in mode source) refl
  where
    go : (o : Outcome Sheet) → sheet_in mode source ≡ o → header_asked mode source room ≡ (sheet_in mode source >>= (λ (s : Sheet). header_of rate s room))
    go (going s) e = header_going mode source s e room ∙ sym (then_going s (sheet_in mode source) _ e)
    go (refused n l) e = header_refused mode source n l e room ∙ sym (then_refused n l (sheet_in mode source) _ e)

pub window_checked : (mode : Mode) (source : List ℕ) (start room at : ℕ) → window_asked mode source start room at ≡ (sheet_in mode source >>= (λ (s : Sheet). written_of rate s start room at))
window_checked mode source start room at = go (sheet_in mode source) refl
  where
    go : (o : Outcome Sheet) → sheet_in mode source ≡ o → window_asked mode source start room at ≡ (sheet_in mode source >>= (λ (s : Sheet). written_of rate s start room at))
    go (going s) e = window_going mode source s e start room at ∙ sym (then_going s (sheet_in mode source) _ e)
    go (refused n l) e = window_refused mode source n l e start room at ∙ sym (then_refused n l (sheet_in mode source) _ e)
