-- Laws of commands: an answer that is known is what the definition reads, and a command leaves an octave that is in range in range. Assumes nothing.
use mathlib.Core.Path.{◌≡◌, refl, sym}
use mathlib.Core.Bool.{Bool, true, false, ◌||◌}
use mathlib.Core.Option.{Option, none, some}
use Prim.Native.Nat.{ℕ, ◌≤◌}
use native.Mathlib.Omega.{arith}
use lib.Dec.{leb}
use Rattle.std.specs.Prelude.{Option as Answer, Some, None, Ok, Err}
use Rattle.text.specs.declared.parsed.Parsed.{Parsed}
use Rattle.sheet.specs.declared.refusal.Refusal.{Refusal}
use Rattle.sheet.specs.declared.refusal.Refusal.TheVariants.{NoAccidental}
use Rattle.sheet.specs.Numbers.{outcome_on}
use lib.Ieee.{Float, lt}
use borrow.Author.Tests.{leb-true}
use Rattle.ieee.specs.Constants.{plus_zero, one}
use Rattle.sheet.proofs.Basics.{both}
use Rattle.sheet.proofs.Outcomes.{then_going, then_refused}
use Rattle.sheet.specs.Refusals.{Outcome, going, ◌>>=◌, ◌>>◌, refuse◌on◌unless◌, refuse◌on◌if◌, refuse◌on◌without◌}
use Rattle.environment.specs.declared.environment.Environment.{Environment}
use Rattle.keys.specs.declared.key.Key.{Key}
use Rattle.environment.specs.Bounds.{Bounds, octaves, values, tempos, within}
use Rattle.settings.specs.Changes.{Low, change_outcome, octave_read, value_read, tempo_read, amplitude_read, key_read}
use Rattle.environment.specs.Environment.{with_amplitude, with_key}
use Rattle.keys.specs.Keys.{key_found}
use Rattle.environment.specs.Ranges.{Amount, amount, unreadable, too_long, readable, ranged, loudness, key_outcome}
use Rattle.environment.proofs.Limits.{key_found_law, key_absent}

-- ---- answers

-- what is put into the environment, or why nothing is
module _ {A : Type 0} (m : Outcome A) (f : A → Outcome Environment) (line : ℕ) where
  pub put : (x : A) → outcome_on line (Ok x) ≡ m → f x ≡ (m >>= f)
  put x e = sym (then_going x m f (sym e))

  pub refused_as : (why : Refusal) → outcome_on line (Err why) ≡ m → change_outcome line (Err why) ≡ (m >>= f)
  refused_as why e = sym (then_refused _ line m f (sym e))

module _ (e : Environment) (r : Answer (Parsed Key)) where
  pub key_to : (found : Parsed Key) → r ≡ Some found → (line : ℕ) → change_outcome line (Ok (with_key found.value e)) ≡ key_read line (key_found r) e
  unfolding key_read key_outcome
  key_to found g line = sym (then_going found.value _ _ (key_found_law line r found g))

  pub key_refused : r ≡ None → (line : ℕ) → change_outcome line (Err NoAccidental) ≡ key_read line (key_found r) e
  unfolding key_read key_outcome
  key_refused g line = sym (then_refused _ line _ _ (key_absent line r g))

-- ---- octaves in range, and refusals whose number is not 0

-- a number that is read within bounds, whatever is made of it
module _ (line : ℕ) (b : Bounds) (f : ℕ → Environment) (low : (v : ℕ) → v ≤ b.most → (f v).octave ≤ 8) where
  within_low : (v : ℕ) (t : Bool) → within b v ≡ t → Low (◌>>◌ (refuse◌on◌unless◌ 8 line t) (going v) >>= (λ w. going (f w)))
  unfolding Low ◌>>=◌ ◌>>◌ refuse◌on◌unless◌
  within_low v true e = low v (leb-true v b.most (both (leb b.least v) (leb v b.most) e).1)
  within_low v false e = omega arith

  ranged_low : (n : Option ℕ) → Low (ranged line b n >>= (λ w. going (f w)))
  unfolding Low ranged ◌>>=◌ refuse◌on◌without◌
  ranged_low none = omega arith
  ranged_low (some v) = within_low v (within b v) refl

loud_low : (line : ℕ) (x : Float) (e : Environment) → e.octave ≤ 8 → (t : Bool) → Low (◌>>◌ (refuse◌on◌if◌ 8 line t) (going x) >>= (λ y. going (with_amplitude y e)))
unfolding Low ◌>>=◌ ◌>>◌ refuse◌on◌if◌
loud_low line x e h true = omega arith
loud_low line x e h false = h

module _ (line : ℕ) (e : Environment) where
  pub octave_low : (n : Option ℕ) → Low (octave_read line n e)
  unfolding octave_read
  octave_low n = ranged_low line octaves _ (λ v h. h) n

  module _ (h : e.octave ≤ 8) where
    pub value_low : (n : Option ℕ) → Low (value_read line n e)
    unfolding value_read
    value_low n = ranged_low line values _ (λ v k. h) n

    pub tempo_low : (n : Option ℕ) → Low (tempo_read line n e)
    unfolding tempo_read
    tempo_low n = ranged_low line tempos _ (λ v k. h) n

    pub amplitude_low : (a : Amount) → Low (amplitude_read line a e)
    unfolding Low amplitude_read loudness readable ◌>>=◌
    amplitude_low (amount x) = loud_low line x e h (lt x plus_zero || lt one x)
    amplitude_low unreadable = omega arith
    amplitude_low too_long = omega arith

    pub key_low : (k : Option Key) → Low (key_read line k e)
    unfolding Low key_read ◌>>=◌ refuse◌on◌without◌
    key_low none = omega arith
    key_low (some k) = h
