-- Laws of lengths: no note has more samples than one note may have, and a note that is counted with its release takes no more samples than it sounds.
-- Assumes nothing.
use mathlib.Core.Path.{◌≡◌, refl, sym, ap, subst, ◌∙◌}
use mathlib.Core.Bool.{true}
use Prim.Native.Nat.{ℕ, zero, suc, ◌^◌, ◌≤◌, ◌<◌}
use native.Mathlib.Omega.{arith}
use lib.Dec.{T}
use lib.Ieee.{Float, binary32, add, fits}
use Rattle.ieee.specs.Times.{is_time}
use Rattle.std.proofs.Common.{Result, Ok, Err}
use Rattle.std.specs.Result.{result_unwrap_or}
use Rattle.tone.specs.declared.time.Uncounted.{Uncounted}
use Rattle.tone.specs.Time.{note_most, length_of}
use Rattle.tone.proofs.Lengths.{length_most, length_with_release, length_at_none}
use Rattle.sheet.specs.Lengths.{is_counted, samples_of}
use Rattle.sheet.proofs.Basics.{false_true}

number_most : (rate : ℕ) (x : Float) (l : Result ℕ Uncounted) → length_of rate x ≡ l → samples_of l ≤ note_most
unfolding samples_of
number_most rate x (Ok n) e = length_most rate x n e
number_most rate x (Err why) e = omega arith

-- what code takes of a length where it has no number of samples: 0
pub samples_or_none : (l : Result ℕ Uncounted) → result_unwrap_or l 0 ≡ samples_of l
unfolding samples_of
samples_or_none (Ok n) = refl
samples_or_none (Err why) = refl

pub samples_most : (rate : ℕ) (x : Float) → samples_of (length_of rate x) ≤ note_most
samples_most rate x = number_most rate x (length_of rate x) refl

-- at rate 0 nothing takes a sample
none_taken : (x : Float) (l : Result ℕ Uncounted) → length_of 0 x ≡ l → samples_of l ≡ 0
unfolding samples_of
none_taken x (Ok n) e = length_at_none x n e
none_taken x (Err why) e = refl

module _ (rate : ℕ) (h : rate < 2 ^ 32) (d r : Float) (f : T (fits binary32 d)) (a : T (is_time d)) (b : T (is_time r)) where
  at_rate : (k : ℕ) → k ≡ rate → (l : Result ℕ Uncounted) → length_of rate (add binary32 d r) ≡ l → is_counted l ≡ true → samples_of (length_of rate d) ≤ samples_of l
  unfolding samples_of is_counted
  at_rate zero z l e t =
      let q : samples_of (length_of rate d) ≡ 0 = ap (λ (k : ℕ). samples_of (length_of k d)) (sym z) ∙ none_taken d (length_of 0 d) refl in
      omega arith
  at_rate (suc k) z (Ok n) e t =
      let w = length_with_release rate (omega arith) h d r n f a b e in
      subst (λ (l : Result ℕ Uncounted). samples_of l ≤ n) (sym w.1) w.2
  at_rate (suc k) z (Err why) e t = false_true t

  -- a note that is counted takes no more samples than it sounds
  pub takes_within : is_counted (length_of rate (add binary32 d r)) ≡ true → samples_of (length_of rate d) ≤ samples_of (length_of rate (add binary32 d r))
  takes_within t = at_rate rate refl (length_of rate (add binary32 d r)) refl t
