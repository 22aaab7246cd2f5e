-- Walking over a front byte by byte: what is left of it from a later place on ends where all of it ends. The loops that look for the end
-- of a run keep this, and cite how it goes on and stops. Assumes nothing.
use mathlib.Core.Path.{◌≡◌, refl, ap, ◌∙◌}
use mathlib.Core.Bool.{Bool, true, false}
use Prim.Native.Nat.{ℕ, zero, suc, ◌+◌, ◌-◌, ◌≤◌, ◌<◌, max}
use native.Mathlib.Omega.{arith}
use lib.ListN.{length, drop, get_or}
use lib.Seq.{drop-drop}
use mathlib.Core.List.{List, [], ◌∷◌}
use Rattle.text.specs.Fronts.{front}
use Rattle.text.proofs.Fronts.{cons_true, cons_false, front_end, front_stop, length_more}

-- from i on the bytes up to the place `at` passed the test p
pub record Walk (p : ℕ → Bool) (s : List ℕ) (i at : ℕ) : Type 0 where
  pub place : at + length (front p (drop at s)) ≡ i + length (front p (drop i s))

pub walk_start : (p : ℕ → Bool) (s : List ℕ) (i : ℕ) → Walk p s i i
walk_start p s i = record { place = refl }

module _ (p : ℕ → Bool) (s : List ℕ) (i at : ℕ) (w : Walk p s i at) where
  -- one more byte passes
  pub walk_more : at < length s → p (get_or s at 0) ≡ true → Walk p s i (at + 1)
  walk_more h e = record { place = omega (arith, length_more p s at h e) }

  -- the next byte fails
  pub walk_stop : at < length s → p (get_or s at 0) ≡ false → at ≡ i + length (front p (drop i s))
  walk_stop h e = omega (arith, ap length (front_stop p s at h e))

  -- there is no next byte
  pub walk_end : length s ≤ at → at ≡ i + length (front p (drop i s))
  walk_end h = omega (arith, ap length (front_end p s at h))

  -- where a walk that goes on as long as there are bytes ends: at the text's end, or where it began past that
  pub walk_past : length s ≤ at → i ≤ at → (i ≤ length s → at ≤ length s) → max i (length s) ≡ i + length (front p (drop i s))
  walk_past h o k =
      let past : length s ≤ i → length (front p (drop i s)) ≡ 0 = λ b. ap length (front_end p s i b) in
      grind (arith, w.place, ap length (front_end p s at h), past, k)

-- ---- a place inside a front

front_later : (p : ℕ → Bool) (k : ℕ) (s : List ℕ) → k ≤ length (front p s) → k + length (front p (drop k s)) ≡ length (front p s)
unfolding front
front_later p zero s h = omega arith
front_later p (suc k) [] h = absurd (omega arith)
front_later p (suc k) (b ∷ s) h = go (p b) refl (front_later p k s)
  where
    go : (x : Bool) → p b ≡ x → (k ≤ length (front p s) → k + length (front p (drop k s)) ≡ length (front p s))
        → suc k + length (front p (drop k s)) ≡ length (front p (b ∷ s))
    go true e ih = let l = ap length (cons_true p b s e) in omega (arith, ih (omega arith))
    go false e ih = absurd (omega (arith, ap length (cons_false p b s e)))

-- a place that another reader has reached, and that is not past the front
pub walk_inside : (p : ℕ → Bool) (s : List ℕ) (i at : ℕ) → i ≤ at → at ≤ i + length (front p (drop i s)) → Walk p s i at
walk_inside p s i at o h =
    let k : at - i ≤ length (front p (drop i s)) = omega arith in
    let m : i + (at - i) ≡ at = omega arith in
    let d : drop (at - i) (drop i s) ≡ drop at s = drop-drop (at - i) i s ∙ ap (λ (n : ℕ). drop n s) m in
    record { place = omega (arith, front_later p (at - i) (drop i s) k, ap (λ (l : List ℕ). length (front p l)) d) }
