-- Laws of windows: what each refusal leaves, the sample at each place, and that a window cut in two at any place is the uncut one. They go element by
-- element: below the length a sample, from there on what stood there. Assumes nothing.
use mathlib.Core.Path.{◌≡◌, refl, sym, ap, ap₂, ◌∙◌}
use mathlib.Core.Bool.{Bool, true, false}
use mathlib.Core.List.{List, [], ◌∷◌, ◌++◌}
use Prim.Native.Nat.{ℕ, zero, suc, ◌+◌, ◌-◌, ◌≤◌, ◌<◌, min}
use native.Mathlib.Nat.{add-zero, add-suc, suc-add}
use native.Mathlib.Omega.{arith}
use lib.Dec.{leb, ltb}
use lib.ListN.{length, drop, get_or, length-append, length-drop}
use lib.Ieee.{Float}
use borrow.Author.Tests.{le-leb, lt-leb, leb-true, leb-false, ltb-true, ltb-false}
use Rattle.sheet.specs.declared.sheet.Sheet.{Sheet}
use Rattle.sheet.specs.Parts.{length_of}
use Rattle.sheet.specs.Refusals.{going, refused, ◌>>◌, refuse◌on◌unless◌}
use Rattle.handed.specs.Check.{is_sheet}
use Rattle.mixing.specs.Sounding.{Placed}
use Rattle.evaluator.specs.Samples.{sample_at, value_of, samples_from}
use Rattle.mixing.specs.Placing.{placed}
use Rattle.evaluator.specs.Windows.{window_of, filled_by, window_in}
use Rattle.evaluator.proofs.Samples.{samples_length}

-- ---- what comes of a window

module _ (rate : ℕ) (s : Sheet) (start room : ℕ) where
  -- "28, 29"
  pub window_28 : is_sheet rate s ≡ false → window_of rate s start room ≡ refused 28 0
  unfolding window_of ◌>>◌ refuse◌on◌unless◌
  window_28 e = rw e

  pub window_29 : is_sheet rate s ≡ true → length_of rate s < start → window_of rate s start room ≡ refused 29 0
  unfolding window_of ◌>>◌ refuse◌on◌unless◌
  window_29 e l = rw (e, lt-leb start (length_of rate s) l)

  pub window_taken : is_sheet rate s ≡ true → start ≤ length_of rate s → window_of rate s start room ≡ going (min room (length_of rate s - start))
  unfolding window_of ◌>>◌ refuse◌on◌unless◌
  window_taken e l = rw (e, le-leb start (length_of rate s) l)

-- ---- the slice afterwards, element by element

-- the samples that exist and fit, then what stood there
abbrev pub windowed : List Placed → ℕ → ℕ → List Float → List Float
windowed ps end k xs = samples_from ps k (min (length xs) (end - k)) ++ drop (min (length xs) (end - k)) xs

module _ (ps : List Placed) (end : ℕ) where
  -- below the length a sample
  windowed_more : (k : ℕ) (x : Float) (xs : List Float) → k < end → windowed ps end k (x ∷ xs) ≡ value_of (sample_at ps k) ∷ windowed ps end (suc k) xs
  unfolding samples_from
  windowed_more k x xs l =
      ap (λ (n : ℕ). samples_from ps k n ++ drop n (x ∷ xs))
      (let z : min (suc (length xs)) (end - k) ≡ suc (min (length xs) (end - suc k)) = omega arith in z)

  -- from there on what stood there
  pub windowed_past : (k : ℕ) (xs : List Float) → end ≤ k → windowed ps end k xs ≡ xs
  unfolding samples_from
  windowed_past k xs l = ap (λ (n : ℕ). samples_from ps k n ++ drop n xs) (let z : min (length xs) (end - k) ≡ 0 = omega arith in z)

  -- the slice keeps its length
  pub windowed_length : (k : ℕ) (xs : List Float) → length (windowed ps end k xs) ≡ length xs
  windowed_length k xs =
      let n = min (length xs) (end - k) in
      length-append (samples_from ps k n) (drop n xs) ∙ omega (arith, samples_length ps k n, length-drop n xs)

  windowed_none : (k : ℕ) → windowed ps end k [] ≡ []
  unfolding samples_from
  windowed_none k = ap (λ (n : ℕ). samples_from ps k n ++ drop {A = Float} n []) (let z : min 0 (end - k) ≡ 0 = omega arith in z)

  pub windowed_cut : (k : ℕ) (xs ys : List Float) → windowed ps end k (xs ++ ys) ≡ windowed ps end k xs ++ windowed ps end (k + length xs) ys
  windowed_cut k [] ys =
      ap (λ (n : ℕ). windowed ps end n ys) (sym (add-zero k))
      ∙ ap (λ (l : List Float). l ++ windowed ps end (k + 0) ys) (sym (windowed_none k))
  windowed_cut k (x ∷ xs) ys = go (windowed_cut (suc k) xs ys) (ltb k end) refl
    where
      further : windowed ps end (suc k + length xs) ys ≡ windowed ps end (k + suc (length xs)) ys
      further = ap (λ (n : ℕ). windowed ps end n ys) (suc-add k (length xs) ∙ sym (add-suc k (length xs)))

      go : windowed ps end (suc k) (xs ++ ys) ≡ windowed ps end (suc k) xs ++ windowed ps end (suc k + length xs) ys → (b : Bool) → ltb k end ≡ b
          → windowed ps end k (x ∷ (xs ++ ys)) ≡ windowed ps end k (x ∷ xs) ++ windowed ps end (k + suc (length xs)) ys
      go rest true e =
          let l : k < end = omega (arith, ltb-true) in
          windowed_more k x (xs ++ ys) l
          ∙ ap (λ (t : List Float). value_of (sample_at ps k) ∷ t) (rest ∙ ap (λ (t : List Float). windowed ps end (suc k) xs ++ t) further)
          ∙ ap (λ (t : List Float). t ++ windowed ps end (k + suc (length xs)) ys) (sym (windowed_more k x xs l))
      go rest false e =
          let l : end ≤ k = omega (arith, ltb-false) in
          windowed_past k (x ∷ (xs ++ ys)) l
          ∙ sym (ap₂ (λ (t u : List Float). t ++ u) (windowed_past k (x ∷ xs) l) (windowed_past (k + suc (length xs)) ys (omega arith)))

  -- the sample at each place that has one, and what stood there at the others
  pub windowed_sample : (k i : ℕ) (xs : List Float) (d : Float) → i < length xs → k + i < end → get_or (windowed ps end k xs) i d ≡ value_of (sample_at ps (k + i))
  windowed_sample k i [] d l m = absurd (omega arith)
  windowed_sample k zero (x ∷ xs) d l m =
      ap (λ (t : List Float). get_or t 0 d) (windowed_more k x xs (omega arith)) ∙ ap (λ (n : ℕ). value_of (sample_at ps n)) (sym (add-zero k))
  windowed_sample k (suc i) (x ∷ xs) d l m =
      ap (λ (t : List Float). get_or t (suc i) d) (windowed_more k x xs (omega arith))
      ∙ windowed_sample (suc k) i xs d (omega arith) (omega arith)
      ∙ ap (λ (n : ℕ). value_of (sample_at ps n)) (suc-add k i ∙ sym (add-suc k i))

  pub windowed_kept : (k i : ℕ) (xs : List Float) (d : Float) → end ≤ k + i → get_or (windowed ps end k xs) i d ≡ get_or xs i d
  windowed_kept k i [] d m = ap (λ (t : List Float). get_or t i d) (windowed_none k)
  windowed_kept k zero (x ∷ xs) d m = ap (λ (t : List Float). get_or t 0 d) (windowed_past k (x ∷ xs) (omega arith))
  windowed_kept k (suc i) (x ∷ xs) d m = go (windowed_kept (suc k) i xs d (omega arith)) (ltb k end) refl
    where
      go : get_or (windowed ps end (suc k) xs) i d ≡ get_or xs i d → (b : Bool) → ltb k end ≡ b → get_or (windowed ps end k (x ∷ xs)) (suc i) d ≡ get_or xs i d
      go rest true e = ap (λ (t : List Float). get_or t (suc i) d) (windowed_more k x xs (omega (arith, ltb-true))) ∙ rest
      go rest false e = ap (λ (t : List Float). get_or t (suc i) d) (windowed_past k (x ∷ xs) (omega (arith, ltb-false)))

-- ---- a sheet's window

module _ (rate : ℕ) (s : Sheet) where
  -- a refused window is as it was
  pub window_refused : (start n l : ℕ) (xs : List Float) → window_of rate s start (length xs) ≡ refused n l → window_in rate s start xs ≡ xs
  unfolding window_in filled_by
  window_refused start n l xs e = rw e

  window_started : (start : ℕ) (xs : List Float) → is_sheet rate s ≡ true → start ≤ length_of rate s → window_in rate s start xs ≡ windowed (placed rate s) (length_of rate s) start xs
  unfolding window_in filled_by
  window_started start xs e l = rw (window_taken rate s start (length xs) e l)

  -- what a window of a sheet that passes holds, its start refused or not
  pub window_is : (start : ℕ) (xs : List Float) → is_sheet rate s ≡ true → window_in rate s start xs ≡ windowed (placed rate s) (length_of rate s) start xs
  window_is start xs e = go (leb start (length_of rate s)) refl
    where
      go : (b : Bool) → leb start (length_of rate s) ≡ b → window_in rate s start xs ≡ windowed (placed rate s) (length_of rate s) start xs
      go true t = window_started start xs e (leb-true start (length_of rate s) t)
      go false t =
          let l = leb-false start (length_of rate s) t in
          window_refused start 29 0 xs (window_29 rate s start (length xs) e l) ∙ sym (windowed_past (placed rate s) (length_of rate s) start xs (omega arith))

  -- a window cut in two at any place is the uncut one, refusals and all
  pub window_cut : (start : ℕ) (xs ys : List Float) → window_in rate s start (xs ++ ys) ≡ window_in rate s start xs ++ window_in rate s (start + length xs) ys
  window_cut start xs ys = go (is_sheet rate s) refl
    where
      go : (b : Bool) → is_sheet rate s ≡ b → window_in rate s start (xs ++ ys) ≡ window_in rate s start xs ++ window_in rate s (start + length xs) ys
      go true e =
          window_is start (xs ++ ys) e
          ∙ windowed_cut (placed rate s) (length_of rate s) start xs ys
          ∙ sym (ap₂ (λ (x y : List Float). x ++ y) (window_is start xs e) (window_is (start + length xs) ys e))
      go false e =
          window_refused start 28 0 (xs ++ ys) (window_28 rate s start (length (xs ++ ys)) e)
          ∙ sym
          (ap₂ (λ (x y : List Float). x ++ y) (window_refused start 28 0 xs (window_28 rate s start (length xs) e))
          (window_refused (start + length xs) 28 0 ys (window_28 rate s (start + length xs) (length ys) e)))
