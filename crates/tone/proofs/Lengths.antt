-- Laws of lengths that callers rely on. A number of samples is within the limit; a time, -0.0 too, has one or is too long; a shorter time
-- has no more samples than a longer one, so a note that is not too long with its release is not too long without. Assumes nothing.
use Rattle.std.proofs.Common.{◌≡◌, ℕ, zero, suc, ◌*◌, ◌^◌, ◌<◌, ◌≤◌, Bool, true, false, T, eqb, leb, ◌⊎◌, ℤ, pos, sym, refl, ap, ◌∙◌, inl, inr, mul-pos, arith, ltb→lt, leb-true, Result, Ok, Err}
use lib.Ieee.{Float, nan, inf, fin, binary32, up, down, unlike, le, add, mul, round, of_int, fits}
use lib.Ieee.Fits.{down_pos}
use lib.Ieee.Order.{round_mono}
use lib.Ieee.Positive.{positive, between}
use Rattle.tone.specs.declared.time.Uncounted.{Uncounted}
use Rattle.tone.specs.declared.time.Uncounted.TheVariants.{Negative, TooMany}
use Rattle.tone.specs.Time.{ceiling, count_of, length_of, note_most}
use Rattle.tone.proofs.Counts.{ceiling_le, ceiling_grows, counted}
use Rattle.ieee.proofs.Nonnegative.{nonnegative, le_fractions, times_nonnegative, times_grows, add_nonnegative, add_grows}
use Rattle.ieee.specs.Times.{is_time}
use Rattle.ieee.proofs.Times.{round_zero, cleared, cleared_nonnegative, cleared_fits, times_cleared, add_cleared, times_time, add_time, le_cleared}

-- ---- what a number of samples says

within_limit : (k n : ℕ) (b : Bool) → leb k note_most ≡ b → (elim b as (λ x. Result ℕ Uncounted) [ true ↦ Ok k | false ↦ Err TooMany ]) ≡ Ok n → (k ≡ n) × (n ≤ note_most)
within_limit k n true t q = let z : k ≡ n = cc in (z, omega (arith, leb-true))
within_limit k n false t q = cc

-- it is the ceiling, and within the limit
samples_is : (m n : ℕ) (e : ℤ) → count_of (fin false m e) ≡ Ok n → (ceiling (m * up e) (down e) ≡ n) × (n ≤ note_most)
unfolding count_of
samples_is m n e h = within_limit (ceiling (m * up e) (down e)) n (leb (ceiling (m * up e) (down e)) note_most) refl h

only_zero : (n : ℕ) (b : Bool) → (elim b as (λ x. Result ℕ Uncounted) [ true ↦ Ok 0 | false ↦ Err Negative ]) ≡ Ok n → n ≤ note_most
only_zero n true q = let z : 0 ≡ n = cc in omega arith
only_zero n false q = cc

count_most : (x : Float) (n : ℕ) → count_of x ≡ Ok n → n ≤ note_most
unfolding count_of
count_most nan n h = cc
count_most (inf true) n h = cc
count_most (inf false) n h = cc
count_most (fin true m e) n h = only_zero n (eqb m 0) h
count_most (fin false m e) n h = (samples_is m n e h).1

-- no length is over the limit
pub length_most : (rate : ℕ) (x : Float) (n : ℕ) → length_of rate x ≡ Ok n → n ≤ note_most
unfolding length_of
length_most rate x n h = count_most (mul binary32 x (of_int binary32 (pos rate))) n h

-- ---- times: neither a NaN nor below zero, -0.0 with them

one_of : (k : ℕ) (b : Bool) (l : Result ℕ Uncounted) → l ≡ (elim b as (λ x. Result ℕ Uncounted) [ true ↦ Ok k | false ↦ Err TooMany ]) → (l ≡ Err TooMany) ⊎ ((n : ℕ) × (l ≡ Ok n))
one_of k true l h = inr (k, h)
one_of k false l h = inl h

count_answers : (x : Float) → T (nonnegative x) → (count_of x ≡ Err TooMany) ⊎ ((n : ℕ) × (count_of x ≡ Ok n))
unfolding count_of
count_answers nan h = absurd h
count_answers (inf true) h = absurd h
count_answers (inf false) h = inl refl
count_answers (fin true m e) h = absurd h
count_answers (fin false m e) h = one_of (ceiling (m * up e) (down e)) (leb (ceiling (m * up e) (down e)) note_most) _ refl

never_ends : (b : ℕ) → count_of (inf false) ≡ Ok b → ⊥
unfolding count_of
never_ends b s = cc

count_grows : (x y : Float) (b : ℕ) → T (nonnegative x) → T (nonnegative y) → T (le x y) → count_of y ≡ Ok b → (a : ℕ) × (count_of x ≡ Ok a) × (a ≤ b)
count_grows x nan b h i l s = absurd i
count_grows x (inf true) b h i l s = absurd i
count_grows x (inf false) b h i l s = absurd (never_ends b s)
count_grows x (fin true n d) b h i l s = absurd i
count_grows nan (fin false n d) b h i l s = absurd h
count_grows (inf true) (fin false n d) b h i l s = absurd h
count_grows (inf false) (fin false n d) b h i l s = absurd (unfold le in l)
count_grows (fin true m e) (fin false n d) b h i l s = absurd h
count_grows (fin false m e) (fin false n d) b h i l s =
    let g = ceiling_grows (m * up e) (down e) (n * up d) (down d) (down_pos e) (down_pos d) (le_fractions m n e d l) in
    let k = samples_is n b d s in
    (ceiling (m * up e) (down e), counted m e (omega arith), omega arith)

no_samples : (e : ℤ) → count_of (fin false 0 e) ≡ Ok 0
no_samples e =
    let z : ceiling (0 * up e) (down e) ≤ 0 = ceiling_le (0 * up e) (down e) 0 (down_pos e) (omega arith) in
    counted 0 e (omega arith) ∙ ap Ok (let q : ceiling (0 * up e) (down e) ≡ 0 = omega arith in q)

count_cleared : (x : Float) → T (is_time x) → count_of x ≡ count_of (cleared x)
unfolding count_of
count_cleared nan h = refl
count_cleared (inf true) h = absurd h
count_cleared (inf false) h = refl
count_cleared (fin true zero e) h = sym (no_samples e)
count_cleared (fin true (suc m) e) h = absurd h
count_cleared (fin false m e) h = refl

form : (r : Float) → T (positive r) → (p : ℕ) × (g : ℤ) × (0 < p) × (r ≡ fin false p g)
form nan h = absurd h
form (inf s) h = absurd h
form (fin true p g) h = absurd h
form (fin false p g) h = (p, g, ltb→lt 0 p h, refl)

-- a rate above zero is a finite number above zero
rate_positive : (rate : ℕ) → 0 < rate → rate < 2 ^ 32 → T (positive (of_int binary32 (pos rate)))
unfolding of_int
rate_positive rate r r' =
    between (round binary32 false 1 1) (round binary32 false rate 1) (round binary32 false (2 ^ 32) 1) tt tt
    (round_mono binary32 1 1 rate 1 (omega arith) (omega arith) (omega arith)) (round_mono binary32 rate 1 (2 ^ 32) 1 (omega arith) (omega arith) (omega arith))

-- at any rate above zero
module _ (rate : ℕ) (r : 0 < rate) (r' : rate < 2 ^ 32) where
  rate_is : (p : ℕ) × (g : ℤ) × (0 < p) × (of_int binary32 (pos rate) ≡ fin false p g)
  rate_is = form (of_int binary32 (pos rate)) (rate_positive rate r r')

  product_nonnegative : (x : Float) → T (nonnegative x) → T (nonnegative (mul binary32 x (of_int binary32 (pos rate))))
  product_nonnegative x h = rw rate_is.3 (times_nonnegative binary32 _ _ rate_is.2 x h)

  -- the sign of a zero makes no difference
  length_cleared : (x : Float) → T (is_time x) → length_of rate x ≡ length_of rate (cleared x)
  unfolding length_of
  length_cleared x h =
      let p = rate_is.0 in
      let g = rate_is.1 in
      rw rate_is.3 (count_cleared (mul binary32 x (fin false p g)) (times_time p g rate_is.2 x h) ∙ ap count_of (times_cleared p g x h))

  -- a time has a number of samples, or is too long
  pub length_answers : (x : Float) → T (is_time x) → (length_of rate x ≡ Err TooMany) ⊎ ((n : ℕ) × (length_of rate x ≡ Ok n))
  unfolding length_of
  length_answers x h = rw (length_cleared x h) (count_answers (mul binary32 (cleared x) (of_int binary32 (pos rate))) (product_nonnegative (cleared x) (cleared_nonnegative x h)))

  grows : (x y : Float) (n : ℕ) → T (nonnegative x) → T (nonnegative y) → T (le x y) → length_of rate y ≡ Ok n → (m : ℕ) × (length_of rate x ≡ Ok m) × (m ≤ n)
  unfolding length_of
  grows x y n h i l s =
      count_grows (mul binary32 x (of_int binary32 (pos rate))) (mul binary32 y (of_int binary32 (pos rate))) n (product_nonnegative x h) (product_nonnegative y i)
      (rw rate_is.3 (times_grows binary32 _ _ rate_is.2 x y h i l)) s

  -- of two times the shorter has no more samples
  pub length_grows : (x y : Float) (n : ℕ) → T (is_time x) → T (is_time y) → T (le x y) → length_of rate y ≡ Ok n
      → (m : ℕ) × (length_of rate x ≡ Ok m) × (m ≤ n)
  length_grows x y n h i l s =
      let g = grows (cleared x) (cleared y) n (cleared_nonnegative x h) (cleared_nonnegative y i) (le_cleared x y h i l) (sym (length_cleared y i) ∙ s) in
      (g.0, length_cleared x h ∙ g.1, g.2)

  -- so a note has no more samples without its release than with it
  pub length_with_release : (duration release : Float) (n : ℕ) → T (fits binary32 duration) → T (is_time duration) → T (is_time release)
      → length_of rate (add binary32 duration release) ≡ Ok n → (m : ℕ) × (length_of rate duration ≡ Ok m) × (m ≤ n)
  length_with_release duration release n t h i s =
      let d = cleared duration in
      let r = cleared release in
      let k = cleared_nonnegative duration h in
      let l = cleared_nonnegative release i in
      let e = length_cleared (add binary32 duration release) (add_time duration release h i) ∙ ap (length_of rate) (add_cleared duration release h i) in
      let g = grows d (add binary32 d r) n k (add_nonnegative binary32 d r k l) (add_grows binary32 d r (cleared_fits duration t) k l) (sym e ∙ s) in
      (g.0, length_cleared duration h ∙ g.1, g.2)

-- ---- at rate 0

zero_count : (s : Bool) → count_of (round binary32 s 0 1) ≡ Ok 0
unfolding count_of round
zero_count true = refl
zero_count false = refl

not_counted : (n : ℕ) → count_of nan ≡ Ok n → n ≡ 0
unfolding count_of
not_counted n h = cc

no_product : (x : Float) (e : ℤ) (n : ℕ) → count_of (mul binary32 x (fin false 0 e)) ≡ Ok n → n ≡ 0
unfolding mul
no_product nan e n h = not_counted n h
no_product (inf s) e n h = not_counted n h
no_product (fin s m d) e n h =
    let q = ap count_of (round_zero binary32 (unlike s false) (m * up d * (0 * up e)) (down d * down e) (omega arith) (mul-pos (down_pos d) (down_pos e))) ∙ zero_count (unlike s false) in
    let z : Ok 0 ≡ Ok n = sym q ∙ h in
    cc

-- no time has a sample
pub length_at_none : (x : Float) (n : ℕ) → length_of 0 x ≡ Ok n → n ≡ 0
unfolding length_of of_int
length_at_none x n h = no_product x _ n h
