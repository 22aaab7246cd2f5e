-- How a time is counted in samples, in laws that code cites. A ceiling is the least whole number that is at least a fraction, so three tests of
-- floats single out the times that have no number of samples, and one more says whether the cut-off fraction adds a sample. Assumes nothing.
use Rattle.std.proofs.Common.{◌≡◌, ℕ, ◌+◌, ◌-◌, ◌*◌, ◌/◌, ◌<◌, ◌≤◌, true, false, T, ℤ, pos, sym, refl, ap, ◌∙◌, true≢false, le_of_suc-le-suc, mul-le-mul_right, div-lt_iff_lt-mul, le_antisymm, lt_of_mul-lt-mul_right, mul-le-mul_left, div-mul-le_self, le_of_mul-le-mul_right, arith, le→leb, ltb-false, ltb-true, eq-eqb, ne_eqb, le-leb, Ok, Err}
use native.Mathlib.Nat.{lt-div-mul-add}
use lib.Ieee.{Float, nan, inf, fin, binary32, up, down, lt, is_nan, of_int, to_unsigned}
use lib.Ieee.Fits.{down_pos, up_pos}
use lib.Ieee.Positive.{first_pos}
use lib.Ieee.Exact.{HasValue}
use lib.Ieee.Back.{round_whole}
use borrow.Author.Tests.{lt-leb}
use Rattle.ieee.specs.Constants.{minus_one, plus_zero}
use Rattle.tone.specs.declared.time.Uncounted.TheVariants.{NotANumber, Negative, TooMany}
use Rattle.tone.specs.Time.{ceiling, count_of, note_most}

-- ---- ceilings: the least whole number that is at least n / d

-- it is such a number
pub ceiling_ge : (n d : ℕ) → 0 < d → n ≤ ceiling n d * d
unfolding ceiling
ceiling_ge n d p = omega (arith, lt-div-mul-add {a = n + (d - 1)} p)

-- and at most every other
pub ceiling_le : (n d k : ℕ) → 0 < d → n ≤ k * d → ceiling n d ≤ k
unfolding ceiling
ceiling_le n d k p h = le_of_suc-le-suc ((div-lt_iff_lt-mul p).1 (omega arith))

-- so it is above each that is too small
pub ceiling_gt : (n d k : ℕ) → 0 < d → k * d < n → k < ceiling n d
ceiling_gt n d k p h = lt_of_mul-lt-mul_right d (omega (arith, ceiling_ge n d p))

-- and grows with the fraction
pub ceiling_grows : (n d n' d' : ℕ) → 0 < d → 0 < d' → n * d' ≤ n' * d → ceiling n d ≤ ceiling n' d'
ceiling_grows n d n' d' p p' h = ceiling_le n d (ceiling n' d') p (le_of_mul-le-mul_right (omega (arith, mul-le-mul_right d (ceiling_ge n' d' p'))) p')

-- where the division leaves nothing it is the quotient
ceiling_even : (n d : ℕ) → 0 < d → n ≤ n / d * d → ceiling n d ≡ n / d
ceiling_even n d p h =
    le_antisymm (ceiling_le n d (n / d) p h) (le_of_mul-le-mul_right (omega (arith, div-mul-le_self n d, ceiling_ge n d p)) p)

-- and else one more
ceiling_more : (n d : ℕ) → 0 < d → n / d * d < n → ceiling n d ≡ n / d + 1
ceiling_more n d p h = le_antisymm (ceiling_le n d (n / d + 1) p (omega (arith, lt-div-mul-add {a = n} p))) (omega (arith, ceiling_gt n d (n / d) p h))

-- ---- the tests for times that have no number of samples

-- a NaN
pub counted_nan : (x : Float) → is_nan x ≡ true → Err NotANumber ≡ count_of x
unfolding count_of is_nan
counted_nan nan t = refl
counted_nan (inf s) t = cc
counted_nan (fin s m e) t = cc

-- `x < 0.0` of what is below zero, and not of -0.0
pub counted_negative : (x : Float) → lt x plus_zero ≡ true → Err Negative ≡ count_of x
unfolding count_of lt
counted_negative nan t = cc
counted_negative (inf true) t = refl
counted_negative (inf false) t = cc
counted_negative (fin true m e) t =
    let h : 0 < m = first_pos m (up e) (omega (arith, ltb-true)) in
    rw (ne_eqb m 0 (λ z. omega arith), count_of)
counted_negative (fin false m e) t = absurd (omega (arith, ltb-true))

-- `x > 16777216.0` of what has more samples than one note may have
pub counted_many : (x : Float) → lt (fin false 1 (pos 24)) x ≡ true → Err TooMany ≡ count_of x
unfolding count_of lt
counted_many nan t = cc
counted_many (inf true) t = cc
counted_many (inf false) t = refl
counted_many (fin true m e) t = cc
counted_many (fin false m e) t = rw (lt-leb _ _ (ceiling_gt (m * up e) (down e) note_most (down_pos e) (omega (arith, ltb-true))), count_of)

-- ---- the others: from zero, -0.0 too, up to the limit

-- what is left of a float where none of the three tests passes
abbrev pub Within : Float → Type 0
Within nan = ⊥
Within (inf s) = ⊥
Within (fin true m e) = m ≡ 0
Within (fin false m e) = m * up e ≤ note_most * down e

-- the three tests fail
pub within_by_tests : (x : Float) → is_nan x ≡ false → lt x plus_zero ≡ false → lt (fin false 1 (pos 24)) x ≡ false → Within x
unfolding lt is_nan
within_by_tests nan u s t = cc
within_by_tests (inf true) u s t = absurd (true≢false s)
within_by_tests (inf false) u s t = absurd (true≢false t)
within_by_tests (fin true m e) u s t = omega (arith, ltb-false, mul-le-mul_left m (up_pos e))
within_by_tests (fin false m e) u s t = omega (arith, ltb-false)

-- they are in the range of the cast that cuts off a fraction
pub in_range_law : (x : Float) → Within x → T (lt minus_one x) × T (lt x (fin false 1 (pos 64)))
unfolding lt
in_range_law nan h = absurd h
in_range_law (inf s) h = absurd h
in_range_law (fin true m e) h = omega (arith, le→leb, down_pos e, ap (λ (z : ℕ). z * up e) h)
in_range_law (fin false m e) h = omega (arith, le→leb, down_pos e)

quotient : (m : ℕ) (e : ℤ) → m * up e ≤ note_most * down e → m * up e / down e ≤ note_most
quotient m e h = le_of_suc-le-suc ((div-lt_iff_lt-mul (down_pos e)).1 (omega (arith, down_pos e)))

cut : (m : ℕ) (e : ℤ) → m * up e ≤ note_most * down e → to_unsigned 64 (fin false m e) ≡ m * up e / down e
unfolding to_unsigned
cut m e h = omega (arith, quotient m e h)

-- which gives a whole number within the limit
pub cut_small : (x : Float) → Within x → to_unsigned 64 x ≤ note_most
unfolding to_unsigned
cut_small nan h = absurd h
cut_small (inf s) h = absurd h
cut_small (fin true m e) h = omega arith
cut_small (fin false m e) h = omega (arith, quotient m e h)

-- that an f32 holds: up to there it counts without a gap
pub whole_value : (n : ℕ) → n ≤ note_most → HasValue (of_int binary32 (pos n)) false n 1
unfolding of_int
whole_value n h = round_whole binary32 false n h

cast : (x : Float) → Within x → HasValue (of_int binary32 (pos (to_unsigned 64 x))) false (to_unsigned 64 x) 1
cast x h = whole_value (to_unsigned 64 x) (cut_small x h)

-- a float x that is the whole number w, against another
module _ (w m : ℕ) (e : ℤ) where
  whole_lt : (x : Float) → HasValue x false w 1 → lt x (fin false m e) ≡ true → w * down e < m * up e
  unfolding lt
  whole_lt nan v t = absurd v
  whole_lt (inf s) v t = absurd v
  whole_lt (fin true n d) v t = absurd (true≢false v.0)
  whole_lt (fin false n d) v t = lt_of_mul-lt-mul_right (down d) (omega (arith, ap (λ (z : ℕ). z * down e) v.1, ltb-true))

  whole_ge : (x : Float) → HasValue x false w 1 → lt x (fin false m e) ≡ false → m * up e ≤ w * down e
  unfolding lt
  whole_ge nan v t = absurd v
  whole_ge (inf s) v t = absurd v
  whole_ge (fin true n d) v t = absurd (true≢false v.0)
  whole_ge (fin false n d) v t = le_of_mul-le-mul_right (omega (arith, ap (λ (z : ℕ). z * down e) v.1, ltb-false)) (down_pos d)

  whole_signed : (x : Float) → HasValue x false w 1 → lt x (fin true m e) ≡ false
  unfolding lt
  whole_signed nan v = absurd v
  whole_signed (inf s) v = absurd v
  whole_signed (fin true n d) v = absurd (true≢false v.0)
  whole_signed (fin false n d) v = refl

-- a ceiling within the limit is the number of samples
pub counted : (m : ℕ) (e : ℤ) → ceiling (m * up e) (down e) ≤ note_most → count_of (fin false m e) ≡ Ok (ceiling (m * up e) (down e))
unfolding count_of
counted m e h = rw (le-leb _ _ h, count_of)

below : (m : ℕ) (e : ℤ) → m * up e ≤ note_most * down e → count_of (fin false m e) ≡ Ok (ceiling (m * up e) (down e))
below m e h = counted m e (ceiling_le (m * up e) (down e) note_most (down_pos e) h)

-- what is cut off makes one sample more
pub counted_more : (x : Float) → Within x → lt (of_int binary32 (pos (to_unsigned 64 x))) x ≡ true → Ok (to_unsigned 64 x + 1) ≡ count_of x
counted_more nan h t = absurd h
counted_more (inf s) h t = absurd h
counted_more (fin true m e) h t = absurd (true≢false (sym t ∙ whole_signed _ m e _ (cast (fin true m e) h)))
counted_more (fin false m e) h t =
    let l = whole_lt _ m e _ (cast (fin false m e) h) t in
    rw (cut m e h, below m e h, ceiling_more (m * up e) (down e) (down_pos e) (rw (cut m e h) at l))

-- and where nothing is cut off, the number is whole
pub counted_even : (x : Float) → Within x → lt (of_int binary32 (pos (to_unsigned 64 x))) x ≡ false → Ok (to_unsigned 64 x) ≡ count_of x
unfolding to_unsigned count_of
counted_even nan h t = absurd h
counted_even (inf s) h t = absurd h
counted_even (fin true m e) h t = rw (eq-eqb m 0 h, count_of)
counted_even (fin false m e) h t =
    let l = whole_ge _ m e _ (cast (fin false m e) h) t in
    rw (cut m e h, below m e h, ceiling_even (m * up e) (down e) (down_pos e) (rw (cut m e h) at l))
