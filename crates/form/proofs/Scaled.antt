-- A sample that is clamped to -1..1 and multiplied by 32767.5 lies from -32767.5 to 32767.5, or is NaN: rounding keeps the order, and both ends are
-- floats. So its nearest whole number needs 16 bits. Assumes nothing.
use mathlib.Core.Path.{◌≡◌, refl, sym, subst, ◌∙◌}
use mathlib.Core.Bool.{Bool, true, false, cond, true≢false}
use Rattle.std.specs.Float.{float_clamp}
use Prim.Native.Nat.{ℕ, zero, suc, ◌-◌, ◌*◌, ◌%◌, ◌≤◌, ◌<◌, min}
use native.Mathlib.Nat.{mul-pos, le_of_suc-le-suc, div-lt_iff_lt-mul, div-eq_of_lt}
use native.Mathlib.Omega.{arith}
use lib.Dec.{T, ltb, eqb, ltb→lt, eqb→eq}
use lib.IntN.{pos, neg_ℤ}
use lib.Ieee.{Float, nan, inf, fin, binary32, up, down, unlike, mul, neg, lt, le, is_nan, round}
use lib.Ieee.Fits.{down_pos, and_l}
use lib.Ieee.Order.{round_mono}
use borrow.Author.Tests.{ltb-true, ltb-false}
use Rattle.ieee.specs.Constants.{minus_one, one, plus_zero, sample_scale}
use Rattle.ieee.proofs.Nonnegative.{less_or_equal}
use Rattle.ieee.proofs.Sign.{round_neg}
use Rattle.form.specs.Sample.{clamp, half_up, nearest_whole, stored_of, AtMostScale, whole16, word}

-- ---- clamped

-- from -1 to 1, or NaN
abbrev pub AtMostOne : Float → Type 0
AtMostOne nan = Unit {0}
AtMostOne (inf s) = ⊥
AtMostOne (fin s m e) = m * up e ≤ down e

two_tests : (a b : Bool) (l h x : Float) → cond a l (cond b h x) ≡ elim a as (λ c. Float) [ true ↦ l | false ↦ elim b as (λ c. Float) [ true ↦ h | false ↦ x ] ]
two_tests true b l h x = refl
two_tests false true l h x = refl
two_tests false false l h x = refl

-- the definition is the library's clamp
pub clamp_is : (x : Float) → float_clamp x minus_one one ≡ clamp x
unfolding clamp
clamp_is x = two_tests (lt x minus_one) (lt one x) minus_one one x

-- and has three cases
pub clamp_below : (x : Float) → lt x minus_one ≡ true → clamp x ≡ minus_one
unfolding clamp
clamp_below x t = rw (t, clamp)

pub clamp_above : (x : Float) → lt x minus_one ≡ false → lt one x ≡ true → clamp x ≡ one
unfolding clamp
clamp_above x t u = rw (t, u, clamp)

pub clamp_between : (x : Float) → lt x minus_one ≡ false → lt one x ≡ false → clamp x ≡ x
unfolding clamp
clamp_between x t u = rw (t, u, clamp)

-- what neither test finds past the ends lies between them
between : (x : Float) → lt x minus_one ≡ false → lt one x ≡ false → AtMostOne x
unfolding lt
between nan t u = tt
between (inf true) t u = absurd (true≢false t)
between (inf false) t u = absurd (true≢false u)
between (fin true m e) t u = omega (arith, ltb-false)
between (fin false m e) t u = omega (arith, ltb-false)

-- so every sample does once it is clamped
pub clamp_small : (x : Float) → AtMostOne (clamp x)
clamp_small x = go (lt x minus_one) refl (lt one x) refl
  where
    go : (a : Bool) → lt x minus_one ≡ a → (b : Bool) → lt one x ≡ b → AtMostOne (clamp x)
    go true t b u = rw (clamp_below x t) (omega arith)
    go false t true u = rw (clamp_above x t u) (omega arith)
    go false t false u = rw (clamp_between x t u) (between x t u)

-- ---- rounded: what is at most 65535 / 2 stays so

-- a sign changes no size
neg_at_most : (x : Float) → AtMostScale x → AtMostScale (neg x)
unfolding neg
neg_at_most nan h = h
neg_at_most (inf s) h = h
neg_at_most (fin s m e) h = h

-- a float from 0 to 32767.5 is in the range
at_most : (x : Float) → T (le plus_zero x) → T (le x sample_scale) → AtMostScale x
unfolding le
at_most nan a b = a
at_most (inf true) a b = a
at_most (inf false) a b = b
at_most (fin true m e) a b = omega (arith, eqb→eq (0 * down e) (m * up e * 1) (and_l (eqb (0 * down e) (m * up e * 1)) (eqb (0 * down e) 0) a))
at_most (fin false m e) a b =
    let n = m * up e * 2 in
    let d = 65535 * down e in
    omega (arith, less_or_equal n d (ltb n d) (eqb n d) (ltb→lt n d) (eqb→eq n d) b)

-- a fraction at most 65535 / 2 rounds to such a float, since 65535 / 2 is one
module _ (n d : ℕ) (p : 0 < d) (h : 2 * n ≤ 65535 * d) where
  plain_at_most : AtMostScale (round binary32 false n d)
  unfolding round
  plain_at_most =
      at_most (round binary32 false n d) (round_mono binary32 0 1 n d (omega arith) p (omega arith)) (round_mono binary32 n d 65535 2 p (omega arith) (omega arith))

  round_at_most : (s : Bool) → AtMostScale (round binary32 s n d)
  round_at_most true = subst AtMostScale (sym (round_neg binary32 false n d)) (neg_at_most (round binary32 false n d) plain_at_most)
  round_at_most false = plain_at_most

-- ---- the product

-- it is in the range unless it is NaN
pub product : (c : Float) → AtMostOne c → is_nan (mul binary32 c sample_scale) ≡ false → AtMostScale (mul binary32 c sample_scale)
unfolding mul is_nan
product nan h t = absurd (true≢false t)
product (inf s) h t = absurd h
product (fin s m e) h t = round_at_most (m * up e * 65535) (down e * 2) (mul-pos (down_pos e) (omega arith)) (omega arith) (unlike s false)

-- and its nearest whole number is at most 32768
nearest_small : (n d : ℕ) → 0 < d → 2 * n ≤ 65535 * d → half_up n d ≤ 32768
unfolding half_up
nearest_small n d p h = le_of_suc-le-suc ((div-lt_iff_lt-mul {k = 2 * d} (omega arith)).1 (omega arith))

pub whole_small : (p : Float) → AtMostScale p → nearest_whole p ≤ 32768
unfolding nearest_whole
whole_small nan h = absurd h
whole_small (inf s) h = absurd h
whole_small (fin s m e) h = nearest_small (m * up e) (down e) (down_pos e) h

-- ---- the stored number, by the three tests of the code

-- a NaN
pub stored_nan : (p : Float) → is_nan p ≡ true → 0 ≡ word (whole16 p)
unfolding word whole16 is_nan
stored_nan nan t = refl
stored_nan (inf s) t = cc
stored_nan (fin s m e) t = cc

-- below zero, counted down from 2 ^ 16
word_below : (n : ℕ) → n ≤ 32768 → (65536 - n) % 65536 ≡ word (neg_ℤ (pos (min n 32768)))
unfolding word
word_below zero h = refl
word_below (suc n) h =
    let e : min (suc n) 32768 ≡ suc n = omega arith in
    rw e (omega arith)

pub stored_below : (p : Float) → AtMostScale p → lt p plus_zero ≡ true → (65536 - nearest_whole p) % 65536 ≡ word (whole16 p)
unfolding lt whole16 nearest_whole
stored_below nan h t = absurd h
stored_below (inf s) h t = absurd h
stored_below (fin true m e) h t = word_below (half_up (m * up e) (down e)) (nearest_small (m * up e) (down e) (down_pos e) h)
stored_below (fin false m e) h t = absurd (omega (arith, ltb-true))

-- zero and above, at most 32767
pub stored_above : (p : Float) → AtMostScale p → lt p plus_zero ≡ false → min (nearest_whole p) 32767 ≡ word (whole16 p)
unfolding lt whole16 nearest_whole word half_up
stored_above nan h t = absurd h
stored_above (inf s) h t = absurd h
stored_above (fin true m e) h t =
    let z : half_up (m * up e) (down e) ≡ 0 = div-eq_of_lt (omega (arith, ltb-false, down_pos e)) in
    rw z
stored_above (fin false m e) h t = refl

-- ---- what `stored` answers

pub stored_of_below : (n : ℕ) (p : Float) → lt p plus_zero ≡ true → stored_of n p ≡ 65536 - n
unfolding stored_of
stored_of_below n p t = rw (t, stored_of)

pub stored_of_above : (n : ℕ) (p : Float) → lt p plus_zero ≡ false → stored_of n p ≡ min n 32767
unfolding stored_of
stored_of_above n p t = rw (t, stored_of)

-- but for 2^16 it is the word
pub stored_word : (p : Float) → AtMostScale p → stored_of (nearest_whole p) p % 65536 ≡ word (whole16 p)
stored_word p a = go (lt p plus_zero) refl
  where
    go : (b : Bool) → lt p plus_zero ≡ b → stored_of (nearest_whole p) p % 65536 ≡ word (whole16 p)
    go true t = rw (stored_of_below (nearest_whole p) p t) (stored_below p a t)
    go false t =
        let r = stored_of_above (nearest_whole p) p t in
        let k : stored_of (nearest_whole p) p % 65536 ≡ min (nearest_whole p) 32767 = omega (arith, r) in
        k ∙ stored_above p a t
