-- Half away from zero by doubling: twice a float is exact while it does not overflow, and half of the whole part of the double, rounded up,
-- is the nearest whole number. So code cuts off one fraction and halves. Assumes nothing.
use mathlib.Core.Path.{◌≡◌, refl, sym, ap, ◌∙◌, subst}
use mathlib.Core.Bool.{Bool, true, false, true≢false, ◌&&◌}
use Prim.Native.Nat.{ℕ, zero, suc, ◌+◌, ◌*◌, ◌/◌, ◌%◌, ◌^◌, ◌≤◌, ◌<◌}
use native.Mathlib.Nat.{pow-suc, mul-pos, lt_of_le_of_lt, lt_of_mul-lt-mul_right, mul-lt-mul_of_pos_right, div-lt_iff_lt-mul, div-eq_of_lt, le_of_mul-le-mul_right, div-div-eq-div-mul, add-div_right, mul-div-le, lt-mul-div-succ}
use native.Mathlib.Omega.{arith}
use lib.Dec.{T, leb, ltb, eqb, leb→le, ltb→lt, lit<}
use lib.Pow.{pow-add, pow_pos}
use lib.IntN.{ℤ, pos}
use lib.Ieee.{Float, nan, inf, fin, Format, binary32, prec, emax, low, up, down, add, neg, lt, eq, le, round, to_unsigned, fits}
use lib.Ieee.Fits.{down_pos, neg-fits, and_l, and_r}
use lib.Ieee.Exact.{HasValue, round_exact}
use lib.Ieee.Order.{le_of_values}
use lib.Ieee.Scale.{round_same}
use lib.Ieee.Nearest.{div_same}
use borrow.Author.Tests.{ltb-true, ltb-false, lt-ltb, eq-eqb}
use Rattle.ieee.specs.Constants.{plus_zero}
use Rattle.ieee.proofs.Nonnegative.{in_units}
use Rattle.form.specs.Sample.{half_up, nearest_whole, AtMostScale}

-- ---- what `half_up` is: the h with h - 1/2 ≤ n / d < h + 1/2, the whole number nearest to n / d, and the larger of two that are as near
pub half_up_nearest : (n d : ℕ) → 0 < d → (2 * d * half_up n d ≤ 2 * n + d) × (2 * n + d < 2 * d * half_up n d + 2 * d)
unfolding half_up
half_up_nearest n d p =
    let q : 0 < 2 * d = omega arith in
    (mul-div-le (2 * n + d) (2 * d), omega (arith, lt-mul-div-succ (2 * n + d) q))

-- ---- half of the whole part of twice n / d, rounded up, is the whole number nearest to n / d

-- cut off the fraction of the double, add one and halve
pub half_of_double : (n d : ℕ) → 0 < d → (2 * n / d + 1) / 2 ≡ half_up n d
unfolding half_up
half_of_double n d p =
    ap (λ (k : ℕ). k / 2) (sym (add-div_right (2 * n) p))
    ∙ div-div-eq-div-mul (2 * n + d) d 2
    ∙ ap (λ (k : ℕ). (2 * n + d) / k) (omega arith)

-- ---- twice a float of the format f is exact

-- twice a number in units is in units too
twice_units : (m u d l p q : ℕ) → p * d ≡ u * l → q ≡ p * 2 → 2 * (m * u) * l ≡ m * q * d
twice_units m u d l p q h g = omega (arith, ap (λ (z : ℕ). m * z) h, ap (λ (z : ℕ). m * z * d) g)

module _ (f : Format) (s : Bool) (e : ℤ) where
  -- a number of few enough digits, doubled, within the format
  exact : (m : ℕ) → m < 2 ^ prec f → down e ≤ 2 ^ low f → 2 * (m * up e) < 2 ^ suc (emax f) * down e
      → HasValue (round f s (2 * (m * up e)) (down e)) s (2 * (m * up e)) (down e)
  exact m a b c =
      let u = in_units (low f) e b in
      let v : 2 * (m * up e) * 2 ^ low f ≡ m * 2 ^ suc u.0 * down e = twice_units m (up e) (down e) (2 ^ low f) (2 ^ u.0) (2 ^ suc u.0) u.1 (pow-suc 2 u.0) in
      round_exact f s (2 * (m * up e)) (down e) m (suc u.0) (down_pos e) a
      (lt_of_mul-lt-mul_right (down e)
      (omega (arith, mul-lt-mul_of_pos_right c (pow_pos (low f)), ap (λ (z : ℕ). z * down e) (pow-add 2 (low f) (suc (emax f)))))) v

  -- which a float of the format has
  double : (m : ℕ) → T (fits f (fin s m e)) → 2 * (m * up e) < 2 ^ suc (emax f) * down e
      → HasValue (round f s (2 * (m * up e)) (down e)) s (2 * (m * up e)) (down e)
  unfolding fits
  double zero t c = round_exact f s (2 * (0 * up e)) (down e) 0 0 (down_pos e) (pow_pos (prec f)) (pow_pos (low f + suc (emax f))) (omega arith)
  double (suc m) t c =
      let p = eqb (suc m % 2) 1 in
      let a = ltb (suc m) (2 ^ prec f) in
      let b = leb (down e) (2 ^ low f) in
      let t' = and_l (p && a && b) (ltb (suc m * up e) (2 ^ suc (emax f) * down e)) t in
      exact (suc m) (ltb→lt (suc m) (2 ^ prec f) (and_r p a (and_l (p && a) b t'))) (leb→le (down e) (2 ^ low f) (and_r (p && a) b t')) c

-- the sum of a float with itself, as a fraction
twice : (f : Format) (s : Bool) (n d : ℕ) → 0 < d → round f s (n * d + n * d) (d * d) ≡ round f s (2 * n) d
twice f s n d p = round_same f s (n * d + n * d) (d * d) (2 * n) d (mul-pos p p) p (omega arith)

same_sum : (f : Format) (s : Bool) (m : ℕ) (e : ℤ) → add f (fin s m e) (fin s m e) ≡ round f s (2 * (m * up e)) (down e)
unfolding add
same_sum f true m e = twice f true (m * up e) (down e) (down_pos e)
same_sum f false m e = twice f false (m * up e) (down e) (down_pos e)

-- so a float of the format that is added to itself is doubled, unless it overflows
pub double_exact : (f : Format) (s : Bool) (m : ℕ) (e : ℤ) → T (fits f (fin s m e)) → 2 * (m * up e) < 2 ^ suc (emax f) * down e
    → HasValue (add f (fin s m e) (fin s m e)) s (2 * (m * up e)) (down e)
double_exact f s m e t c = rw (same_sum f s m e) (double f s e m t c)

-- ---- the whole part of a float that is n / d, below 2 ^ 64

module _ (n d : ℕ) (p : 0 < d) (h : n < 2 ^ 64 * d) where
  -- the cast to a u64 gives the quotient
  pub cut_value : (y : Float) → HasValue y false n d → to_unsigned 64 y ≡ n / d
  unfolding to_unsigned
  cut_value nan v = absurd v
  cut_value (inf s) v = absurd v
  cut_value (fin true m e) v = absurd (true≢false v.0)
  cut_value (fin false m e) v = omega (arith, div_same (m * up e) (down e) n d (down_pos e) p v.1, (div-lt_iff_lt-mul p).1 h)

-- ---- what code knows of the double of a, the size of p

-- it is from 0 to 65535, and half of its whole part, rounded up, is the whole number nearest to p
pub record Halved (p a : Float) : Type 0 where
  pub above : T (le plus_zero (add binary32 a a))
  pub under : T (le (add binary32 a a) (fin false 65535 (pos 0)))
  pub small : to_unsigned 64 (add binary32 a a) ≤ 65535
  pub half : (to_unsigned 64 (add binary32 a a) + 1) / 2 ≡ nearest_whole p

-- what is at most 65535 d is below w d for each larger w
pub under_limit : (a d w : ℕ) → 0 < d → 65535 < w → a ≤ 65535 * d → a < w * d
under_limit a d w p g h = lt_of_le_of_lt h (mul-lt-mul_of_pos_right g p)

-- a float with no sign
plain : (s : Bool) (m : ℕ) (e : ℤ) → T (fits binary32 (fin false m e)) → AtMostScale (fin false m e) → Halved (fin s m e) (fin false m e)
unfolding nearest_whole
plain s m e t h =
    let n = 2 * (m * up e) in
    let p = down_pos e in
    let l : n < 2 ^ 64 * down e = under_limit n (down e) (2 ^ 64) p (lit< tt) h in
    let v = double_exact binary32 false m e t (under_limit n (down e) (2 ^ 128) p (lit< tt) h) in
    let y = add binary32 (fin false m e) (fin false m e) in
    let c : to_unsigned 64 y ≡ n / down e = cut_value n (down e) p l y v in
    let k : n / down e < 65536 = (div-lt_iff_lt-mul p).1 (under_limit n (down e) 65536 p (lit< tt) h) in
    record {
      above = le_of_values plus_zero y 0 1 n (down e) (lit< tt) p (refl, refl) v (omega arith);
      under = le_of_values y (fin false 65535 (pos 0)) n (down e) 65535 1 p (lit< tt) v (refl, refl) (omega arith);
      small = omega arith;
      half = ap (λ (q : ℕ). (q + 1) / 2) c ∙ half_of_double (m * up e) (down e) p;
    }

-- what equals -0.0 is in that range too, and the cast gives 0
zero_range : (d : ℕ) (y : Float) → 0 < d → HasValue y true 0 d → T (le plus_zero y) × T (le y (fin false 65535 (pos 0))) × (to_unsigned 64 y ≡ 0)
unfolding le lt eq to_unsigned
zero_range d nan p v = absurd v
zero_range d (inf s) p v = absurd v
zero_range d (fin false m e) p v = absurd (true≢false (sym v.0))
zero_range d (fin true m e) p v =
    let z : m * up e ≤ 0 = le_of_mul-le-mul_right (omega (arith, v.1)) p in (
      rw (eq-eqb (0 * down e) (m * up e * 1) (omega arith), eq-eqb (0 * down e) 0 (omega arith)) tt,
      rw (lt-ltb 0 (m * up e * 1 + 65535 * down e) (omega (arith, down_pos e))) tt,
      refl,
    )

-- and so is the double of -0.0
minus_zero_law : (m : ℕ) (e : ℤ) → m * up e ≡ 0 → T (fits binary32 (fin true m e)) → Halved (fin true m e) (fin true m e)
unfolding nearest_whole half_up
minus_zero_law m e z t =
    let p = down_pos e in
    let v = double_exact binary32 true m e t (under_limit (2 * (m * up e)) (down e) (2 ^ 128) p (lit< tt) (omega arith)) in
    let y = add binary32 (fin true m e) (fin true m e) in
    let r = zero_range (down e) y p (subst (λ (k : ℕ). HasValue y true (2 * k) (down e)) z v) in
    let c : to_unsigned 64 y ≡ 0 = r.2 in
    record {
      above = r.0;
      under = r.1;
      small = omega arith;
      half = ap (λ (q : ℕ). (q + 1) / 2) c ∙ sym (div-eq_of_lt (omega arith));
    }

-- the size is the negation of what is below zero
pub halved_below : (p : Float) → T (fits binary32 p) → AtMostScale p → lt p plus_zero ≡ true → Halved p (neg p)
unfolding lt neg
halved_below nan t h l = absurd h
halved_below (inf s) t h l = absurd h
halved_below (fin true m e) t h l = plain true m e (neg-fits binary32 (fin true m e) t) h
halved_below (fin false m e) t h l = absurd (omega (arith, ltb-true))

-- and the rest itself
pub halved_not_below : (p : Float) → T (fits binary32 p) → AtMostScale p → lt p plus_zero ≡ false → Halved p p
unfolding lt
halved_not_below nan t h l = absurd h
halved_not_below (inf s) t h l = absurd h
halved_not_below (fin true m e) t h l = minus_zero_law m e (omega (arith, ltb-false)) t
halved_not_below (fin false m e) t h l = plain false m e t h
