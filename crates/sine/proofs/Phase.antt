-- From a float's bits to its position: the turn sine sees only a float's sign and value, and a pattern's value is its digits
-- times a power of two, so the position is a quotient by a power of two that the exponent's field gives. Assumes nothing.
use Rattle.std.proofs.Common.{◌≡◌, ℕ, zero, suc, ◌+◌, ◌-◌, ◌*◌, ◌/◌, ◌%◌, ◌^◌, ◌<◌, ◌≤◌, Bool, true, false, cond, T, eqb, leb, List, sym, refl, ap, ◌∙◌, subst, zero-le, le_trans, le_of_eq, lt_of_lt_of_le, le-add_right, lt_of_le_of_lt, mul-le-mul_right, mul_assoc, mul-le-mul, add_comm, lt_of_mul-lt-mul_right, mul-lt-mul_of_pos_right, mul-pos, mul_right_comm, le_of_mul-le-mul_right, arith, lit<, eqb→eq, pow_pos, pow_mono, pow-add, le-leb}
use native.Mathlib.Nat.{mul-mul-mul_comm, div-eq_of_lt}
use native.Mathlib.Decide.{dec_lt}
use lib.Dec.{not_T}
use lib.Ieee.{Float, nan, inf, fin, binary32, up, down, odd, of_fields, of_bits, neg, add, sub}
use lib.Ieee.Bits.{cond_no}
use lib.Ieee.Exact.{HasValue, odd_sign}
use lib.Ieee.Fits.{down_pos}
use lib.Ieee.Nearest.{div_same}
use borrow.Author.Tests.{lt-leb}
use Rattle.sine.specs.Turn.{C, position, sine_at, turn_sine_by}
use Rattle.sine.specs.Phase.{field_of, position_of}
use Rattle.sine.proofs.Floats.{less_itself}

-- ---- a float of the size a / c: m u / d is a / c, so both are over 2^31 or neither is, and both give one position

module _ (a c : ℕ) (cp : 0 < c) where
  cross : (m u d : ℕ) → m * u * c ≡ a * d → m * u * C * (c * 2 ^ 30) ≡ a * C * (d * 2 ^ 30)
  cross m u d h =
      mul-mul-mul_comm (m * u) C c (2 ^ 30) ∙ ap (λ (n : ℕ). n * (C * 2 ^ 30)) h ∙ sym (mul-mul-mul_comm a C d (2 ^ 30))

  -- its position
  position_of_value : (x : Float) (s : Bool) → HasValue x s a c → position_of x ≡ a * C / (c * 2 ^ 30) % 2 ^ 32
  unfolding position_of position
  position_of_value nan s v = absurd v
  position_of_value (inf t) s v = absurd v
  position_of_value (fin t m e) s v =
      ap (λ (n : ℕ). n % 2 ^ 32)
      (div_same (m * up e * C) (down e * 2 ^ 30) (a * C) (c * 2 ^ 30) (mul-pos (down_pos e) (pow_pos 30)) (mul-pos cp (pow_pos 30)) (cross m (up e) (down e) v.1))

  over : (m u d : ℕ) → 0 < d → m * u * c ≡ a * d → 2 ^ 31 * c ≤ a → 2 ^ 31 * d ≤ m * u
  over m u d dp h k =
      le_of_mul-le-mul_right (le_trans (le_of_eq (mul_right_comm (2 ^ 31) d c)) (le_trans (mul-le-mul_right d k) (le_of_eq (sym h)))) cp

  under : (m u d : ℕ) → 0 < d → m * u * c ≡ a * d → a < 2 ^ 31 * c → m * u < 2 ^ 31 * d
  under m u d dp h k =
      lt_of_mul-lt-mul_right c (lt_of_le_of_lt (le_of_eq h) (lt_of_lt_of_le (mul-lt-mul_of_pos_right k dp) (le_of_eq (mul_right_comm (2 ^ 31) c d))))

  -- from 2^31 on its sine is 0.0, which is x - x
  sine_over : (table : List ℕ) (x : Float) (s : Bool) → HasValue x s a c → 2 ^ 31 * c ≤ a → turn_sine_by table x ≡ sub binary32 x x
  unfolding turn_sine_by
  sine_over table nan s v k = absurd v
  sine_over table (inf t) s v k = absurd v
  sine_over table (fin t m e) s v k = rw (le-leb _ _ (over m (up e) (down e) (down_pos e) v.1 k), turn_sine_by) (sym (less_itself t m e))

  -- below 2^31 its sine is the sine at its position
  sine_under : (table : List ℕ) (x : Float) (s : Bool) → HasValue x s a c → a < 2 ^ 31 * c → turn_sine_by table x ≡ sine_at table s (position_of x)
  unfolding turn_sine_by position_of
  sine_under table nan s v k = absurd v
  sine_under table (inf t) s v k = absurd v
  sine_under table (fin t m e) s v k = rw (lt-leb _ _ (under m (up e) (down e) (down_pos e) v.1 k), turn_sine_by) (ap (λ (b : Bool). sine_at table b (position m e)) v.0)

-- ---- the value of a pattern, in units of 2^-149

-- the digits t under the exponent's field x
abbrev units : ℕ → ℕ → ℕ
units zero t = t * 2 ^ 0
units (suc x) t = (2 ^ 23 + t) * 2 ^ x

-- every field_of but the highest is that of a finite value
not_ones : (x : ℕ) → suc x < 255 → T (eqb (suc x) 255) → ⊥
not_ones x h u = omega (arith, eqb→eq (suc x) 255 u)

fields_value : (s : Bool) (x t : ℕ) → x < 255 → HasValue (of_fields binary32 s x t) s (units x t) (2 ^ 149)
unfolding of_fields
fields_value s zero t h = odd_sign 24 s t 0 149
fields_value s (suc x) t h =
    subst (λ (y : Float). HasValue y s ((2 ^ 23 + t) * 2 ^ x) (2 ^ 149))
    (sym (cond_no (eqb (suc x) 255) (cond (eqb t 0) (inf s) nan) (odd 24 s (2 ^ 23 + t) x 149) (not_T (eqb (suc x) 255) (not_ones x h))))
    (odd_sign 24 s (2 ^ 23 + t) x 149)

-- the field 158 is where 2^31 begins
units_over : (x t : ℕ) → 158 ≤ x → 2 ^ 31 * 2 ^ 149 ≤ units x t
units_over zero t h = absurd (omega arith)
units_over (suc x) t h = mul-le-mul {n₁ = 2 ^ 23} {m₁ = 2 ^ 157} (le-add_right (2 ^ 23) t) (pow_mono {i = 157} (omega arith))

-- up to the field n + 1 every value has fewer than 2^(n + 24) units
units_le : (n x t : ℕ) → x ≤ suc n → t < 2 ^ 23 → units x t ≤ (2 ^ 24 - 1) * 2 ^ n
units_le n zero t h k = mul-le-mul (omega arith) (pow_mono zero-le)
units_le n (suc x) t h k = mul-le-mul (omega arith) (pow_mono (omega arith))

units_under : (x t : ℕ) → x < 158 → t < 2 ^ 23 → units x t < 2 ^ 31 * 2 ^ 149
units_under x t h k = lt_of_le_of_lt (units_le 156 x t (omega arith) k) (lit< tt)

-- below the field 95 the product does not reach one position
none : (x t : ℕ) → x < 95 → t < 2 ^ 23 → units x t * C / (2 ^ 149 * 2 ^ 30) ≡ 0
unfolding C
none x t h k = div-eq_of_lt (lt_of_le_of_lt (mul-le-mul_right C (units_le 93 x t (omega arith) k)) (lit< tt))

-- from the field 95 on 2^(e - 1) units are 2^9 / 2^(31 + 158 - e) of a 2^30th
regroup : (m p c q : ℕ) → m * p * c * q ≡ m * c * (p * q)
regroup m p c q = ap (λ (n : ℕ). n * q) (mul_right_comm m p c) ∙ mul_assoc (m * c) p q

powers : (x : ℕ) → suc x < 158 → 2 ^ x * 2 ^ (31 + (158 - suc x)) ≡ 512 * (2 ^ 149 * 2 ^ 30)
powers x h =
    let e : x + (31 + (158 - suc x)) ≡ 188 = omega arith in
    sym (pow-add 2 x (31 + (158 - suc x))) ∙ ap (λ (n : ℕ). 2 ^ n) e

some : (x t : ℕ) → 0 < x → x < 158 → units x t * C / (2 ^ 149 * 2 ^ 30) ≡ (t + 2 ^ 23) * 512 * C / 2 ^ (31 + (158 - x))
some zero t o h = absurd (omega arith)
some (suc x) t o h =
    div_same ((2 ^ 23 + t) * 2 ^ x * C) (2 ^ 149 * 2 ^ 30) ((t + 2 ^ 23) * 512 * C) (2 ^ (31 + (158 - suc x))) (pow_pos 179) (pow_pos (31 + (158 - suc x)))
    (regroup (2 ^ 23 + t) (2 ^ x) C (2 ^ (31 + (158 - suc x)))
    ∙ ap (λ (n : ℕ). (2 ^ 23 + t) * C * n) (powers x h)
    ∙ ap (λ (n : ℕ). n * C * (512 * (2 ^ 149 * 2 ^ 30))) (add_comm (2 ^ 23) t)
    ∙ sym (regroup (t + 2 ^ 23) 512 C (2 ^ 149 * 2 ^ 30)))

-- ---- the bits of a float

-- an infinity less itself is NaN, and so is NaN
not_finite : (table : List ℕ) (s z : Bool) → turn_sine_by table (cond z (inf s) nan) ≡ sub binary32 (cond z (inf s) nan) (cond z (inf s) nan)
unfolding turn_sine_by sub add neg
not_finite table true true = refl
not_finite table false true = refl
not_finite table s false = refl

module _ (b : ℕ) where
  -- the highest field
  ones : (table : List ℕ) → field_of b ≡ 255 → turn_sine_by table (of_bits binary32 b) ≡ sub binary32 (of_bits binary32 b) (of_bits binary32 b)
  unfolding of_bits of_fields
  ones table e =
      subst (λ (n : ℕ). let x = of_fields binary32 (leb (2 ^ 31) b) n (b % 2 ^ 23) in turn_sine_by table x ≡ sub binary32 x x) (sym e)
      (not_finite table (leb (2 ^ 31) b) (eqb (b % 2 ^ 23) 0))

  -- any other
  value : field_of b < 255 → HasValue (of_bits binary32 b) (leb (2 ^ 31) b) (units (field_of b) (b % 2 ^ 23)) (2 ^ 149)
  unfolding of_bits
  value h = fields_value (leb (2 ^ 31) b) (field_of b) (b % 2 ^ 23) h

  digits : b % 2 ^ 23 < 2 ^ 23
  digits = omega arith

  -- the position by the units
  bits_position : field_of b < 158 → position_of (of_bits binary32 b) ≡ units (field_of b) (b % 2 ^ 23) * C / (2 ^ 149 * 2 ^ 30) % 2 ^ 32
  bits_position h = position_of_value (units (field_of b) (b % 2 ^ 23)) (2 ^ 149) (pow_pos 149) (of_bits binary32 b) (leb (2 ^ 31) b) (value (omega arith))

  -- the position is 0
  pub position_none : field_of b < 95 → position_of (of_bits binary32 b) ≡ 0
  position_none h = bits_position (omega arith) ∙ ap (λ (n : ℕ). n % 2 ^ 32) (none (field_of b) (b % 2 ^ 23) h digits)

  -- the position is the quotient that `phase` works out
  pub position_some : 95 ≤ field_of b → field_of b < 158 → position_of (of_bits binary32 b) ≡ (b % 2 ^ 23 + 2 ^ 23) * 512 * C / 2 ^ (31 + (158 - field_of b)) % 2 ^ 32
  position_some l h = bits_position h ∙ ap (λ (n : ℕ). n % 2 ^ 32) (some (field_of b) (b % 2 ^ 23) (omega arith) h)

  -- below the field 158 the sine is the sine at the position
  pub bits_under : (table : List ℕ) → field_of b < 158 → turn_sine_by table (of_bits binary32 b) ≡ sine_at table (leb (2 ^ 31) b) (position_of (of_bits binary32 b))
  bits_under table h = sine_under _ _ (pow_pos 149) table (of_bits binary32 b) _ (value (omega arith)) (units_under (field_of b) (b % 2 ^ 23) h digits)

  -- from the field 158 on it is x - x, the infinities and NaN included
  pub bits_over : (table : List ℕ) → 158 ≤ field_of b → turn_sine_by table (of_bits binary32 b) ≡ sub binary32 (of_bits binary32 b) (of_bits binary32 b)
  bits_over table h = go (dec_lt (field_of b) 255)
    where
      go : Dec (field_of b < 255) → turn_sine_by table (of_bits binary32 b) ≡ sub binary32 (of_bits binary32 b) (of_bits binary32 b)
      go (yes l) = sine_over _ _ (pow_pos 149) table (of_bits binary32 b) _ (value l) (units_over (field_of b) (b % 2 ^ 23) h)
      go (no l) = ones table (omega arith)
