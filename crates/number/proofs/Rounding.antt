-- Rounding n / d to the format f by long division: scaled to a quotient of `prec` digits, n / d rounds to that quotient's nearest
-- whole number of units, and its bits are the field k and that number added up. Assumes nothing.
use mathlib.Core.Path.{◌≡◌, refl, sym, ap, ap₂, ◌∙◌, subst}
use mathlib.Core.Logic.{inl, inr}
use mathlib.Core.Bool.{Bool, false, cond}
use Prim.Native.Nat.{ℕ, suc, ◌+◌, ◌-◌, ◌*◌, ◌/◌, ◌%◌, ◌^◌, ◌≤◌, ◌<◌, compare}
use native.Mathlib.Nat.{le_trans, le_of_eq, lt_of_lt_of_le, lt_of_le_of_lt, lt_of_not-le, not-le_of_lt, zero-add, mul_comm, mul_assoc, mul-pos, mul-le-mul, mul-div_cancel, div-lt_iff_lt-mul, le-div_iff_mul-le, div-div-eq-div-mul, eq-or-lt_of_le, pow-suc, suc-add, lt-suc_self, add-sub_of_le}
use native.Mathlib.Omega.{arith}
use lib.Dec.{lit<}
use lib.Arith.{digits_div, digits_mod}
use lib.Pow.{pow-add, pow_pos, pow_mono, pow-lt, shl-shr}
use lib.Ieee.{Float, nan, inf, fin, Format, binary32, prec, emax, low, up, down, size, nearest, units, round, is_nan, hid, top, to_bits, of_bits, nan_bits}
use lib.Ieee.Digits.{size-lt, size-le}
use lib.Ieee.Exact.{HasValue, units_val}
use lib.Ieee.Fits.{core, round_is, round-fits, down_pos, nearest-le}
use lib.Ieee.Nearest.{closest, closest_same, div_same, nearest-ge}
use lib.Ieee.Bits.{of_bits-to_bits, nan_bits_is}
use lib.Ieee.Scale.{round_same}

-- ---- how many digits a scaled number has

-- a number from 2 ^ j on and below 2 ^ (j + 1) has j + 1 binary digits
size_is : (n j : ℕ) → 2 ^ j ≤ n → n < 2 ^ suc j → size n ≡ suc j
size_is n j lo hi =
    let a : size n ≤ suc j = size-le n (suc j) hi in
    let b : j < size n = lt_of_not-le (λ (g : size n ≤ j). not-le_of_lt (lt_of_lt_of_le (size-lt n) (pow_mono g)) lo) in
    omega arith

-- the quotient and the rest of a long division give the nearest whole number
pub closest_is : (a b q r : ℕ) → a ≡ q * b + r → r < b → closest a b ≡ nearest q (compare (r * 2) b)
closest_is a b q r e h =
    ap₂ (λ (x y : ℕ). nearest x (compare (y * 2) b)) (ap (λ (x : ℕ). x / b) e ∙ digits_div q h) (ap (λ (x : ℕ). x % b) e ∙ digits_mod q h)

-- zero is zero over any divisor
pub round_zero : (d : ℕ) → 0 < d → round binary32 false 0 d ≡ round binary32 false 0 1
round_zero d h = round_same binary32 false 0 d 0 1 h (omega arith) (omega arith)

-- a number whose part above 2 ^ k has j + 1 binary digits has k more
scaled_size : (w j k : ℕ) → 2 ^ j ≤ w / 2 ^ k → w / 2 ^ k < 2 ^ suc j → size w ≡ suc (j + k)
scaled_size w j k lo hi =
    size_is w (j + k)
    (le_trans (le_of_eq (pow-add 2 j k)) ((le-div_iff_mul-le (pow_pos k)).0 lo))
    (subst (λ (x : ℕ). w < x) (sym (pow-add 2 (suc j) k) ∙ ap (λ (x : ℕ). 2 ^ x) (suc-add j k)) ((div-lt_iff_lt-mul (pow_pos k)).0 hi))

-- n / d, scaled so that the quotient a / b has the format's p + 1 digits, in units of 2 ^ k of the format's smallest value
module _ (f : Format) (p n d a b k : ℕ) (digits : prec f ≡ suc p) (dp : 0 < d) (bp : 0 < b) (lo : b * 2 ^ p ≤ a) (hi : a < b * 2 ^ suc p)
    (same : a * (d * 2 ^ k) ≡ n * 2 ^ low f * b) where
  kept : n * 2 ^ low f / d / 2 ^ k ≡ a / b
  kept =
      div-div-eq-div-mul (n * 2 ^ low f) d (2 ^ k)
      ∙ div_same (n * 2 ^ low f) (d * 2 ^ k) a b (mul-pos dp (pow_pos k)) bp (sym same)

  quotient_lo : 2 ^ p ≤ a / b
  quotient_lo = (le-div_iff_mul-le bp).1 (le_trans (le_of_eq (mul_comm (2 ^ p) b)) lo)

  quotient_hi : a / b < 2 ^ suc p
  quotient_hi = (div-lt_iff_lt-mul bp).1 (lt_of_lt_of_le hi (le_of_eq (mul_comm b (2 ^ suc p))))

  dropped : size (n * 2 ^ low f / d) - prec f ≡ k
  dropped =
      let z : size (n * 2 ^ low f / d) ≡ suc (p + k) =
      scaled_size (n * 2 ^ low f / d) p k (subst (λ (x : ℕ). 2 ^ p ≤ x) (sym kept) quotient_lo) (subst (λ (x : ℕ). x < 2 ^ suc p) (sym kept) quotient_hi) in
      omega arith

  pub round_units : round f false n d ≡ units f false (closest a b) k
  round_units =
      round_is f false n d
      ∙ ap (λ (j : ℕ). core f false (n * 2 ^ low f) d j) dropped
      ∙ ap (λ (q : ℕ). units f false q k) (closest_same (n * 2 ^ low f) (d * 2 ^ k) a b (mul-pos dp (pow_pos k)) bp (sym same))

-- ---- the bits of a value in units

-- a float of size w in units of the format's smallest value has w's leading digits, and the field says how many were dropped
bits_of_value : (f : Format) (v : Float) (w : ℕ) → HasValue v false w (2 ^ low f) → to_bits f v ≡ (size w - prec f) * hid f + w / 2 ^ (size w - prec f)
unfolding to_bits
bits_of_value f nan w h = absurd h
bits_of_value f (inf s) w h = absurd h
bits_of_value f (fin s m e) w h =
    let e' : m * up e * 2 ^ low f / down e ≡ w = ap (λ (x : ℕ). x / down e) h.1 ∙ mul-div_cancel w (down_pos e) in
    ap₂ (λ (x : Bool) (z : ℕ). cond x (top f) 0 + (size z - prec f) * hid f + z / 2 ^ (size z - prec f)) h.0 e'
    ∙ ap (λ (x : ℕ). x + w / 2 ^ (size w - prec f)) (zero-add ((size w - prec f) * hid f))

-- q units of 2 ^ k, with q of the format's p + 1 digits or the next power of two: the bits are the field k and q added up
module _ (f : Format) (p q k : ℕ) (digits : prec f ≡ suc p) (lo : 2 ^ p ≤ q) (fine : q * 2 ^ k < 2 ^ (low f + suc (emax f))) where
  leading : hid f ≡ 2 ^ p
  leading = let e : prec f - 1 ≡ p = omega arith in ap (λ (x : ℕ). 2 ^ x) e

  at_drop : (j t : ℕ) → size (q * 2 ^ k) - prec f ≡ j → q * 2 ^ k / 2 ^ j ≡ t → to_bits f (units f false q k) ≡ j * 2 ^ p + t
  at_drop j t e g =
      bits_of_value f (units f false q k) (q * 2 ^ k) (units_val f false q k fine)
      ∙ ap (λ (x : ℕ). x * hid f + q * 2 ^ k / 2 ^ x) e
      ∙ ap₂ (λ (x y : ℕ). j * x + y) leading g

  below : q < 2 ^ suc p → to_bits f (units f false q k) ≡ k * 2 ^ p + q
  below hi =
      let z : size (q * 2 ^ k) ≡ suc (p + k) =
      scaled_size (q * 2 ^ k) p k (subst (λ (x : ℕ). 2 ^ p ≤ x) (sym (shl-shr q k)) lo) (subst (λ (x : ℕ). x < 2 ^ suc p) (sym (shl-shr q k)) hi) in
      at_drop k q (omega arith) (shl-shr q k)

  carried : q ≡ 2 ^ suc p → to_bits f (units f false q k) ≡ k * 2 ^ p + q
  carried e =
      let w : q * 2 ^ k ≡ 2 ^ p * 2 ^ suc k =
      ap (λ (x : ℕ). x * 2 ^ k) (e ∙ pow-suc 2 p) ∙ mul_assoc (2 ^ p) 2 (2 ^ k) ∙ ap (λ (x : ℕ). 2 ^ p * x) (mul_comm 2 (2 ^ k) ∙ sym (pow-suc 2 k)) in
      let g : q * 2 ^ k / 2 ^ suc k ≡ 2 ^ p = ap (λ (x : ℕ). x / 2 ^ suc k) w ∙ shl-shr (2 ^ p) (suc k) in
      let z : size (q * 2 ^ k) ≡ suc (p + suc k) =
      scaled_size (q * 2 ^ k) p (suc k) (le_of_eq (sym g)) (subst (λ (x : ℕ). x < 2 ^ suc p) (sym g) (pow-lt (lt-suc_self p))) in
      let t : suc k * 2 ^ p + 2 ^ p ≡ k * 2 ^ p + q = omega arith in
      at_drop (suc k) (2 ^ p) (omega arith) g ∙ t

  units_bits : q ≤ 2 ^ suc p → to_bits f (units f false q k) ≡ k * 2 ^ p + q
  units_bits hi = elim (eq-or-lt_of_le hi) [ inl e ↦ carried e | inr l ↦ below l ]

finite : (v : Float) (w l : ℕ) → HasValue v false w l → is_nan v ≡ false
unfolding is_nan
finite nan w l h = absurd h
finite (inf s) w l h = absurd h
finite (fin s m e) w l h = refl

-- ---- what the code assembles: the quotient a / b of p + 1 digits, in units of 2 ^ k
module _ (f : Format) (p a b k : ℕ) (digits : prec f ≡ suc p) (bp : 0 < b) (lo : b * 2 ^ p ≤ a) (hi : a < b * 2 ^ suc p) where
  is_units : round f false (a * 2 ^ k) (b * 2 ^ low f) ≡ units f false (closest a b) k
  is_units =
      round_units f p (a * 2 ^ k) (b * 2 ^ low f) a b k digits (mul-pos bp (pow_pos (low f))) bp lo hi
      (omega arith)

  q_lo : 2 ^ p ≤ closest a b
  q_lo = le_trans ((le-div_iff_mul-le bp).1 (le_trans (le_of_eq (mul_comm (2 ^ p) b)) lo)) (nearest-ge (a / b) (compare (a % b * 2) b))

  pub q_hi : closest a b ≤ 2 ^ suc p
  q_hi =
      le_trans (nearest-le (a / b) (compare (a % b * 2) b))
      ((div-lt_iff_lt-mul bp).1 (lt_of_lt_of_le hi (le_of_eq (mul_comm b (2 ^ suc p)))))

  pub assembled_is : closest a b * 2 ^ k < 2 ^ (low f + suc (emax f)) → of_bits f (k * 2 ^ p + closest a b) ≡ round f false (a * 2 ^ k) (b * 2 ^ low f)
  assembled_is fine =
      ap (of_bits f) (sym (units_bits f p (closest a b) k digits q_lo fine q_hi))
      ∙ ap (λ (v : Float). of_bits f (to_bits f v)) (sym is_units)
      ∙ of_bits-to_bits f (round f false (a * 2 ^ k) (b * 2 ^ low f)) (round-fits f false (a * 2 ^ k) (b * 2 ^ low f))

  -- so the pattern is no NaN's
  pub assembled_number : (fine : closest a b * 2 ^ k < 2 ^ (low f + suc (emax f))) → nan_bits f (k * 2 ^ p + closest a b) ≡ false
  assembled_number fine =
      nan_bits_is f (k * 2 ^ p + closest a b)
      ∙ ap is_nan (assembled_is fine ∙ is_units)
      ∙ finite (units f false (closest a b) k) (closest a b * 2 ^ k) (2 ^ low f) (units_val f false (closest a b) k fine)

-- ---- at f32, as the code has it: n / d lies from 1 up to 2, q and r are its long division to 23 places, and m is q rounded

in_range_law : (q k : ℕ) → q ≤ 2 ^ 24 → k ≤ 200 → q * 2 ^ k < 2 ^ 277
in_range_law q k h g = lt_of_le_of_lt (mul-le-mul h (pow_mono g)) (lit< tt)

pub record Assembled (n d k m : ℕ) : Type 0 where
  pub small : m ≤ 2 ^ 24
  pub number : nan_bits binary32 (k * 2 ^ 23 + m) ≡ false
  pub is : of_bits binary32 (k * 2 ^ 23 + m) ≡ round binary32 false (n * 2 ^ 23 * 2 ^ k) (d * 2 ^ 149)

pub assembled : (n d k q r m : ℕ) → 0 < d → d ≤ n → n < 2 * d → k ≤ 200 → n * 2 ^ 23 ≡ q * d + r → r < d → m ≡ nearest q (compare (r * 2) d)
    → Assembled n d k m
assembled n d k q r m dp lo hi kb e h g =
    let a = n * 2 ^ 23 in
    let lo' : d * 2 ^ 23 ≤ a = omega arith in
    let hi' : a < d * 2 ^ 24 = omega arith in
    let c : m ≡ closest a d = g ∙ sym (closest_is a d q r e h) in
    let s : closest a d ≤ 2 ^ 24 = q_hi binary32 23 a d k refl dp lo' hi' in
    let f : closest a d * 2 ^ k < 2 ^ 277 = in_range_law (closest a d) k s kb in
    record {
      small = subst (λ (x : ℕ). x ≤ 2 ^ 24) (sym c) s;
      number = ap (λ (x : ℕ). nan_bits binary32 (k * 2 ^ 23 + x)) c ∙ assembled_number binary32 23 a d k refl dp lo' hi' f;
      is = ap (λ (x : ℕ). of_bits binary32 (k * 2 ^ 23 + x)) c ∙ assembled_is binary32 23 a d k refl dp lo' hi' f;
    }

-- n raised by 2 ^ j, or d lowered by it: the fraction that is assembled is the one that was asked for
scaled_up : (n x y w a d : ℕ) → x * y ≡ w → n * x * a * y * d ≡ n * (d * (w * a))
scaled_up n x y w a d e =
    let l : n * x * a * y * d ≡ n * (x * y) * a * d = omega arith in
    let r : n * w * a * d ≡ n * (d * (w * a)) = omega arith in
    l ∙ ap (λ (t : ℕ). n * t * a * d) e ∙ r

scaled_down : (n x y w a d : ℕ) → y ≡ w * x → n * a * y * d ≡ n * (d * x * (w * a))
scaled_down n x y w a d e =
    let r : n * a * (w * x) * d ≡ n * (d * x * (w * a)) = omega arith in
    ap (λ (t : ℕ). n * a * t * d) e ∙ r

pub raised_same : (n d j : ℕ) → 0 < d → j ≤ 126 → round binary32 false (n * 2 ^ j * 2 ^ 23 * 2 ^ (126 - j)) (d * 2 ^ 149) ≡ round binary32 false n d
raised_same n d j dp h =
    round_same binary32 false (n * 2 ^ j * 2 ^ 23 * 2 ^ (126 - j)) (d * 2 ^ 149) n d (mul-pos dp (pow_pos 149)) dp
    (scaled_up n (2 ^ j) (2 ^ (126 - j)) (2 ^ 126) (2 ^ 23) d (sym (pow-add 2 j (126 - j)) ∙ ap (λ (k : ℕ). 2 ^ k) (add-sub_of_le h)))

pub lowered_same : (n d j : ℕ) → 0 < d → round binary32 false (n * 2 ^ 23 * 2 ^ (126 + j)) (d * 2 ^ j * 2 ^ 149) ≡ round binary32 false n d
lowered_same n d j dp =
    round_same binary32 false (n * 2 ^ 23 * 2 ^ (126 + j)) (d * 2 ^ j * 2 ^ 149) n d (mul-pos (mul-pos dp (pow_pos j)) (pow_pos 149)) dp
    (scaled_down n (2 ^ j) (2 ^ (126 + j)) (2 ^ 126) (2 ^ 23) d (pow-add 2 126 j))
