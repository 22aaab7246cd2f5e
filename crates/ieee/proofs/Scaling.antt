-- A power of two goes through rounding: a whole number that is rounded and then divided by 2^(k + 1) is the quotient rounded once, as long as
-- nothing overflows and a quotient that is not 0 is in the normal range. What carries it is that a format has one value of each
-- sign and size, and rounds it to itself. Assumes nothing.
use mathlib.Core.Path.{◌≡◌, refl, sym, ap, ap₂, ◌∙◌}
use mathlib.Core.Bool.{Bool, true, false, cond}
use Prim.Native.Nat.{ℕ, zero, suc, ◌+◌, ◌-◌, ◌*◌, ◌/◌, ◌^◌, ◌≤◌, ◌<◌, zero-le}
use native.Mathlib.Nat.{zero-lt-suc, le_trans, le_of_eq, lt_of_le_of_lt, mul-le-mul_right, le-mul_of_pos_right, one-mul, mul-one, mul_right_comm, mul-pos}
use native.Mathlib.Omega.{arith}
use lib.Dec.{T}
use lib.IntN.{negsuc}
use lib.Pow.{pow-add, pow_pos, pow_mono}
use lib.Ieee.{Float, nan, inf, fin, Format, prec, low, up, down, unlike, size, hid, top, round, mul, le, fits, to_bits, of_bits}
use lib.Ieee.Back.{round_whole}
use lib.Ieee.Bits.{of_bits-to_bits}
use lib.Ieee.Exact.{HasValue}
use lib.Ieee.Fits.{two, down_pos, round-fits}
use lib.Ieee.Nearest.{div_same}
use lib.Ieee.Order.{round_mono}
use lib.Ieee.Scale.{grid, overflow, finite, round_same, round_val, round_under, grid_scale, normal_of_fraction}
use Rattle.ieee.proofs.Nonnegative.{nonnegative, round_nonnegative, held}
use Rattle.ieee.proofs.Sign.{round_signs}

-- ---- a format has one value of each sign and size, and rounds it to itself

-- the pattern of a value with the sign s and of n units of the format's smallest value
abbrev pattern : Format → Bool → ℕ → ℕ
pattern f s n = cond s (top f) 0 + (size n - prec f) * hid f + n / 2 ^ (size n - prec f)

bits_are : (f : Format) (x : Float) (s : Bool) (a c : ℕ) → 0 < c → HasValue x s a c → to_bits f x ≡ pattern f s (a * 2 ^ low f / c)
unfolding to_bits
bits_are f nan s a c h v = absurd v
bits_are f (inf t) s a c h v = absurd v
bits_are f (fin t m e) s a c h v =
    let l = 2 ^ low f in
    ap₂ (pattern f) v.0
    (div_same (m * up e * l) (down e) (a * l) c (down_pos e) h (mul_right_comm (m * up e) l c ∙ ap (λ (z : ℕ). z * l) v.1 ∙ mul_right_comm a (down e) l))

value_unique : (f : Format) (x y : Float) (s : Bool) (a c : ℕ) → 0 < c → T (fits f x) → T (fits f y) → HasValue x s a c → HasValue y s a c → x ≡ y
value_unique f x y s a c h p q v w =
    sym (of_bits-to_bits f x p) ∙ ap (of_bits f) (bits_are f x s a c h v ∙ sym (bits_are f y s a c h w)) ∙ of_bits-to_bits f y q

-- so its fraction rounds to it
round_value : (f : Format) (x : Float) (s : Bool) (a c : ℕ) → 0 < c → T (fits f x) → HasValue x s a c → round f s a c ≡ x
round_value f nan s a c h p v = absurd v
round_value f (inf t) s a c h p v = absurd v
round_value f (fin t m e) s a c h p v =
    round_same f s a c (m * up e) (down e) h (down_pos e) (sym v.1)
    ∙ ap (λ (b : Bool). round f b (m * up e) (down e)) (sym v.0)
    ∙ value_unique f (round f t (m * up e) (down e)) (fin t m e) t (m * up e) (down e) (down_pos e) (round-fits f t (m * up e) (down e)) p (held f t e m p) (refl, refl)

-- ---- what rounds to a finite value

below_finite : (x y : Float) → T (nonnegative x) → T (le x y) → T (finite y) → T (finite x)
unfolding le
below_finite nan y h l t = absurd h
below_finite (inf true) y h l t = absurd h
below_finite (inf false) nan h l t = absurd t
below_finite (inf false) (inf s) h l t = absurd t
below_finite (inf false) (fin s m e) h l t = absurd l
below_finite (fin s m e) y h l t = tt

-- a whole number up to one that rounds to a finite value
pub round_finite : (f : Format) (a b : ℕ) → a ≤ b → T (finite (round f false b 1)) → T (finite (round f false a 1))
round_finite f a b h t =
    below_finite (round f false a 1) (round f false b 1) (round_nonnegative f a 1) (round_mono f a 1 b 1 (zero-lt-suc 0) (zero-lt-suc 0) (omega arith)) t

-- ---- division by a power of two

unlike_false : (t : Bool) → unlike false t ≡ t
unlike_false true = refl
unlike_false false = refl

-- a product with ±2^-(k + 1)
divided : (f : Format) (x : Float) (t : Bool) (a c k : ℕ) → 0 < c → HasValue x false a c → mul f x (fin t 1 (negsuc k)) ≡ round f t a (c * 2 ^ suc k)
unfolding mul
divided f nan t a c k h v = absurd v
divided f (inf r) t a c k h v = absurd v
divided f (fin r m e) t a c k h v =
    let p = 2 ^ suc k in
    ap (λ (b : Bool). round f b (m * up e * 1) (down e * p)) (ap (λ (b : Bool). unlike b t) v.0 ∙ unlike_false t)
    ∙ round_same f t (m * up e * 1) (down e * p) a (c * p) (mul-pos (down_pos e) (pow_pos (suc k))) (mul-pos h (pow_pos (suc k)))
    (omega (arith, ap (λ (z : ℕ). z * p) v.1))

-- a - 1 + (k + 1), where nothing is cut
less_and_more : (a k l : ℕ) → 2 ≤ a → a + k ≤ l → a - 1 + suc k ≤ l
less_and_more a k l h r = omega arith

module _ (f : Format) (k : ℕ) (room : prec f + k ≤ low f) where
  -- the quotient of a number above 0 is in the normal range
  normal : (n : ℕ) → 0 < n → prec f ≤ size (n * 2 ^ low f / 2 ^ suc k)
  normal n h =
      let l = 2 ^ low f in
      let p : 2 ^ (prec f - 1) * 2 ^ suc k ≤ l = le_trans (le_of_eq (sym (pow-add 2 (prec f - 1) (suc k)))) (pow_mono (less_and_more (prec f) k (low f) (two f) room)) in
      normal_of_fraction f n (2 ^ suc k) (pow_pos (suc k)) (le_trans p (le_trans (le_of_eq (sym (one-mul l))) (mul-le-mul_right l h)))

  module _ (n : ℕ) (above : 0 < n) (fine : T (finite (round f false n 1))) where
    -- in units, the number rounded is 2^(k + 1) times the quotient rounded
    scale : grid f (n * 2 ^ suc k) (2 ^ suc k) ≡ grid f n (2 ^ suc k) * 2 ^ suc k
    scale = grid_scale f n (2 ^ suc k) (suc k) (pow_pos (suc k)) (normal n above)

    -- the number is a quotient too
    whole : round f false (n * 2 ^ suc k) (2 ^ suc k) ≡ round f false n 1
    whole = round_same f false (n * 2 ^ suc k) (2 ^ suc k) n 1 (pow_pos (suc k)) (zero-lt-suc 0) (mul-one (n * 2 ^ suc k))

    -- so the quotient does not overflow either, and both have a value
    under : grid f n (2 ^ suc k) * 2 ^ suc k < overflow f
    under = rw scale at (round_under f (n * 2 ^ suc k) (2 ^ suc k) (rw whole fine))

    number : HasValue (round f false n 1) false (grid f n (2 ^ suc k) * 2 ^ suc k) (2 ^ low f)
    number = rw (whole, scale) at (round_val f (n * 2 ^ suc k) (2 ^ suc k) (rw scale under))

    quotient : HasValue (round f false n (2 ^ suc k)) false (grid f n (2 ^ suc k)) (2 ^ low f)
    quotient = round_val f n (2 ^ suc k) (lt_of_le_of_lt (le-mul_of_pos_right (grid f n (2 ^ suc k)) (pow_pos (suc k))) under)

    -- the quotient's value is rounded already
    again : (t : Bool) → round f t (grid f n (2 ^ suc k)) (2 ^ low f) ≡ round f t n (2 ^ suc k)
    again =
        round_signs f (grid f n (2 ^ suc k)) (2 ^ low f) n (2 ^ suc k)
        (round_value f (round f false n (2 ^ suc k)) false (grid f n (2 ^ suc k)) (2 ^ low f) (pow_pos (low f)) (round-fits f false n (2 ^ suc k)) quotient)

  -- a number as a float, times ±2^-(k + 1), is the quotient with that sign, rounded once
  pub round_divided : (t : Bool) (n : ℕ) → T (finite (round f false n 1)) → mul f (round f false n 1) (fin t 1 (negsuc k)) ≡ round f t n (2 ^ suc k)
  round_divided t zero h =
      divided f (round f false 0 1) t 0 1 k (zero-lt-suc 0) (round_whole f false 0 zero-le)
      ∙ round_same f t 0 (1 * 2 ^ suc k) 0 (2 ^ suc k) (mul-pos (zero-lt-suc 0) (pow_pos (suc k))) (pow_pos (suc k)) (omega arith)
  round_divided t (suc n) h =
      let g = grid f (suc n) (2 ^ suc k) in
      divided f (round f false (suc n) 1) t (g * 2 ^ suc k) (2 ^ low f) k (pow_pos (low f)) (number (suc n) (zero-lt-suc n) h)
      ∙ round_same f t (g * 2 ^ suc k) (2 ^ low f * 2 ^ suc k) g (2 ^ low f) (mul-pos (pow_pos (low f)) (pow_pos (suc k))) (pow_pos (low f)) (omega arith)
      ∙ again (suc n) (zero-lt-suc n) h t
