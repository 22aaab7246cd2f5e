-- Floats that are neither a NaN nor negative, -0.0 counted as negative: rounding gives them, sums and products keep them and their order, and
-- a sum is no smaller than what it began with. Stated over both formats; times and lengths cite them at f32. Assumes nothing.
use mathlib.Core.Path.{◌≡◌, refl, sym, ap, ◌∙◌}
use mathlib.Core.Bool.{Bool, true, false, not, ◌&&◌, ◌||◌, cond}
use Prim.Native.Nat.{ℕ, zero, suc, ◌+◌, ◌-◌, ◌*◌, ◌%◌, ◌^◌, ◌≤◌, ◌<◌}
use native.Mathlib.Nat.{le_of_lt, le_of_eq, le_refl, lt_of_not-le, not-le_of_lt, mul-pos, mul-le-mul_right, mul-lt-mul_of_pos_right, lt_of_mul-lt-mul_right, le_of_suc-le-suc, mul-one, one-mul}
use native.Mathlib.Omega.{arith}
use lib.Dec.{T, leb, ltb, eqb, ltb→lt, leb→le, eqb→eq}
use lib.Pow.{pow-add, pow_pos, pow-lt}
use lib.IntN.{ℤ, pos, negsuc}
use lib.Ieee.{Float, nan, inf, fin, Format, prec, emax, low, up, down, le, add, mul, round, units, odd, fits}
use lib.Ieee.Digits.{back}
use lib.Ieee.Fits.{down_pos, round_is, and_l, and_r}
use lib.Ieee.Exact.{HasValue, round_exact}
use lib.Ieee.Order.{round_mono, le_of_values}
use lib.Ieee.Positive.{positive, through}
use borrow.Author.Tests.{ne_eqb}

-- neither a NaN nor with a sign
abbrev pub nonnegative : Float → Bool
nonnegative nan = false
nonnegative (inf s) = not s
nonnegative (fin s m e) = not s

-- a finite number above zero is one
pub positive_nonnegative : (x : Float) → T (positive x) → T (nonnegative x)
positive_nonnegative nan h = h
positive_nonnegative (inf s) h = absurd h
positive_nonnegative (fin true m e) h = h
positive_nonnegative (fin false m e) h = tt

-- ---- rounding

odd_nonnegative : (d q k l : ℕ) → T (nonnegative (odd d false q k l))
unfolding odd
odd_nonnegative d zero k l = tt
odd_nonnegative d (suc q) k l = tt

or_infinite : (b : Bool) (x : Float) → T (nonnegative x) → T (nonnegative (cond b x (inf false)))
or_infinite true x h = h
or_infinite false x h = tt

units_nonnegative : (f : Format) (q k : ℕ) → T (nonnegative (units f false q k))
unfolding units
units_nonnegative f q k = or_infinite (ltb (q * 2 ^ k) (2 ^ (low f + suc (emax f)))) (odd (suc (prec f)) false q k (low f)) (odd_nonnegative (suc (prec f)) q k (low f))

-- what is rounded with no sign has none
pub round_nonnegative : (f : Format) (a b : ℕ) → T (nonnegative (round f false a b))
round_nonnegative f a b = rw (round_is f false a b) (units_nonnegative f _ _)

-- ---- the order

le_inf : (x : Float) → T (nonnegative x) → T (le x (inf false))
unfolding le
le_inf nan h = h
le_inf (inf true) h = absurd h
le_inf (inf false) h = tt
le_inf (fin true m e) h = absurd h
le_inf (fin false m e) h = tt

pub less_or_equal : (a b : ℕ) (s t : Bool) → (T s → a < b) → (T t → a ≡ b) → T (s || (t && true)) → a ≤ b
less_or_equal a b true t f g h = le_of_lt (f tt)
less_or_equal a b false true f g h = le_of_eq (g tt)
less_or_equal a b false false f g h = absurd h

-- of two numbers it is the order of the fractions
pub le_fractions : (m n : ℕ) (e d : ℤ) → T (le (fin false m e) (fin false n d)) → m * up e * down d ≤ n * up d * down e
unfolding le
le_fractions m n e d h =
    let a = m * up e * down d in
    let b = n * up d * down e in
    less_or_equal a b (ltb a b) (eqb a b) (ltb→lt a b) (eqb→eq a b) h

le_trans : (x y z : Float) → T (nonnegative x) → T (nonnegative y) → T (nonnegative z) → T (le x y) → T (le y z) → T (le x z)
le_trans x y nan h i j k l = absurd j
le_trans x y (inf true) h i j k l = absurd j
le_trans x y (inf false) h i j k l = le_inf x h
le_trans x nan (fin s p g) h i j k l = absurd i
le_trans x (inf true) (fin s p g) h i j k l = absurd i
le_trans x (inf false) (fin s p g) h i j k l = absurd (unfold le in l)
le_trans x (fin true n d) (fin s p g) h i j k l = absurd i
le_trans nan (fin false n d) (fin s p g) h i j k l = absurd h
le_trans (inf true) (fin false n d) (fin s p g) h i j k l = absurd h
le_trans (inf false) (fin false n d) (fin s p g) h i j k l = absurd (unfold le in k)
le_trans (fin true m e) (fin false n d) (fin s p g) h i j k l = absurd h
le_trans (fin false m e) (fin false n d) (fin true p g) h i j k l = absurd j
le_trans (fin false m e) (fin false n d) (fin false p g) h i j k l =
    le_of_values (fin false m e) (fin false p g) (m * up e) (down e) (p * up g) (down g) (down_pos e) (down_pos g) (refl, refl) (refl, refl)
    (through (m * up e) (n * up d) (p * up g) (down e) (down d) (down g) (down_pos d) (le_fractions m n e d k) (le_fractions n p d g l))

-- ---- products with one number above zero

module _ (f : Format) (p : ℕ) (g : ℤ) (k : 0 < p) where
  -- the product is one
  pub times_nonnegative : (x : Float) → T (nonnegative x) → T (nonnegative (mul f x (fin false p g)))
  unfolding mul
  times_nonnegative nan h = h
  times_nonnegative (inf true) h = absurd h
  times_nonnegative (inf false) h = rw (ne_eqb p 0 (λ z. omega arith)) tt
  times_nonnegative (fin true m e) h = absurd h
  times_nonnegative (fin false m e) h = round_nonnegative f (m * up e * (p * up g)) (down e * down g)

  -- and grows with its first factor
  pub times_grows : (x y : Float) → T (nonnegative x) → T (nonnegative y) → T (le x y) → T (le (mul f x (fin false p g)) (mul f y (fin false p g)))
  unfolding mul
  times_grows x nan h i l = absurd i
  times_grows x (inf true) h i l = absurd i
  times_grows x (inf false) h i l = rw (ne_eqb p 0 (λ z. omega arith)) (le_inf (mul f x (fin false p g)) (times_nonnegative x h))
  times_grows x (fin true n d) h i l = absurd i
  times_grows nan (fin false n d) h i l = absurd h
  times_grows (inf true) (fin false n d) h i l = absurd h
  times_grows (inf false) (fin false n d) h i l = absurd (unfold le in l)
  times_grows (fin true m e) (fin false n d) h i l = absurd h
  times_grows (fin false m e) (fin false n d) h i l =
      round_mono f (m * up e * (p * up g)) (down e * down g) (n * up d * (p * up g)) (down d * down g) (mul-pos (down_pos e) (down_pos g)) (mul-pos (down_pos d) (down_pos g))
      (omega (arith, mul-le-mul_right (p * up g * down g) (le_fractions m n e d l)))

-- ---- sums

-- of two such floats the sum is one
pub add_nonnegative : (f : Format) (x y : Float) → T (nonnegative x) → T (nonnegative y) → T (nonnegative (add f x y))
unfolding add
add_nonnegative f nan y h i = h
add_nonnegative f (inf true) y h i = absurd h
add_nonnegative f (inf false) nan h i = absurd i
add_nonnegative f (inf false) (inf true) h i = absurd i
add_nonnegative f (inf false) (inf false) h i = tt
add_nonnegative f (inf false) (fin s n d) h i = tt
add_nonnegative f (fin true m e) y h i = absurd h
add_nonnegative f (fin false m e) nan h i = absurd i
add_nonnegative f (fin false m e) (inf true) h i = absurd i
add_nonnegative f (fin false m e) (inf false) h i = tt
add_nonnegative f (fin false m e) (fin true n d) h i = absurd i
add_nonnegative f (fin false m e) (fin false n d) h i = round_nonnegative f (m * up e * down d + n * up d * down e) (down e * down d)

exponent_le : (i j : ℕ) → 2 ^ i ≤ 2 ^ j → i ≤ j
exponent_le i j h = le_of_suc-le-suc (lt_of_not-le (λ (g : suc j ≤ i). not-le_of_lt (pow-lt g) h))

-- in units of the format's smallest value a power of two is a power of two
pub in_units : (l : ℕ) (e : ℤ) → down e ≤ 2 ^ l → (j : ℕ) × (2 ^ j * down e ≡ up e * 2 ^ l)
in_units l (pos k) h = (k + l, mul-one (2 ^ (k + l)) ∙ pow-add 2 k l)
in_units l (negsuc k) h =
    let j = l - suc k in
    (j, sym (pow-add 2 j (suc k)) ∙ ap (λ (z : ℕ). 2 ^ z) (back l (suc k) (exponent_le (suc k) l h)) ∙ sym (one-mul (2 ^ l)))

under : (n q d p l w : ℕ) → n < p * d → 0 < l → n * l ≡ q * d → w ≡ l * p → q < w
under n q d p l w h k e v = lt_of_mul-lt-mul_right d (omega (arith, mul-lt-mul_of_pos_right h k, ap (λ (z : ℕ). z * d) v))

-- a value that the format holds is rounded to itself
module _ (f : Format) (s : Bool) (e : ℤ) where
  kept : (m : ℕ) → m < 2 ^ prec f → down e ≤ 2 ^ low f → m * up e < 2 ^ suc (emax f) * down e → HasValue (round f s (m * up e) (down e)) s (m * up e) (down e)
  kept m a b c =
      let u = in_units (low f) e b in
      let w : m * up e * 2 ^ low f ≡ m * 2 ^ u.0 * down e = omega (arith, ap (λ (z : ℕ). m * z) u.1) in
      round_exact f s (m * up e) (down e) m u.0 (down_pos e) a
      (under (m * up e) (m * 2 ^ u.0) (down e) (2 ^ suc (emax f)) (2 ^ low f) (2 ^ (low f + suc (emax f))) c (pow_pos (low f)) w (pow-add 2 (low f) (suc (emax f)))) w

  pub held : (m : ℕ) → T (fits f (fin s m e)) → HasValue (round f s (m * up e) (down e)) s (m * up e) (down e)
  unfolding fits
  held zero t = round_exact f s (0 * up e) (down e) 0 0 (down_pos e) (pow_pos (prec f)) (pow_pos (low f + suc (emax f))) (omega arith)
  held (suc m) t =
      let a = eqb (suc m % 2) 1 in
      let b = ltb (suc m) (2 ^ prec f) in
      let c = leb (down e) (2 ^ low f) in
      let d = ltb (suc m * up e) (2 ^ suc (emax f) * down e) in
      let t' = and_l (a && b && c) d t in
      kept (suc m) (ltb→lt (suc m) (2 ^ prec f) (and_r a b (and_l (a && b) c t'))) (leb→le (down e) (2 ^ low f) (and_r (a && b) c t'))
      (ltb→lt (suc m * up e) (2 ^ suc (emax f) * down e) (and_r (a && b && c) d t))

-- and no smaller than the first, if that is a value of the format
pub add_grows : (f : Format) (x y : Float) → T (fits f x) → T (nonnegative x) → T (nonnegative y) → T (le x (add f x y))
unfolding add
add_grows f nan y t h i = absurd h
add_grows f (inf true) y t h i = absurd h
add_grows f (inf false) nan t h i = absurd i
add_grows f (inf false) (inf true) t h i = absurd i
add_grows f (inf false) (inf false) t h i = le_inf (inf false) tt
add_grows f (inf false) (fin s n d) t h i = le_inf (inf false) tt
add_grows f (fin true m e) y t h i = absurd h
add_grows f (fin false m e) nan t h i = absurd i
add_grows f (fin false m e) (inf true) t h i = absurd i
add_grows f (fin false m e) (inf false) t h i = le_inf (fin false m e) tt
add_grows f (fin false m e) (fin true n d) t h i = absurd i
add_grows f (fin false m e) (fin false n d) t h i =
    let x = round f false (m * up e) (down e) in
    let sum = round f false (m * up e * down d + n * up d * down e) (down e * down d) in
    le_trans (fin false m e) x sum tt (round_nonnegative f (m * up e) (down e)) (round_nonnegative f (m * up e * down d + n * up d * down e) (down e * down d))
    (le_of_values (fin false m e) x (m * up e) (down e) (m * up e) (down e) (down_pos e) (down_pos e) (refl, refl) (held f false e m t) (le_refl (m * up e * down e)))
    (round_mono f (m * up e) (down e) (m * up e * down d + n * up d * down e) (down e * down d) (down_pos e) (mul-pos (down_pos e) (down_pos d)) (omega arith))
