-- The floats that the turn sine makes: x - x, and S times 2^-24 with a sign, which is S / 2^24 rounded once; and what is no NaN.
-- Assumes nothing.
use Rattle.std.proofs.Common.{◌≡◌, ℕ, ◌*◌, ◌^◌, ◌<◌, Bool, true, false, not, T, ℤ, pos, negsuc, sym, ◌∙◌, subst, le_refl, le_of_lt, mul-pos, zero-mul, lit<, lit≤, le-ltb}
use native.Mathlib.Nat.{sub_self}
use lib.Ieee.{Float, nan, inf, fin, binary32, is_nan, ne, up, down, round, neg, sum, add, sub, mul, of_int}
use lib.Ieee.Compare.{nan_differs}
use lib.Ieee.Fits.{down_pos}
use lib.Ieee.Scale.{round_same, finite}
use Rattle.ieee.specs.Constants.{plus_zero}
use Rattle.ieee.proofs.Scaling.{round_finite, round_divided}

-- what does not differ from itself is no NaN
pub no_nan : (x : Float) → ne x x ≡ false → T (not (is_nan x))
unfolding is_nan
no_nan nan e = subst T (sym nan_differs ∙ e) tt
no_nan (inf s) e = tt
no_nan (fin s m d) e = tt

-- ---- x - x

-- a zero keeps its sign
zero_round : (s : Bool) (d : ℕ) → 0 < d → round binary32 s 0 d ≡ fin s 0 (pos 0)
unfolding round
zero_round s d h = round_same binary32 s 0 d 0 1 h (lit< tt) (sym (zero-mul d))

-- a finite x less itself is 0.0
pub less_itself : (s : Bool) (m : ℕ) (e : ℤ) → sub binary32 (fin s m e) (fin s m e) ≡ plus_zero
unfolding sub add neg sum
less_itself true m e =
    let a = m * up e * down e in
    rw (le-ltb a a (le_refl a), sub_self a) (zero_round false (down e * down e) (mul-pos (down_pos e) (down_pos e)))
less_itself false m e =
    let a = m * up e * down e in
    rw (le-ltb a a (le_refl a), sub_self a) (zero_round false (down e * down e) (mul-pos (down_pos e) (down_pos e)))

-- ---- S * ±2^-24

-- 2^32 is no infinity
top : T (finite (round binary32 false (2 ^ 32) 1))
unfolding round
top = tt

-- n as a float times 2^-24 with the sign t is n / 2^24 with that sign, rounded once
pub unit_times : (t : Bool) (n : ℕ) → n < 2 ^ 32 → mul binary32 (of_int binary32 (pos n)) (fin t 1 (negsuc 23)) ≡ round binary32 t n (2 ^ 24)
unfolding of_int
unit_times t n h = round_divided binary32 23 (lit≤ tt) t n (round_finite binary32 n (2 ^ 32) (le_of_lt h) top)
