-- Times: floats that are neither a NaN nor below zero. -0.0 is one, so `nonnegative` is too narrow for a sheet that is handed in. With the sign of its
-- zero cleared a time is nonnegative, and products, sums and the order do not see the difference. Assumes nothing.
use mathlib.Core.Path.{◌≡◌, refl, sym, ap, ap₂, subst, ◌∙◌}
use mathlib.Core.Bool.{Bool, true, false, ◌&&◌, ◌||◌, cond}
use Prim.Native.Nat.{ℕ, zero, suc, ◌+◌, ◌-◌, ◌*◌, ◌<◌}
use native.Mathlib.Nat.{mul-pos}
use native.Mathlib.Omega.{arith}
use lib.Dec.{T, eqb, ltb, lit<, eqb→eq}
use lib.IntN.{ℤ, pos}
use lib.Ieee.{Float, nan, inf, fin, Format, binary32, up, down, level, lt, eq, le, add, mul, sum, round, fits}
use lib.Ieee.Bits.{is_true}
use lib.Ieee.Fits.{down_pos, up_pos, and_l}
use lib.Ieee.Order.{le_of_values}
use lib.Ieee.Scale.{round_same}
use borrow.Author.Tests.{ltb-false, le-ltb, eq-eqb, ne_eqb}
use Rattle.ieee.specs.Constants.{plus_zero}
use Rattle.ieee.specs.Times.{is_time}
use Rattle.ieee.proofs.Nonnegative.{nonnegative, round_nonnegative}

-- without its sign
abbrev pub cleared : Float → Float
cleared nan = nan
cleared (inf s) = inf false
cleared (fin s m e) = fin false m e

-- what is nonnegative is a time, and is cleared already
pub nonnegative_time : (x : Float) → T (nonnegative x) → T (is_time x)
nonnegative_time nan h = h
nonnegative_time (inf s) h = h
nonnegative_time (fin true m e) h = absurd h
nonnegative_time (fin false m e) h = tt

pub nonnegative_cleared : (x : Float) → T (nonnegative x) → cleared x ≡ x
nonnegative_cleared nan h = absurd h
nonnegative_cleared (inf true) h = absurd h
nonnegative_cleared (inf false) h = refl
nonnegative_cleared (fin true m e) h = absurd h
nonnegative_cleared (fin false m e) h = refl

-- a cleared time is nonnegative
pub cleared_nonnegative : (x : Float) → T (is_time x) → T (nonnegative (cleared x))
cleared_nonnegative nan h = h
cleared_nonnegative (inf s) h = tt
cleared_nonnegative (fin s m e) h = tt

-- and an f32 holds it as it held the time
pub cleared_fits : (x : Float) → T (fits binary32 x) → T (fits binary32 (cleared x))
unfolding fits
cleared_fits nan h = h
cleared_fits (inf s) h = tt
cleared_fits (fin s zero e) h = h
cleared_fits (fin s (suc m) e) h = h

-- ---- -0.0 in products and sums

-- a zero is rounded to a zero of its sign
pub round_zero : (f : Format) (s : Bool) (n d : ℕ) → n ≡ 0 → 0 < d → round f s n d ≡ round f s 0 1
round_zero f s n d z h = round_same f s n d 0 1 h (lit< tt) (omega arith)

no_product : (a b : ℕ) → 0 * a * b ≡ 0
no_product a b = omega arith

or_infinite : (b : Bool) → cleared (cond b nan (inf false)) ≡ cond b nan (inf false)
or_infinite true = refl
or_infinite false = refl

zeros_cleared : cleared (round binary32 true 0 1) ≡ round binary32 false 0 1
unfolding round
zeros_cleared = refl

cleared_round : (n d : ℕ) → n ≡ 0 → 0 < d → cleared (round binary32 true n d) ≡ round binary32 false n d
cleared_round n d z h = ap cleared (round_zero binary32 true n d z h) ∙ zeros_cleared ∙ sym (round_zero binary32 false n d z h)

-- a time's product with a number, cleared, is the cleared time's
pub times_cleared : (p : ℕ) (g : ℤ) (x : Float) → T (is_time x) → cleared (mul binary32 x (fin false p g)) ≡ mul binary32 (cleared x) (fin false p g)
unfolding mul
times_cleared p g nan h = absurd h
times_cleared p g (inf true) h = absurd h
times_cleared p g (inf false) h = or_infinite (eqb p 0)
times_cleared p g (fin true zero e) h = cleared_round (0 * up e * (p * up g)) (down e * down g) (no_product (up e) (p * up g)) (mul-pos (down_pos e) (down_pos g))
times_cleared p g (fin true (suc m) e) h = absurd h
times_cleared p g (fin false m e) h = nonnegative_cleared _ (round_nonnegative binary32 (m * up e * (p * up g)) (down e * down g))

sum_right : (a b c : ℕ) → b ≡ 0 → sum binary32 false a true b c ≡ sum binary32 false a false b c
unfolding sum
sum_right a b c z =
    let q : a - b ≡ a + b = omega arith in
    ap (λ (t : Bool). cond t (round binary32 true (b - a) c) (round binary32 false (a - b) c)) (le-ltb a b (omega arith))
    ∙ ap (λ (k : ℕ). round binary32 false k c) q

sum_left : (a b c : ℕ) → a ≡ 0 → sum binary32 true a false b c ≡ sum binary32 false a false b c
unfolding sum
sum_left a b c z = go (ltb a b) (ltb b a) refl (le-ltb b a (omega arith))
  where
    go : (t u : Bool) → ltb a b ≡ t → u ≡ false → cond t (round binary32 false (b - a) c) (round binary32 (true && u) (a - b) c) ≡ round binary32 false (a + b) c
    go true u e f = ap (λ (k : ℕ). round binary32 false k c) (let q : b - a ≡ a + b = omega arith in q)
    go false u e f = ap₂ (λ (t : Bool) (k : ℕ). round binary32 t k c) f (let q : a - b ≡ a + b = omega (arith, ltb-false) in q)

-- and so is the sum of two times
pub add_cleared : (x y : Float) → T (is_time x) → T (is_time y) → cleared (add binary32 x y) ≡ add binary32 (cleared x) (cleared y)
unfolding add sum
add_cleared nan y h i = absurd h
add_cleared (inf true) y h i = absurd h
add_cleared (inf false) nan h i = absurd i
add_cleared (inf false) (inf true) h i = absurd i
add_cleared (inf false) (inf false) h i = refl
add_cleared (inf false) (fin s n d) h i = refl
add_cleared (fin s m e) nan h i = absurd i
add_cleared (fin s m e) (inf true) h i = absurd i
add_cleared (fin s m e) (inf false) h i = refl
add_cleared (fin true zero e) (fin true zero d) h i =
    cleared_round (0 * up e * down d + 0 * up d * down e) (down e * down d) (omega arith) (mul-pos (down_pos e) (down_pos d))
add_cleared (fin true zero e) (fin true (suc n) d) h i = absurd i
add_cleared (fin true (suc m) e) (fin true n d) h i = absurd h
add_cleared (fin true (suc m) e) (fin false n d) h i = absurd h
add_cleared (fin true zero e) (fin false n d) h i =
    ap cleared (sum_left (0 * up e * down d) (n * up d * down e) (down e * down d) (no_product (up e) (down d)))
    ∙ nonnegative_cleared _ (round_nonnegative binary32 (0 * up e * down d + n * up d * down e) (down e * down d))
add_cleared (fin false m e) (fin true zero d) h i =
    ap cleared (sum_right (m * up e * down d) (0 * up d * down e) (down e * down d) (no_product (up d) (down e)))
    ∙ nonnegative_cleared _ (round_nonnegative binary32 (m * up e * down d + 0 * up d * down e) (down e * down d))
add_cleared (fin false m e) (fin true (suc n) d) h i = absurd i
add_cleared (fin false m e) (fin false n d) h i = nonnegative_cleared _ (round_nonnegative binary32 (m * up e * down d + n * up d * down e) (down e * down d))

-- ---- products and sums of times are times

zero_time : T (is_time (round binary32 true 0 1))
unfolding round
zero_time = tt

round_time : (n d : ℕ) → n ≡ 0 → 0 < d → T (is_time (round binary32 true n d))
round_time n d z h = subst (λ (x : Float). T (is_time x)) (sym (round_zero binary32 true n d z h)) zero_time

plain_time : (n d : ℕ) → T (is_time (round binary32 false n d))
plain_time n d = nonnegative_time (round binary32 false n d) (round_nonnegative binary32 n d)

pub times_time : (p : ℕ) (g : ℤ) → 0 < p → (x : Float) → T (is_time x) → T (is_time (mul binary32 x (fin false p g)))
unfolding mul
times_time p g k nan h = h
times_time p g k (inf true) h = absurd h
times_time p g k (inf false) h = rw (ne_eqb p 0 (λ z. omega arith)) tt
times_time p g k (fin true zero e) h = round_time (0 * up e * (p * up g)) (down e * down g) (no_product (up e) (p * up g)) (mul-pos (down_pos e) (down_pos g))
times_time p g k (fin true (suc m) e) h = absurd h
times_time p g k (fin false m e) h = plain_time (m * up e * (p * up g)) (down e * down g)

pub add_time : (x y : Float) → T (is_time x) → T (is_time y) → T (is_time (add binary32 x y))
unfolding add sum
add_time nan y h i = h
add_time (inf true) y h i = absurd h
add_time (inf false) nan h i = i
add_time (inf false) (inf true) h i = absurd i
add_time (inf false) (inf false) h i = tt
add_time (inf false) (fin s n d) h i = tt
add_time (fin s m e) nan h i = i
add_time (fin s m e) (inf true) h i = absurd i
add_time (fin s m e) (inf false) h i = tt
add_time (fin true zero e) (fin true zero d) h i =
    round_time (0 * up e * down d + 0 * up d * down e) (down e * down d) (omega arith) (mul-pos (down_pos e) (down_pos d))
add_time (fin true zero e) (fin true (suc n) d) h i = absurd i
add_time (fin true (suc m) e) (fin true n d) h i = absurd h
add_time (fin true (suc m) e) (fin false n d) h i = absurd h
add_time (fin true zero e) (fin false n d) h i =
    subst (λ (x : Float). T (is_time x)) (sym (sum_left (0 * up e * down d) (n * up d * down e) (down e * down d) (no_product (up e) (down d))))
    (plain_time (0 * up e * down d + n * up d * down e) (down e * down d))
add_time (fin false m e) (fin true zero d) h i =
    subst (λ (x : Float). T (is_time x)) (sym (sum_right (m * up e * down d) (0 * up d * down e) (down e * down d) (no_product (up d) (down e))))
    (plain_time (m * up e * down d + 0 * up d * down e) (down e * down d))
add_time (fin false m e) (fin true (suc n) d) h i = absurd i
add_time (fin false m e) (fin false n d) h i = plain_time (m * up e * down d + n * up d * down e) (down e * down d)

-- ---- the order

zero_below : (e : ℤ) (y : Float) → T (is_time y) → T (le (fin false 0 e) (cleared y))
unfolding le lt
zero_below e nan h = h
zero_below e (inf s) h = tt
zero_below e (fin s n d) h =
    le_of_values (fin false 0 e) (fin false n d) (0 * up e) (down e) (n * up d) (down d) (down_pos e) (down_pos d) (refl, refl) (refl, refl) (omega arith)

-- a number that is at most -0.0 is at most 0.0
to_zero : (m : ℕ) (e d : ℤ) → T (le (fin false m e) (fin true 0 d)) → T (le (fin false m e) (fin false 0 d))
unfolding le lt eq
to_zero m e d l =
    let a = m * up e * down d in
    let b = 0 * up d * down e in
    let z : a ≡ b = eqb→eq a b (and_l (eqb a b) (false || eqb a 0) l) in
    le_of_values (fin false m e) (fin false 0 d) (m * up e) (down e) (0 * up d) (down d) (down_pos e) (down_pos d) (refl, refl) (refl, refl) (omega arith)

-- clearing keeps the order of times
pub le_cleared : (x y : Float) → T (is_time x) → T (is_time y) → T (le x y) → T (le (cleared x) (cleared y))
le_cleared nan y h i l = absurd h
le_cleared (inf true) y h i l = absurd h
le_cleared (inf false) nan h i l = absurd i
le_cleared (inf false) (inf true) h i l = absurd i
le_cleared (inf false) (inf false) h i l = l
le_cleared (inf false) (fin s n d) h i l = absurd (unfold le in l)
le_cleared (fin true zero e) y h i l = zero_below e y i
le_cleared (fin true (suc m) e) y h i l = absurd h
le_cleared (fin false m e) nan h i l = absurd i
le_cleared (fin false m e) (inf true) h i l = absurd i
le_cleared (fin false m e) (inf false) h i l = l
le_cleared (fin false m e) (fin true zero d) h i l = to_zero m e d l
le_cleared (fin false m e) (fin true (suc n) d) h i l = absurd i
le_cleared (fin false m e) (fin false n d) h i l = l

level_zero : (a b : ℕ) → a ≡ 0 → b ≡ 0 → level false a true b ≡ true
level_zero a b y z = rw (eq-eqb a b (omega arith), eq-eqb a 0 y)

level_below : (a b : ℕ) → a ≡ 0 → 0 < b → level false a true b ≡ false
level_below a b y z = rw (ne_eqb a b (λ e. omega arith))

-- a time is what is not below 0.0, and no NaN
pub time_is : (x : Float) → is_time x ≡ le plus_zero x
unfolding le lt eq
time_is nan = refl
time_is (inf true) = refl
time_is (inf false) = refl
time_is (fin true zero e) = sym (level_zero (0 * 1 * down e) (0 * up e * 1) (omega arith) (omega arith))
time_is (fin true (suc m) e) =
    let p : 0 < suc m * up e = mul-pos (omega arith) (up_pos e) in
    sym (level_below (0 * 1 * down e) (suc m * up e * 1) (omega arith) (omega arith))
time_is (fin false m e) = sym (is_true _ (zero_below (pos 0) (fin false m e) tt))
