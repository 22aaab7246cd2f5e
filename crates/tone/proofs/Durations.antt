-- Laws of durations that callers rely on: each is an f32, and within the bounds of document 01 (tempo 1 to 1000, denominator and value 1 to 128)
-- it is a finite number above zero. Rounding keeps the order, so the ends of the bounds, which compute, hold all between them. Assumes nothing.
use Rattle.std.proofs.Common.{◌≡◌, ℕ, ◌*◌, ◌<◌, ◌≤◌, Bool, true, false, T, pos, refl, ap, true≢false, mul-pos, arith, ne_eqb}
use lib.Ieee.{Float, nan, inf, fin, binary32, up, down, le, mul, div, of_int, round, fits}
use lib.Ieee.Fits.{down_pos, mul-fits}
use lib.Ieee.Exact.{HasValue}
use lib.Ieee.Order.{round_mono}
use lib.Ieee.Scale.{round_same}
use lib.Ieee.Positive.{positive, between, mul_mono, first_pos}
use Rattle.ieee.specs.Constants.{dot_factor, minute}
use Rattle.tone.specs.Time.{duration_of}
use Rattle.tone.proofs.Counts.{whole_value}

-- every duration is an f32
pub duration_fits : (tempo denom value : ℕ) (dotted : Bool) → T (fits binary32 (duration_of tempo denom value dotted))
unfolding duration_of
duration_fits tempo denom value true = mul-fits binary32 _ _
duration_fits tempo denom value false = mul-fits binary32 _ _

-- the quotient of two whole numbers is the f32 nearest to their fraction
ratio : (x y : Float) (a b : ℕ) → 0 < b → HasValue x false a 1 → HasValue y false b 1 → div binary32 x y ≡ round binary32 false a b
unfolding div
ratio nan y a b p v w = absurd v
ratio (inf s) y a b p v w = absurd v
ratio (fin true m e) y a b p v w = absurd (true≢false v.0)
ratio (fin false m e) nan a b p v w = absurd w
ratio (fin false m e) (inf s) a b p v w = absurd w
ratio (fin false m e) (fin true n d) a b p v w = absurd (true≢false w.0)
ratio (fin false m e) (fin false n d) a b p v w =
    let k : 0 < n * up d = omega (arith, w.1, mul-pos p (down_pos d)) in
    let l : 0 < n = first_pos n (up d) k in
    rw (ne_eqb n 0 (λ z. omega arith))
    (round_same binary32 false (m * up e * down d) (n * up d * down e) a b (mul-pos k (down_pos e)) p
    (omega (arith, ap (λ (z : ℕ). z * (down d * b)) v.1, ap (λ (z : ℕ). z * (a * down e)) w.1)))

-- ---- between the ends

-- z lies from lo to hi
abbrev Inside : Float → Float → Float → Type 0
Inside lo hi z = T (le lo z) × T (le z hi)

module _ (lo hi x : Float) (p : T (positive lo)) (q : T (positive hi)) (i : Inside lo hi x) where
  inside_positive : T (positive x)
  inside_positive = between lo x hi p q i.0 i.1

  inside_mul : (lo' hi' y : Float) → T (positive lo') → T (positive hi') → T (positive y) → Inside lo' hi' y
      → Inside (mul binary32 lo lo') (mul binary32 hi hi') (mul binary32 x y)
  inside_mul lo' hi' y p' q' r' j = (
    mul_mono binary32 lo x lo' y p inside_positive p' r' i.0 j.0,
    mul_mono binary32 x hi y hi' inside_positive q r' q' i.1 j.1,
  )

-- the duration of a note with no dot, its casts and quotients worked out
abbrev undotted : ℕ → ℕ → ℕ → Float
undotted tempo denom value = mul binary32 (round binary32 false 60 tempo) (round binary32 false denom value)

module _ (tempo denom value : ℕ) (t : 0 < tempo) (t' : tempo ≤ 1000) (d : 0 < denom) (d' : denom ≤ 128) (v : 0 < value) (v' : value ≤ 128) where
  beat : Inside (round binary32 false 60 1000) (round binary32 false 60 1) (round binary32 false 60 tempo)
  beat = (round_mono binary32 60 1000 60 tempo (omega arith) t (omega arith), round_mono binary32 60 tempo 60 1 t (omega arith) (omega arith))

  share : Inside (round binary32 false 1 128) (round binary32 false 128 1) (round binary32 false denom value)
  share = (round_mono binary32 1 128 denom value (omega arith) v (omega arith), round_mono binary32 denom value 128 1 v (omega arith) (omega arith))

  undotted_inside : Inside (undotted 1000 1 128) (undotted 1 128 1) (undotted tempo denom value)
  unfolding round
  undotted_inside = inside_mul _ _ _ tt tt beat _ _ _ tt tt (inside_positive _ _ _ tt tt share) share

  undotted_positive : T (positive (undotted tempo denom value))
  unfolding mul
  undotted_positive = inside_positive (undotted 1000 1 128) (undotted 1 128 1) (undotted tempo denom value) tt tt undotted_inside

  dotted_positive : T (positive (mul binary32 (undotted tempo denom value) dot_factor))
  unfolding mul le
  dotted_positive =
      inside_positive (mul binary32 (undotted 1000 1 128) dot_factor) (mul binary32 (undotted 1 128 1) dot_factor) (mul binary32 (undotted tempo denom value) dot_factor) tt tt
      (inside_mul (undotted 1000 1 128) (undotted 1 128 1) (undotted tempo denom value) tt tt undotted_inside dot_factor dot_factor dot_factor tt tt tt (tt, tt))

  quotients : mul binary32 (div binary32 minute (of_int binary32 (pos tempo))) (div binary32 (of_int binary32 (pos denom)) (of_int binary32 (pos value)))
      ≡ undotted tempo denom value
  quotients =
      rw (
        ratio minute (of_int binary32 (pos tempo)) 60 tempo t (refl, refl) (whole_value tempo (omega arith)),
        ratio (of_int binary32 (pos denom)) (of_int binary32 (pos value)) denom value v (whole_value denom (omega arith)) (whole_value value (omega arith)),
      )

  -- a note's duration is a finite number above zero
  pub duration_positive : (dotted : Bool) → T (positive (duration_of tempo denom value dotted))
  unfolding duration_of
  duration_positive true = rw quotients dotted_positive
  duration_positive false = rw quotients undotted_positive
