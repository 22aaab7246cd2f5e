-- Pieces of a column, each a region of its own width: what a store or a region that was lent leaves of the others. Assumes nothing.
use mathlib.Core.Path.{◌≡◌, sym, ap, ◌∙◌}
use mathlib.Core.List.{List, ◌++◌}
use Prim.Native.Nat.{ℕ, ◌+◌, ◌*◌, ◌-◌, ◌≤◌, ◌<◌}
use native.Mathlib.Omega.{arith}
use lib.ListN.{length, take, drop, set, length-drop, take-append-drop}
use lib.Seq.{length-take-le, take-append-le, drop-append-le, drop-drop, drop_at, take-take, drop-set-lt, drop-set-add, take-set-le, take-set-lt}
use Rattle.layout.specs.Regions.{region}
use Rattle.layout.proofs.Regions.{lent, back, lent_region, region_wide, back_length}

-- ---- a store

module _ {A : Type 0} (w k : ℕ) (xs : List A) (i : ℕ) (a : A) where
  -- before a region
  pub region_after : i < w * k → region w k (set xs i a) ≡ region w k xs
  unfolding region
  region_after h = ap (take w) (drop-set-lt (w * k) xs i a h)

  -- behind it
  pub region_before : w * k + w ≤ i → region w k (set xs i a) ≡ region w k xs
  unfolding region
  region_before h =
      ap (λ (n : ℕ). take w (drop (w * k) (set xs n a))) (let z : i ≡ w * k + (i - w * k) = omega (arith, h) in z)
      ∙ ap (take w) (drop-set-add (w * k) xs (i - w * k) a)
      ∙ take-set-le w (drop (w * k) xs) (i - w * k) a (omega (arith, h))

-- in it
pub region_set : {A : Type 0} (w k : ℕ) (xs : List A) (i : ℕ) (a : A) → i < w → region w k (set xs (w * k + i) a) ≡ set (region w k xs) i a
unfolding region
region_set w k xs i a h = ap (take w) (drop-set-add (w * k) xs i a) ∙ take-set-lt w (drop (w * k) xs) i a h

-- ---- a region that was lent

module _ {A : Type 0} (v j : ℕ) (xs ys : List A) (fits : v * j + v ≤ length xs) (as_long : length ys ≡ v) (w k : ℕ) where
  abbrev behind : List A
  behind = ys ++ drop (v * j + v - v * j) (drop (v * j) xs)

  front_long : length (take (v * j) xs) ≡ v * j
  front_long = length-take-le (v * j) xs (omega (arith, fits))

  -- one that lies before it
  pub before_lent : w * k + w ≤ v * j → region w k (back v j xs ys) ≡ region w k xs
  unfolding region
  before_lent h = front behind ∙ sym (front (drop (v * j) xs)) ∙ ap (λ (z : List A). take w (drop (w * k) z)) (take-append-drop (v * j) xs)
    where
      front : (z : List A) → take w (drop (w * k) (take (v * j) xs ++ z)) ≡ take w (drop (w * k) (take (v * j) xs))
      front z =
          ap (take w) (drop-append-le (w * k) (take (v * j) xs) z (omega (arith, h, front_long)))
          ∙ take-append-le w (drop (w * k) (take (v * j) xs)) z (omega (arith, h, front_long, length-drop (w * k) (take (v * j) xs)))

  rest : drop (v * j + v) (back v j xs ys) ≡ drop (v * j + v) xs
  rest =
      sym (drop-drop v (v * j) (back v j xs ys))
      ∙ ap (drop v) (drop_at (take (v * j) xs) behind (v * j) front_long)
      ∙ drop_at ys (drop (v * j + v - v * j) (drop (v * j) xs)) v as_long
      ∙ drop-drop (v * j + v - v * j) (v * j) xs
      ∙ ap (λ (i : ℕ). drop i xs) (let q : v * j + (v * j + v - v * j) ≡ v * j + v = omega arith in q)

  -- one that lies behind it
  pub after_lent : v * j + v ≤ w * k → region w k (back v j xs ys) ≡ region w k xs
  unfolding region
  after_lent h = ap (take w) (far (back v j xs ys) ∙ ap (drop (w * k - (v * j + v))) rest ∙ sym (far xs))
    where
      far : (z : List A) → drop (w * k) z ≡ drop (w * k - (v * j + v)) (drop (v * j + v) z)
      far z =
          sym (drop-drop (w * k - (v * j + v)) (v * j + v) z ∙ ap (λ (i : ℕ). drop i z) (let q : v * j + v + (w * k - (v * j + v)) ≡ w * k = omega (arith, h) in q))

-- ---- the front of a region

-- as a part that is lent
pub region_front : {A : Type 0} (w k : ℕ) (xs : List A) (at n : ℕ) → at ≡ w * k → n ≤ w → take (at + n - at) (drop at xs) ≡ take n (region w k xs)
unfolding region
region_front w k xs at n e h =
    ap (λ (m : ℕ). take m (drop at xs)) (let z : at + n - at ≡ n = omega arith in z)
    ∙ ap (λ (m : ℕ). take n (drop m xs)) e
    ∙ sym (take-take n w (drop (w * k) xs) h)

-- ---- a column with a region that came back

pub back_long : {A : Type 0} (w k : ℕ) (xs ys : List A) → w * k + w ≤ length xs → length ys ≡ length (lent w k xs) → length (back w k xs ys) ≡ length xs
back_long w k xs ys h e = back_length w k xs ys h (e ∙ ap length (lent_region w k xs) ∙ region_wide w k xs h)
