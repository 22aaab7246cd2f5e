-- A region that was lent and has come back: it holds what the borrower left, and every other region what it held before. Assumes nothing.
use mathlib.Core.Path.{◌≡◌, refl, sym, ap, ◌∙◌}
use mathlib.Core.Bool.{Bool, true, false}
use mathlib.Core.List.{List, ◌++◌}
use Prim.Native.Nat.{ℕ, ◌+◌, ◌*◌, ◌-◌, ◌≤◌, ◌<◌, min}
use native.Mathlib.Nat.{mul-le-mul_left}
use native.Mathlib.Omega.{arith}
use lib.Dec.{ltb}
use lib.ListN.{length, take, drop, length-append, length-drop, take-append-drop}
use lib.Seq.{length-take-le, take-append-le, drop-append-le, take-take, drop-drop, take_at, drop_at}
use borrow.Author.Tests.{ltb-true, ltb-false}
use Rattle.layout.specs.Regions.{region}
use Rattle.layout.proofs.Cuts.{region_length}

module _ {A : Type 0} (w k : ℕ) where
  -- a region inside a column is a whole one
  pub region_wide : (xs : List A) → w * k + w ≤ length xs → length (region w k xs) ≡ w
  region_wide xs h = region_length w k xs ∙ (let z : min w (length xs - w * k) ≡ w = omega (arith, h) in z)

  -- a region in front of a place says nothing of what lies behind it
  region_front : (p q r : List A) → w * k + w ≤ length p → region w k (p ++ q) ≡ region w k (p ++ r)
  unfolding region
  region_front p q r h = front q ∙ sym (front r)
    where
      front : (z : List A) → take w (drop (w * k) (p ++ z)) ≡ take w (drop (w * k) p)
      front z =
          ap (take w) (drop-append-le (w * k) p z (omega (arith, h)))
          ∙ take-append-le w (drop (w * k) p) z (omega (arith, h, length-drop (w * k) p))

  -- one behind a place is told by what lies behind it
  region_behind : (n : ℕ) (xs ys : List A) → n ≤ w * k → drop n xs ≡ drop n ys → region w k xs ≡ region w k ys
  unfolding region
  region_behind n xs ys h e = ap (take w) (behind xs ∙ ap (drop (w * k - n)) e ∙ sym (behind ys))
    where
      behind : (z : List A) → drop (w * k) z ≡ drop (w * k - n) (drop n z)
      behind z = sym (drop-drop (w * k - n) n z ∙ ap (λ (i : ℕ). drop i z) (let q : n + (w * k - n) ≡ w * k = omega (arith, h) in q))

-- the first region of a region is that region
pub region_again : {A : Type 0} (w k : ℕ) (xs : List A) → region w 0 (region w k xs) ≡ region w k xs
unfolding region
region_again w k xs =
    ap (λ (n : ℕ). take w (drop n (take w (drop (w * k) xs)))) (let z : w * 0 ≡ 0 = omega arith in z)
    ∙ take-take w w _ (let z : w ≤ w = omega arith in z)

-- regions do not overlap
apart : (w j k : ℕ) → j < k → w * j + w ≤ w * k
apart w j k h = let q : w * (j + 1) ≤ w * k = mul-le-mul_left w (omega (arith, h)) in omega (arith, q)

-- a region as a part that is lent, and the column with ys for it, as that comes back
abbrev pub lent : {A : Type 0} → ℕ → ℕ → List A → List A
lent w k xs = take (w * k + w - w * k) (drop (w * k) xs)

abbrev pub back : {A : Type 0} → ℕ → ℕ → List A → List A → List A
back w k xs ys = take (w * k) xs ++ (ys ++ drop (w * k + w - w * k) (drop (w * k) xs))

pub lent_region : {A : Type 0} (w k : ℕ) (xs : List A) → lent w k xs ≡ region w k xs
unfolding region
lent_region w k xs = ap (λ (n : ℕ). take n (drop (w * k) xs)) (let z : w * k + w - w * k ≡ w = omega arith in z)

module _ {A : Type 0} (w k : ℕ) (xs ys : List A) (fits : w * k + w ≤ length xs) (as_long : length ys ≡ w) where
  before : length (take (w * k) xs) ≡ w * k
  before = length-take-le (w * k) xs (omega (arith, fits))

  pub back_here : region w k (back w k xs ys) ≡ ys
  unfolding region
  back_here =
      ap (take w) (drop_at (take (w * k) xs) (ys ++ drop (w * k + w - w * k) (drop (w * k) xs)) (w * k) before)
      ∙ take_at ys (drop (w * k + w - w * k) (drop (w * k) xs)) w as_long

  rest : drop (w * k + w) (back w k xs ys) ≡ drop (w * k + w) xs
  rest =
      sym (drop-drop w (w * k) (back w k xs ys))
      ∙ ap (drop w) (drop_at (take (w * k) xs) (ys ++ drop (w * k + w - w * k) (drop (w * k) xs)) (w * k) before)
      ∙ drop_at ys (drop (w * k + w - w * k) (drop (w * k) xs)) w as_long
      ∙ drop-drop (w * k + w - w * k) (w * k) xs
      ∙ ap (λ (i : ℕ). drop i xs) (let q : w * k + (w * k + w - w * k) ≡ w * k + w = omega arith in q)

  pub back_length : length (back w k xs ys) ≡ length xs
  back_length =
      let a = length-append (take (w * k) xs) (ys ++ drop (w * k + w - w * k) (drop (w * k) xs)) in
      let b = length-append ys (drop (w * k + w - w * k) (drop (w * k) xs)) in
      let c = length-drop (w * k + w - w * k) (drop (w * k) xs) in
      let d = length-drop (w * k) xs in
      omega (arith, a, b, c, d, before, fits, as_long)

  pub back_beside : (j : ℕ) → (j ≡ k → ⊥) → region w j (back w k xs ys) ≡ region w j xs
  back_beside j n = go (ltb j k) refl
    where
      go : (t : Bool) → ltb j k ≡ t → region w j (back w k xs ys) ≡ region w j xs
      go true e =
          region_front w j (take (w * k) xs) (ys ++ drop (w * k + w - w * k) (drop (w * k) xs)) (drop (w * k) xs)
          (omega (arith, apart w j k (ltb-true j k e), before))
          ∙ ap (region w j) (take-append-drop (w * k) xs)
      go false e =
          let l = ltb-false j k e in
          let m : k < j = omega (arith, l, n) in
          region_behind w j (w * k + w) (back w k xs ys) xs (apart w k j m) rest
