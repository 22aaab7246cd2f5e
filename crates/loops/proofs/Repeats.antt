-- Laws of laying the end of a list down again and again behind itself: what copies of a list hold at a place, which copies and front of one more a
-- front of them is, what is laid down where, and what the loop that copies element after element keeps. Assumes nothing.
use mathlib.Core.Path.{◌≡◌, refl, sym, ap, ap₂, ◌∙◌}
use mathlib.Core.List.{List, [], ◌∷◌, ◌++◌, append_assoc, append-nil}
use Prim.Native.Nat.{ℕ, zero, suc, ◌+◌, ◌-◌, ◌*◌, ◌≤◌, ◌<◌, max}
use native.Mathlib.Nat.{zero-mul, mul-le-mul_left}
use native.Mathlib.Numerals.{add-one}
use native.Mathlib.Omega.{arith}
use lib.ListN.{length, take, drop, get_or, set, length-append, length-drop, length-set, take-append-drop, get_or-append}
use lib.Seq.{length-take-le, take-suc, take-suc-set, take-take, take-append-le, take-append-add, take_at, drop-drop, drop-set-lt, get_or-take, get_or-append-add}
use borrow.Author.Tests.{lt-ltb, le-ltb, le-leb, lt-leb}
use Rattle.loops.specs.Loops.{copies}
use Rattle.loops.specs.Again.{again, laid_again}

-- ---- copies of a list

pub copies_length : {A : Type 0} (k : ℕ) (xs : List A) → length (copies k xs) ≡ k * length xs
unfolding copies
copies_length zero xs = sym (zero-mul (length xs))
copies_length (suc k) xs =
    length-append xs (copies k xs) ∙ ap (λ (j : ℕ). length xs + j) (copies_length k xs) ∙ (let e : length xs + k * length xs ≡ suc k * length xs = omega arith in e)

-- one more may stand last as well as first
copies_turn : {A : Type 0} (k : ℕ) (xs : List A) → xs ++ copies k xs ≡ copies k xs ++ xs
unfolding copies
copies_turn zero xs = append-nil xs
copies_turn {A} (suc k) xs = ap (λ (ys : List A). xs ++ ys) (copies_turn k xs) ∙ sym (append_assoc xs (copies k xs) xs)

-- so an element stands again a length further on
copies_period : {A : Type 0} (k : ℕ) (xs : List A) (j : ℕ) (z : A) → j < k * length xs
    → get_or (copies (suc k) xs) (length xs + j) z ≡ get_or (copies (suc k) xs) j z
unfolding copies
copies_period {A} k xs j z h =
    get_or-append-add xs (copies k xs) j z
    ∙ sym (ap (λ (ys : List A). get_or ys j z) (copies_turn k xs) ∙ get_or-append (copies k xs) xs z j (omega (arith, copies_length k xs)))

-- a front of copies is fewer copies and a front of one more
copies_front : {A : Type 0} (k more : ℕ) (xs : List A) (l : ℕ) → l ≤ length xs → take (k * length xs + l) (copies (k + suc more) xs) ≡ copies k xs ++ take l xs
unfolding copies
copies_front {A} zero more xs l h =
    let e : 0 * length xs + l ≡ l = omega arith in
    let f : 0 + suc more ≡ suc more = omega arith in
    ap₂ (λ (a b : ℕ). take a (copies b xs)) e f ∙ take-append-le l xs (copies more xs) h
copies_front {A} (suc k) more xs l h =
    let e : suc k * length xs + l ≡ length xs + (k * length xs + l) = omega arith in
    let f : suc k + suc more ≡ suc (k + suc more) = omega arith in
    ap₂ (λ (a b : ℕ). take a (copies b xs)) e f
    ∙ take-append-add xs (copies (k + suc more) xs) (k * length xs + l)
    ∙ ap (λ (ys : List A). xs ++ ys) (copies_front k more xs l h)
    ∙ sym (append_assoc xs (copies k xs) (take l xs))

-- ---- the elements from `start` to n, again and again

-- without an end
pub onward : {A : Type 0} → ℕ → ℕ → ℕ → List A → List A
onward start n end xs = take start xs ++ copies (end + 1) (drop start (take n xs))

module _ {A : Type 0} (xs : List A) (start n end : ℕ) (some : start < n) (inside : n ≤ length xs) where
  front_length : length (take start xs) ≡ start
  front_length = length-take-le start xs (omega arith)

  body_length : length (drop start (take n xs)) ≡ n - start
  body_length = length-drop start (take n xs) ∙ ap (λ (k : ℕ). k - start) (length-take-le n xs inside)

  many : (k : ℕ) → k ≤ k * length (drop start (take n xs))
  many k =
      let B = drop start (take n xs) in
      let e : 1 ≤ length B = omega (arith, body_length) in
      let m : k * 1 ≤ k * length B = mul-le-mul_left k e in
      omega arith

  onward_length : max n end ≤ length (onward start n end xs)
  unfolding onward
  onward_length =
      let B = drop start (take n xs) in
      omega (arith, front_length, body_length, length-append (take start xs) (copies (end + 1) B), copies_length (end + 1) B, many (end + 1))

  onward_front : take n (onward start n end xs) ≡ take n xs
  unfolding onward copies
  onward_front =
      let F = take start xs in
      let B = drop start (take n xs) in
      ap (λ (k : ℕ). take n (F ++ copies k B)) (add-one end)
      ∙ ap (take n) (sym (append_assoc F B (copies end B)))
      ∙ ap (λ (ys : List A). take n ((ys ++ B) ++ copies end B)) (sym (take-take start n xs (omega arith)))
      ∙ ap (λ (ys : List A). take n (ys ++ copies end B)) (take-append-drop start (take n xs))
      ∙ take_at (take n xs) (copies end B) n (length-take-le n xs inside)

  onward_period : (to : ℕ) (z : A) → n ≤ to → to < end → get_or (onward start n end xs) to z ≡ get_or (onward start n end xs) (to - (n - start)) z
  unfolding onward
  onward_period to z h l =
      let F = take start xs in
      let B = drop start (take n xs) in
      let C = copies (end + 1) B in
      let j = to - n in
      let a : to ≡ length F + (length B + j) = omega (arith, front_length, body_length) in
      let b : length F + j ≡ to - (n - start) = omega (arith, front_length) in
      ap (λ (k : ℕ). get_or (F ++ C) k z) a
      ∙ get_or-append-add F C (length B + j) z
      ∙ ap (λ (k : ℕ). get_or (copies k B) (length B + j) z) (add-one end)
      ∙ copies_period end B j z (omega (arith, many end))
      ∙ ap (λ (k : ℕ). get_or (copies k B) j z) (sym (add-one end))
      ∙ sym (get_or-append-add F C j z)
      ∙ ap (λ (k : ℕ). get_or (F ++ C) k z) b

  -- so many whole passes, and a front of one more
  onward_passes : (passes last : ℕ) → last ≤ n - start → end ≡ start + passes * (n - start) + last
      → take end (onward start n end xs) ≡ take start xs ++ (copies passes (drop start (take n xs)) ++ take last (drop start (take n xs)))
  unfolding onward
  onward_passes passes last h e =
      let F = take start xs in
      let B = drop start (take n xs) in
      let m : passes * length B ≡ passes * (n - start) = ap (λ (k : ℕ). passes * k) body_length in
      let a : end ≡ length F + (passes * length B + last) = omega (arith, front_length) in
      let p : passes ≤ passes * length B = many passes in
      let b : end + 1 ≡ passes + suc (end - passes) = omega arith in
      ap₂ (λ (i k : ℕ). take i (F ++ copies k B)) a b
      ∙ take-append-add F (copies (passes + suc (end - passes)) B) (passes * length B + last)
      ∙ ap (λ (ys : List A). F ++ ys) (copies_front passes (end - passes) B last (omega (arith, body_length)))

-- ---- where they are laid down, and where not

module _ {A : Type 0} (xs : List A) (start n end : ℕ) where
  pub laid_none : n ≤ start → xs ≡ laid_again start n end xs
  unfolding laid_again
  laid_none h = rw (le-ltb start n h, laid_again)

  module _ (some : start < n) where
    pub laid_long : length xs < n → xs ≡ laid_again start n end xs
    unfolding laid_again
    laid_long h = rw (lt-ltb start n some, laid_again, lt-leb n (length xs) h)

    module _ (inside : n ≤ length xs) where
      pub laid_far : length xs < end → xs ≡ laid_again start n end xs
      unfolding laid_again
      laid_far h = rw (lt-ltb start n some, laid_again, le-leb n (length xs) inside, lt-leb end (length xs) h)

      module _ (fits : end ≤ length xs) where
        laid_is : laid_again start n end xs ≡ take (max n end) (onward start n end xs) ++ drop (max n end) xs
        unfolding laid_again again onward
        laid_is = rw (lt-ltb start n some, laid_again, le-leb n (length xs) inside, le-leb end (length xs) fits)

        laid_front : length (take (max n end) (onward start n end xs)) ≡ max n end
        laid_front = length-take-le (max n end) (onward start n end xs) (omega (arith, onward_length xs start n end some inside))

        pub laid_length : length (laid_again start n end xs) ≡ length xs
        laid_length =
            let Z = take (max n end) (onward start n end xs) in
            let R = drop (max n end) xs in
            let e : length Z + length R ≡ length xs = omega (arith, laid_front, length-drop (max n end) xs) in
            ap length laid_is ∙ length-append Z R ∙ e

        -- so many whole passes, and a front of one more
        pub laid_passes : (passes last : ℕ) → last ≤ n - start → end ≡ start + passes * (n - start) + last
            → take end (laid_again start n end xs) ≡ take start xs ++ (copies passes (drop start (take n xs)) ++ take last (drop start (take n xs)))
        laid_passes passes last h e =
            let Z = onward start n end xs in
            ap (take end) laid_is
            ∙ take-append-le end (take (max n end) Z) (drop (max n end) xs) (omega (arith, laid_front))
            ∙ take-take end (max n end) Z (omega arith)
            ∙ onward_passes xs start n end some inside passes last h e

-- ---- the loop

pub record Repeating {A : Type 0} (xs₀ : List A) (start n end : ℕ) (xs : List A) (to : ℕ) : Type 0 where
  pub low : n ≤ to
  pub high : to ≤ n + (end - n)
  pub long : length xs ≡ length xs₀
  pub front : take to xs ≡ take to (onward start n end xs₀)
  pub rest : drop to xs ≡ drop to xs₀

module _ {A : Type 0} (xs₀ : List A) (start n end : ℕ) (some : start < n) (inside : n ≤ length xs₀) (fits : end ≤ length xs₀) where
  pub repeat_start : Repeating xs₀ start n end xs₀ n
  repeat_start = record { low = omega arith; high = omega arith; long = refl; front = sym (onward_front xs₀ start n end some inside); rest = refl }

  pub repeat_more : (xs : List A) (to : ℕ) (y z : A) → Repeating xs₀ start n end xs to → to < end → y ≡ get_or xs (to - (n - start)) z
      → Repeating xs₀ start n end (set xs to y) (to + 1)
  repeat_more xs to y z w h e =
      let Z = onward start n end xs₀ in
      let k = to - (n - start) in
      let x : y ≡ get_or Z to z =
      e
      ∙ sym (get_or-take to xs k z (omega arith))
      ∙ ap (λ (ys : List A). get_or ys k z) w.front
      ∙ get_or-take to Z k z (omega arith)
      ∙ sym (onward_period xs₀ start n end some inside to z w.low h) in
      record {
        low = omega arith;
        high = omega arith;
        long = length-set xs to y ∙ w.long;
        front =
            ap (λ (j : ℕ). take j (set xs to y)) (add-one to)
            ∙ take-suc-set xs to y (omega (arith, w.long))
            ∙ ap₂ (λ (ys : List A) (u : A). ys ++ (u ∷ [])) w.front x
            ∙ sym (take-suc Z to z (omega (arith, onward_length xs₀ start n end some inside)))
            ∙ ap (λ (j : ℕ). take j Z) (sym (add-one to));
        rest =
            drop-set-lt (to + 1) xs to y (omega arith)
            ∙ sym (drop-drop 1 to xs)
            ∙ ap (drop 1) w.rest
            ∙ drop-drop 1 to xs₀;
      }

  pub repeat_end : (xs : List A) (to : ℕ) → Repeating xs₀ start n end xs to → end ≤ to → xs ≡ laid_again start n end xs₀
  repeat_end xs to w h =
      let e : to ≡ max n end = omega arith in
      sym (take-append-drop to xs)
      ∙ ap₂ (λ (ys zs : List A). ys ++ zs) w.front w.rest
      ∙ ap (λ (j : ℕ). take j (onward start n end xs₀) ++ drop j xs₀) e
      ∙ sym (laid_is xs₀ start n end some inside fits)
