-- A number cut to a list's length takes the same elements and leaves the same, and so does a part that begins within it. Assumes nothing.
use mathlib.Core.Path.{◌≡◌, sym, ap, ◌∙◌}
use mathlib.Core.List.{List}
use Prim.Native.Nat.{ℕ, ◌+◌, ◌-◌, ◌≤◌, min}
use lib.ListN.{length, take, drop, length-drop}
use lib.Seq.{slice, length-take-le, drop_at, take-add, drop-drop}
use Rattle.sheet.proofs.Basics.{take_least, drop_least}

module _ {A : Type 0} where
  pub take_cut : (xs : List A) (m n k : ℕ) → length xs ≡ n → k ≡ min m n → take k xs ≡ take m xs
  take_cut xs m n k l e = ap (λ (j : ℕ). take j xs) (e ∙ ap (min m) (sym l)) ∙ take_least m xs

  drop_cut : (xs : List A) (m n k : ℕ) → length xs ≡ n → k ≡ min m n → drop k xs ≡ drop m xs
  drop_cut xs m n k l e = ap (λ (j : ℕ). drop j xs) (e ∙ ap (min m) (sym l)) ∙ drop_least m xs

  -- c elements from n on, or those that there are, end at stop
  module _ (xs : List A) (n c m stop : ℕ) (h : n ≤ length xs) (f : m ≡ min c (length xs - n)) (e : stop ≡ n + m) where
    part_slice : take m (drop n xs) ≡ slice n (n + m) xs
    part_slice = sym (ap (drop n) (take-add n m xs) ∙ drop_at (take n xs) (take m (drop n xs)) n (length-take-le n xs h))

    pub part_taken : take c (drop n xs) ≡ slice n stop xs
    part_taken = sym (take_cut (drop n xs) c (length xs - n) m (length-drop n xs) f) ∙ part_slice ∙ ap (λ (s : ℕ). slice n s xs) (sym e)

    pub part_left : drop c (drop n xs) ≡ drop stop xs
    part_left = sym (drop_cut (drop n xs) c (length xs - n) m (length-drop n xs) f) ∙ drop-drop m n xs ∙ ap (λ (s : ℕ). drop s xs) (sym e)
