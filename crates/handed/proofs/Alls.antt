-- A test of every element of a list is that test at every place of it. Assumes nothing.
use mathlib.Core.Path.{◌≡◌, refl, ap, ◌∙◌}
use mathlib.Core.Bool.{Bool, true, false, ◌&&◌}
use mathlib.Core.List.{List, [], ◌∷◌, ◌++◌}
use Prim.Native.Nat.{ℕ, zero, suc, ◌<◌}
use native.Mathlib.Omega.{arith}
use lib.ListN.{length, get_or}
use Rattle.sheet.proofs.Basics.{both}
use Rattle.handed.specs.Check.{all}

and_assoc : (a b c : Bool) → (a && (b && c)) ≡ ((a && b) && c)
and_assoc true b c = refl
and_assoc false b c = refl

module _ {A : Type 0} (test : A → Bool) where
  -- where all pass, each passes
  pub all_at : (xs : List A) (i : ℕ) (d : A) → all test xs ≡ true → i < length xs → test (get_or xs i d) ≡ true
  unfolding all
  all_at [] i d e h = absurd (omega (arith, h))
  all_at (x ∷ xs) zero d e h = (both (test x) (all test xs) e).0
  all_at (x ∷ xs) (suc i) d e h = all_at xs i d (both (test x) (all test xs) e).1 (omega (arith, h))

  -- and where each passes, all do
  pub all_of : (xs : List A) → ((i : ℕ) (d : A) → i < length xs → test (get_or xs i d) ≡ true) → all test xs ≡ true
  unfolding all
  all_of [] h = refl
  all_of (x ∷ xs) h = rw (h 0 x (omega arith)) (all_of xs (λ (i : ℕ) (d : A) (l : i < length xs). h (suc i) d (omega (arith, l))))

  -- of two lists one behind the other
  pub all_append : (xs ys : List A) → all test (xs ++ ys) ≡ (all test xs && all test ys)
  unfolding all
  all_append [] ys = refl
  all_append (x ∷ xs) ys = ap (λ (b : Bool). test x && b) (all_append xs ys) ∙ and_assoc (test x) (all test xs) (all test ys)
