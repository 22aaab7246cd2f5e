-- Facts of tests and of lists that the crates above share. Assumes nothing.
use mathlib.Core.Path.{◌≡◌, refl, ap, ◌∙◌}
use mathlib.Core.Bool.{Bool, true, false, ◌&&◌}
use mathlib.Core.List.{List, [], ◌∷◌}
use Prim.Native.Nat.{ℕ, zero, suc, min}
use native.Mathlib.Nat.{zero-min, min-zero, suc-min-suc}
use native.Mathlib.Omega.{arith}
use lib.ListN.{length, take, drop}

-- no test both fails and passes
pub false_true : {A : Type 0} → false ≡ true → A
false_true e = let z : ◌≡◌ {A = ℕ} 0 1 = ap (λ (x : Bool). elim x [ true ↦ 1 | false ↦ 0 ]) e in absurd (omega (arith, z))

-- two tests that pass together
pub both : (a b : Bool) → a && b ≡ true → (a ≡ true) × (b ≡ true)
both true b e = (refl, e)
both false b e = false_true e

-- as many elements as are asked for, or all
pub take_least : {A : Type 0} (m : ℕ) (xs : List A) → take (min m (length xs)) xs ≡ take m xs
take_least zero xs = ap (λ (k : ℕ). take k xs) (zero-min (length xs))
take_least (suc m) [] = ap {B = List _} (λ (k : ℕ). take k []) (min-zero (suc m))
take_least (suc m) (x ∷ xs) =
    ap (λ (k : ℕ). take k (x ∷ xs)) (suc-min-suc m (length xs)) ∙ ap {B = List _} (λ r. x ∷ r) (take_least m xs)

-- and what is left behind them
pub drop_least : {A : Type 0} (m : ℕ) (xs : List A) → drop (min m (length xs)) xs ≡ drop m xs
drop_least zero xs = ap (λ (k : ℕ). drop k xs) (zero-min (length xs))
drop_least (suc m) [] = ap {B = List _} (λ (k : ℕ). drop k []) (min-zero (suc m))
drop_least (suc m) (x ∷ xs) = ap (λ (k : ℕ). drop k (x ∷ xs)) (suc-min-suc m (length xs)) ∙ drop_least m xs
