-- An array that is filled with the elements of a list from the first on. Assumes nothing.
use mathlib.Core.Path.{◌≡◌, sym, ap, ap₂, ◌∙◌}
use mathlib.Core.List.{List, [], ◌∷◌, ◌++◌}
use Prim.Native.Nat.{ℕ, ◌+◌, ◌<◌}
use native.Mathlib.Nat.{le_of_lt}
use native.Mathlib.Numerals.{add-one}
use native.Mathlib.Omega.{arith}
use lib.ListN.{length, take, get_or, set}
use lib.Seq.{take-suc, length-take-le}
use Rattle.sheet.proofs.Padded.{padded_set}
use Rattle.sheet.specs.Padding.{padded}

-- the next element of the list takes the place of the first that says nothing
pub filled_next : {A : Type 0} (m : ℕ) (z d : A) (xs ys : List A) (n : ℕ) (x : A) → n < length xs → n < m → x ≡ get_or xs n d → ys ≡ padded m z (take n xs)
    → set ys n x ≡ padded m z (take (n + 1) xs)
filled_next m z d xs ys n x h k e f =
    let there : length (take n xs) ≡ n = length-take-le n xs (le_of_lt h) in
    let next : take n xs ++ (x ∷ []) ≡ take (n + 1) xs =
    ap (λ (y : _). take n xs ++ (y ∷ [])) e ∙ sym (take-suc xs n d h) ∙ ap (λ (j : ℕ). take j xs) (sym (add-one n)) in
    ap₂ (λ (l : List _) (j : ℕ). set l j x) f (sym there) ∙ padded_set m z x (take n xs) (omega (arith, there, k)) ∙ ap (padded m z) next
