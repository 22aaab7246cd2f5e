-- An array that is filled from the front: one more element in the place of the first that says nothing. Assumes nothing.
use mathlib.Core.Path.{◌≡◌, refl, sym, ap, ◌∙◌}
use mathlib.Core.List.{List, [], ◌∷◌, ◌++◌}
use Prim.Native.Nat.{ℕ, suc, ◌-◌, ◌<◌}
use native.Mathlib.Omega.{arith}
use lib.ListN.{length, set, replicate, length-append}
use lib.Seq.{set_at, append_snoc}
use Rattle.sheet.specs.Padding.{padded}

pub padded_set : {A : Type 0} (n : ℕ) (z x : A) (xs : List A) → length xs < n → set (padded n z xs) (length xs) x ≡ padded n z (xs ++ (x ∷ []))
unfolding padded
padded_set n z x xs h =
    let room : n - length xs ≡ suc (n - suc (length xs)) = omega arith in
    let long : suc (length xs) ≡ length (xs ++ (x ∷ [])) = omega (arith, length-append xs (x ∷ [])) in
    ap (λ (k : ℕ). set (xs ++ replicate k z) (length xs) x) room
    ∙ set_at xs z (replicate (n - suc (length xs)) z) x (length xs) refl
    ∙ sym (append_snoc xs x (replicate (n - suc (length xs)) z))
    ∙ ap (λ (k : ℕ). (xs ++ (x ∷ [])) ++ replicate (n - k) z) long
