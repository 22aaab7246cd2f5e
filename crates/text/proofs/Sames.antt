-- Laws of texts that are the same: texts of different lengths are not, and those of one length are compared place by
-- place. The library's test of two texts is the definition's. Assumes nothing.
use mathlib.Core.Path.{◌≡◌, refl, ap, ap₂, ◌∙◌}
use mathlib.Core.Bool.{Bool, true, false, ◌&&◌, and-false}
use mathlib.Core.List.{List, [], ◌∷◌}
use Prim.Native.Nat.{ℕ, suc, ◌+◌, ◌≤◌, ◌<◌}
use native.Mathlib.Numerals.{add-one}
use lib.Dec.{eqb}
use lib.ListN.{length, drop, get_or, drop_of_length-le}
use lib.Pointwise.{pointwise}
use lib.Seq.{drop-cons}
use borrow.Author.Tests.{eq-eqb, ne_eqb}
use Rattle.text.specs.Characters.{same}

-- different lengths
pub same_lengths : (s t : List ℕ) → (length s ≡ length t → ⊥) → same s t ≡ false
unfolding same
same_lengths [] [] h = absurd (h refl)
same_lengths [] (b ∷ t) h = refl
same_lengths (a ∷ s) [] h = refl
same_lengths (a ∷ s) (b ∷ t) h =
    ap (λ (x : Bool). eqb a b && x) (same_lengths s t (λ (e : length s ≡ length t). h (ap suc e))) ∙ and-false (eqb a b)

-- what is left to compare from a place on
module _ (s t : List ℕ) (at : ℕ) where
  cons : at < length s → at < length t → same (drop at s) (drop at t) ≡ (eqb (get_or s at 0) (get_or t at 0) && same (drop (at + 1) s) (drop (at + 1) t))
  unfolding same
  cons h i = rw (add-one, drop-cons s at 0 h, drop-cons t at 0 i)

  -- the bytes there are the same
  pub same_more : at < length s → at < length t → get_or s at 0 ≡ get_or t at 0 → same (drop at s) (drop at t) ≡ same (drop (at + 1) s) (drop (at + 1) t)
  same_more h i e = cons h i ∙ ap (λ (x : Bool). x && same (drop (at + 1) s) (drop (at + 1) t)) (eq-eqb (get_or s at 0) (get_or t at 0) e)

  -- they are not
  pub same_apart : at < length s → at < length t → (get_or s at 0 ≡ get_or t at 0 → ⊥) → same (drop at s) (drop at t) ≡ false
  same_apart h i e = cons h i ∙ ap (λ (x : Bool). x && same (drop (at + 1) s) (drop (at + 1) t)) (ne_eqb (get_or s at 0) (get_or t at 0) e)

  -- nothing is left
  pub same_end : length s ≤ at → length t ≤ at → same (drop at s) (drop at t) ≡ true
  unfolding same
  same_end h i = ap₂ same (drop_of_length-le s h) (drop_of_length-le t i)

-- the library's test
pub pointwise_same : (s t : List ℕ) → pointwise eqb s t ≡ same s t
unfolding same
pointwise_same [] [] = refl
pointwise_same [] (b ∷ t) = refl
pointwise_same (a ∷ s) [] = refl
pointwise_same (a ∷ s) (b ∷ t) = ap (λ (x : Bool). eqb a b && x) (pointwise_same s t)
