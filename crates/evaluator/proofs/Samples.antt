-- Samples one after the other: how many there are, and that they can be cut anywhere. Assumes nothing.
use mathlib.Core.Path.{◌≡◌, refl, sym, ap, ◌∙◌}
use mathlib.Core.List.{List, ◌∷◌, ◌++◌}
use Prim.Native.Nat.{ℕ, zero, suc, ◌+◌}
use native.Mathlib.Nat.{add-zero, zero-add, add-suc, suc-add}
use lib.ListN.{length}
use lib.Ieee.{Float}
use Rattle.mixing.specs.Sounding.{Placed}
use Rattle.evaluator.specs.Samples.{sample_at, value_of, samples_from}

module _ (ps : List Placed) where
  pub samples_length : (k n : ℕ) → length (samples_from ps k n) ≡ n
  unfolding samples_from
  samples_length k zero = refl
  samples_length k (suc n) = ap suc (samples_length (suc k) n)

  -- a samples, and b more from there on
  pub samples_append : (k a b : ℕ) → samples_from ps k (a + b) ≡ samples_from ps k a ++ samples_from ps (k + a) b
  unfolding samples_from
  samples_append k zero b = ap (samples_from ps k) (zero-add b) ∙ ap (λ (n : ℕ). samples_from ps n b) (sym (add-zero k))
  samples_append k (suc a) b =
      ap (samples_from ps k) (suc-add a b)
      ∙ ap (λ (l : List Float). value_of (sample_at ps k) ∷ l)
      (samples_append (suc k) a b ∙ ap (λ (n : ℕ). samples_from ps (suc k) a ++ samples_from ps n b) (suc-add k a ∙ sym (add-suc k a)))
