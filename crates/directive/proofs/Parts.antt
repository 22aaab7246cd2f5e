-- A directive carried out on one environment after the other: the first ones are changed, the rest are not yet. Assumes nothing.
use mathlib.Core.Path.{◌≡◌, refl, sym, ap, ◌∙◌}
use mathlib.Core.List.{List, [], ◌∷◌, ◌++◌}
use Prim.Native.Nat.{ℕ, zero, suc, ◌+◌, ◌<◌, min}
use native.Mathlib.Omega.{arith}
use lib.ListN.{length, take, drop, get_or, set}
use Rattle.std.specs.Prelude.{Result}
use Rattle.environment.specs.declared.environment.Environment.{Environment}
use Rattle.directive.specs.declared.directive.Directive.{Directive}
use Rattle.directive.specs.Directives.{applied, applied_to}

module _ {E : Type 0} (d : Result Directive E) where
  pub none_applied : (es : List Environment) → es ≡ applied_to d 0 es
  unfolding applied_to
  none_applied es = refl

  step : (n : ℕ) (e : Environment) (es : List Environment) → applied_to d (suc n) (e ∷ es) ≡ applied d e ∷ applied_to d n es
  unfolding applied_to
  step n e es = refl

  none_there : (n : ℕ) → applied_to d n [] ≡ []
  unfolding applied_to
  none_there zero = refl
  none_there (suc n) = refl

  pub applied_length : (n : ℕ) (es : List Environment) → length (applied_to d n es) ≡ length es
  applied_length zero es = ap length (sym (none_applied es))
  applied_length (suc n) [] = ap length (none_there (suc n))
  applied_length (suc n) (e ∷ es) = ap length (step n e es) ∙ ap suc (applied_length n es)

  -- one of the first
  pub applied_at : (n : ℕ) (es : List Environment) (j : ℕ) (x : Environment) → j < n → j < length es → get_or (applied_to d n es) j x ≡ applied d (get_or es j x)
  applied_at zero es j x h l = absurd (omega (arith, h))
  applied_at (suc n) [] j x h l = absurd (omega (arith, l))
  applied_at (suc n) (e ∷ es) zero x h l = ap (λ (a : List Environment). get_or a 0 x) (step n e es)
  applied_at (suc n) (e ∷ es) (suc j) x h l =
      ap (λ (a : List Environment). get_or a (suc j) x) (step n e es) ∙ applied_at n es j x (omega (arith, h)) (omega (arith, l))

  -- the next one is changed in its place
  pub applied_more : (i : ℕ) (es : List Environment) (x : Environment) → i < length es
      → set (applied_to d i es) i (applied d (get_or (applied_to d i es) i x)) ≡ applied_to d (i + 1) es
  applied_more i [] x h = absurd (omega (arith, h))
  applied_more zero (e ∷ es) x h =
      ap (λ (a : List Environment). set a 0 (applied d (get_or a 0 x))) (sym (none_applied (e ∷ es)))
      ∙ ap (λ (a : List Environment). applied d e ∷ a) (none_applied es)
      ∙ sym (step 0 e es)
  applied_more (suc i) (e ∷ es) x h =
      ap (λ (a : List Environment). set a (suc i) (applied d (get_or a (suc i) x))) (step i e es)
      ∙ ap (λ (a : List Environment). applied d e ∷ a) (applied_more i es x (omega (arith, h)))
      ∙ sym (step (i + 1) e es)
      ∙ ap (λ (n : ℕ). applied_to d n (e ∷ es)) (let z : suc (i + 1) ≡ suc i + 1 = omega arith in z)

  -- all of a front, and the rest as it was
  pub applied_front : (m : ℕ) (es : List Environment) → applied_to d (length (take m es)) (take m es) ++ drop m es ≡ applied_to d m es
  unfolding applied_to
  applied_front zero es = refl
  applied_front (suc m) [] = refl
  applied_front (suc m) (e ∷ es) = ap (λ (a : List Environment). applied d e ∷ a) (applied_front m es)

  -- there are no more than all
  pub applied_most : (n : ℕ) (es : List Environment) → applied_to d (min n (length es)) es ≡ applied_to d n es
  applied_most n [] = none_there (min n 0) ∙ sym (none_there n)
  applied_most zero (e ∷ es) = ap (λ (k : ℕ). applied_to d k (e ∷ es)) (let z : min 0 (suc (length es)) ≡ 0 = omega arith in z)
  applied_most (suc n) (e ∷ es) =
      ap (λ (k : ℕ). applied_to d k (e ∷ es)) (let z : min (suc n) (suc (length es)) ≡ suc (min n (length es)) = omega arith in z)
      ∙ step (min n (length es)) e es
      ∙ ap (λ (a : List Environment). applied d e ∷ a) (applied_most n es)
      ∙ sym (step n e es)
