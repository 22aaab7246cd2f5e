-- Looking at the first m elements one by one: those still to be looked at decide, so one that fails ends the scan. Assumes nothing.
use mathlib.Core.Path.{◌≡◌, sym, ap, ◌∙◌}
use mathlib.Core.Bool.{Bool, true, false, ◌&&◌}
use mathlib.Core.List.{List}
use Prim.Native.Nat.{ℕ, ◌+◌, ◌≤◌, ◌<◌}
use native.Mathlib.Numerals.{add-one}
use lib.ListN.{length, get_or}
use lib.Seq.{slice, slice-cons}
use Rattle.handed.specs.Check.{all}

module _ {A : Type 0} (test : A → Bool) (xs : List A) (m : ℕ) where
  module _ (k : ℕ) (d : A) (whole b : Bool) (h : k < m) (l : m ≤ length xs) (g : all test (slice k m xs) ≡ whole) (t : b ≡ test (get_or xs k d)) where
    next : all test (slice k m xs) ≡ (b && all test (slice (k + 1) m xs))
    unfolding all
    next = ap (all test) (slice-cons k m xs d h l) ∙ ap (λ (j : ℕ). test (get_or xs k d) && all test (slice j m xs)) (sym (add-one k)) ∙ rw t

    pub scan_fails : b ≡ false → false ≡ whole
    scan_fails f = sym (sym g ∙ next ∙ rw f)

    pub scan_more : b ≡ true → all test (slice (k + 1) m xs) ≡ whole
    scan_more f = sym (next ∙ rw f) ∙ g
