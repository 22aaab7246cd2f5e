-- The release of a note's instrument: within the instruments that the sheet counts it is the one of the table, and past them no number, since the
-- table is read at a place inside it either way. Assumes nothing.
use mathlib.Core.Path.{◌≡◌, refl, sym, ap, ◌∙◌}
use mathlib.Core.Bool.{Bool, true, false}
use mathlib.Core.List.{List, [], ◌∷◌}
use Prim.Native.Nat.{ℕ, zero, suc, ◌≤◌, ◌<◌, min}
use native.Mathlib.Omega.{arith}
use lib.Dec.{ltb}
use lib.ListN.{length, take, get_or, length-take, length-map, get_or-eq_default}
use lib.Seq.{get_or-take}
use lib.Ieee.{Float, nan}
use borrow.Author.Tests.{ltb-true, ltb-false}
use Rattle.instrument.specs.declared.machine.Instrument.{Instrument}
use Rattle.sheet.specs.Parts.{releases_of}

-- within a list it makes no difference what stands past its end
pub releases_at : (is : List Instrument) (k : ℕ) (d : Instrument) → k < length is → get_or (releases_of is) k nan ≡ (get_or is k d).release
unfolding releases_of
releases_at [] k d h = absurd (omega (arith, h))
releases_at (i ∷ is) zero d h = refl
releases_at (i ∷ is) (suc k) d h = releases_at is k d (omega (arith, h))

pub releases_past : (is : List Instrument) (k : ℕ) → length is ≤ k → get_or (releases_of is) k nan ≡ nan
unfolding releases_of
releases_past is k h = get_or-eq_default (releases_of is) nan (omega (arith, h, length-map is (λ (i : Instrument). i.release)))

module _ (table : List Instrument) (has : ℕ) (l : length table ≡ 32) where
  pub instruments_are : (most : ℕ) → most ≡ min has 32 → most ≡ length (take has table)
  instruments_are most e = omega (arith, e, l, length-take has table)

  module _ (most k at : ℕ) (d : Instrument) (r : Float) (m : most ≡ min has 32) (a : at ≡ min k 31) where
    found : (b : Bool) → ltb k most ≡ b → r ≡ elim b as (λ b. Float) [ true ↦ (get_or table at d).release | false ↦ nan ]
        → r ≡ get_or (releases_of (take has table)) k nan
    found true e q =
        let h : k < most = omega (arith, ltb-true k most e) in
        let z : at ≡ k = omega (arith, a, h, m) in
        q
        ∙ ap (λ (j : ℕ). (get_or table j d).release) z
        ∙ ap (λ (i : Instrument). i.release) (sym (get_or-take has table k d (omega (arith, h, m))))
        ∙ sym (releases_at (take has table) k d (omega (arith, h, instruments_are most m)))
    found false e q = q ∙ sym (releases_past (take has table) k (omega (arith, ltb-false k most e, instruments_are most m)))

    pub release_is : r ≡ elim (ltb k most) as (λ b. Float) [ true ↦ (get_or table at d).release | false ↦ nan ] → r ≡ get_or (releases_of (take has table)) k nan
    release_is q = found (ltb k most) refl q
