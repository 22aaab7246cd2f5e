-- The largest end of the parts, while code goes through them. Assumes nothing.
use mathlib.Core.Path.{◌≡◌, sym, ap, ap₂, ◌∙◌}
use mathlib.Core.List.{List}
use Prim.Native.Nat.{ℕ, suc, ◌+◌, ◌-◌, ◌≤◌, ◌<◌, max, min}
use native.Mathlib.Omega.{arith}
use lib.ListN.{length, take, get_or}
use lib.Ieee.{Float}
use Rattle.sheet.proofs.Basics.{take_least}
use Rattle.columns.specs.Columns.{notes_in}
use Rattle.sheet.specs.Lengths.{end_of}
use Rattle.layout.specs.Layout.{notes_at, longest_from}
use Rattle.layout.specs.Regions.{region}
use Rattle.layout.proofs.Cuts.{region_length}

-- a region has no more notes than there is room for
region_least : (count k : ℕ) (is : List ℕ) → take (min count 2048) (region 2048 k is) ≡ take count (region 2048 k is)
region_least count k is =
    let js = region 2048 k is in
    let z : min (min count 2048) (length js) ≡ min count (length js) = omega (arith, region_length 2048 k is) in
    sym (take_least (min count 2048) js) ∙ ap (λ (j : ℕ). take j js) z ∙ take_least count js

-- the end of a part whose regions are lent
pub lent_end : (rate : ℕ) (releases : List Float) (count k : ℕ) (fs gs : List Float) (is js : List ℕ) → gs ≡ region 6144 k fs → js ≡ region 2048 k is
    → end_of rate releases 0 (notes_in gs (take (min count 2048) js)) ≡ end_of rate releases 0 (notes_in (region 6144 k fs) (take count (region 2048 k is)))
lent_end rate releases count k fs gs is js f i =
    ap₂ (λ (xs : List Float) (ys : List ℕ). end_of rate releases 0 (notes_in xs ys)) f (ap (take (min count 2048)) i ∙ region_least count k is)

module _ (counts : List ℕ) (fs : List Float) (is : List ℕ) (rate : ℕ) (releases : List Float) (most : ℕ) where
  -- `end` is the largest end of the parts before k: with those from k on it comes to the largest of all
  pub record Longest (k end : ℕ) : Type 0 where
    whole : max end (longest_from counts fs is rate releases k (most - k)) ≡ longest_from counts fs is rate releases 0 most

  pub longest_start : Longest 0 0
  longest_start =
      let z : most - 0 ≡ most = omega arith in
      record { whole = omega (arith, ap (longest_from counts fs is rate releases 0) z) }

  module _ (k end : ℕ) (g : Longest k end) where
    pub longest_more : (ends next : ℕ) → k < most
        → ends ≡ end_of rate releases 0 (notes_in (region 6144 k fs) (take (get_or counts k 0) (region 2048 k is)))
        → next ≡ max end ends → Longest (k + 1) next
    unfolding longest_from notes_at
    longest_more ends next h e m =
        let z : most - k ≡ suc (most - (k + 1)) = omega arith in
        let here : longest_from counts fs is rate releases k (most - k) ≡ max (end_of rate releases 0 (notes_at counts fs is k)) (longest_from counts fs is rate releases (k + 1) (most - (k + 1))) =
        ap (longest_from counts fs is rate releases k) z in
        record { whole = omega (arith, here, e, m, g.whole) }

    pub longest_end : most ≤ k → end ≡ longest_from counts fs is rate releases 0 most
    unfolding longest_from
    longest_end h =
        let z : most - k ≡ 0 = omega arith in
        let none : longest_from counts fs is rate releases k (most - k) ≡ 0 = ap (longest_from counts fs is rate releases k) z in
        omega (arith, none, g.whole)
