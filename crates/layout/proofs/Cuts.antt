-- Regions of a column: how long a region is, and where in the column its elements stand. Assumes nothing.
use mathlib.Core.Path.{◌≡◌, ap, ◌∙◌}
use mathlib.Core.List.{List}
use Prim.Native.Nat.{ℕ, ◌+◌, ◌-◌, ◌*◌, ◌<◌, min}
use native.Mathlib.Omega.{arith}
use lib.ListN.{length, drop, get_or, length-take, length-drop}
use lib.Seq.{get_or-take, get_or-drop}
use Rattle.layout.specs.Regions.{region}

pub region_length : {A : Type 0} (w k : ℕ) (xs : List A) → length (region w k xs) ≡ min w (length xs - w * k)
unfolding region
region_length w k xs = length-take w (drop (w * k) xs) ∙ ap (min w) (length-drop (w * k) xs)

pub region_get : {A : Type 0} (w k : ℕ) (xs : List A) (j at : ℕ) (d : A) → j < w → at ≡ w * k + j → get_or (region w k xs) j d ≡ get_or xs at d
unfolding region
region_get w k xs j at d h e =
    get_or-take w (drop (w * k) xs) j d h ∙ get_or-drop (w * k) xs j d ∙ ap (λ (i : ℕ). get_or xs i d) (let z : w * k + j ≡ at = omega (arith, e) in z)
