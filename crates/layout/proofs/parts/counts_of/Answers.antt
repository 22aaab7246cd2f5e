-- `counts_of` copies the counts in front into an array of 0. Assumes nothing.
use Rattle.std.proofs.Common.{◌≡◌, ◌++◌, ◌-◌, ℕ, List, min, length, take, drop, ap, ap₂, ◌∙◌, arith, length-take}
use Rattle.std.proofs.lemmas.List.{drop-replicate}
use lib.ListN.{replicate}
use Rattle.sheet.proofs.Basics.{take_least}
use Rattle.sheet.specs.Padding.{padded}
use Rattle.layout.proofs.parts.counts_of.Goals as goal

front_copied : (parts many : ℕ) (counts front : List ℕ) → length counts ≡ 16 → many ≡ min parts 16 → front ≡ take many counts
    → front ++ drop {A = ℕ} many (replicate 16 0) ≡ padded 16 0 (take parts counts)
unfolding padded
front_copied parts many counts front e m f =
    let taken : front ≡ take parts counts = f ∙ ap (λ (j : ℕ). take j counts) (let z : many ≡ min parts (length counts) = omega (arith, e, m) in z) ∙ take_least parts counts in
    let long : many ≡ length (take parts counts) = omega (arith, e, m, length-take parts counts) in
    ap₂ ◌++◌ taken (drop-replicate many 16 0 ∙ ap (λ (j : ℕ). replicate (16 - j) 0) long)

pub returns : goal.returns
returns c =
    front_copied c.args.parts c.min-many.result c.args.counts _ c.well_formed.0.1.0.1 c.min-many.ensures c.copy_from_slice.ensures.after
