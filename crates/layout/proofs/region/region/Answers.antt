-- `region` cuts the beginning and the end of a region at the end of the column. Assumes nothing.
use Rattle.std.proofs.Common.{◌≡◌, ◌*◌, ℕ, List, min, length, take, drop, ap, ◌∙◌, arith}
use Rattle.std.proofs.lemmas.List.{take_rest}
use Rattle.sheet.proofs.Basics.{take_least, drop_least}
use Rattle.layout.specs.Regions.{region}
use Rattle.layout.proofs.region.region.Goals as goal

-- what is left behind a place that is cut at the end, and the front of that which is cut at its end
cut_region : {A : Type 0} (w k from many : ℕ) (xs behind : List A) → from ≡ min (w * k) (length xs) → behind ≡ drop from xs → many ≡ min w (length behind)
    → take many behind ≡ region w k xs
unfolding region
cut_region w k from many xs behind f b m =
    let there : behind ≡ drop (w * k) xs = b ∙ ap (λ (j : ℕ). drop j xs) f ∙ drop_least (w * k) xs in
    ap (λ (j : ℕ). take j behind) m ∙ take_least w behind ∙ ap (take w) there

pub returns : goal.returns
returns g c =
    let from : c.min-from.result ≡ min (c.args.width * c.args.k) (length c.args.column.now) = omega arith in
    cut_region c.args.width c.args.k c.min-from.result c.min.result c.args.column.now _ from (take_rest c.args.column.now c.min-from.result) c.min.ensures
