-- `end_at` lends the regions of a part. Assumes nothing.
use Rattle.std.proofs.Common.{◌∙◌, rules}
use Rattle.layout.proofs.Longest.{lent_end}
use Rattle.layout.proofs.Regions.{region_again}
use Rattle.layout.proofs.parts.end_at.Goals as goal

pub returns : goal.returns
returns c =
    let g = c.args in
    c.part_end.ensures ∙ lent_end g.rate g.releases.now g.count g.k _ _ _ _ (search rules) (search (rules, region_again))
