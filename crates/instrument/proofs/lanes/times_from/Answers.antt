-- `times_from` gives each lane the time of its sample. Assumes nothing.
use Rattle.std.proofs.Common.{◌≡◌, ℕ, ◌≤◌, ◌+◌, ℤ, pos, ap, ◌∙◌, arith, w32, to_z, rules}
use mir.ValLaws.{to_z_pos}
use lib.Ieee.{nan, binary32, mul, of_int}
use Rattle.sine.proofs.LaneLaws.{lanes_as}
use Rattle.instrument.specs.Lanes.{timed}
use Rattle.instrument.proofs.lanes.times_from.Goals as goal

-- a number of a sample is read as it is where it is signed
signed : (n : ℕ) → n ≤ 16777216 → to_z w32 n ≡ pos n
signed n h = to_z_pos w32 n (omega arith)

pub returns : goal.returns
unfolding timed
returns c =
    let a = c.args in
    lanes_as _ (timed a.first a.unit) nan _ _ _ (λ j x y l k.
    let q : y ≡ mul binary32 (of_int binary32 (to_z w32 (a.first + j))) a.unit = search rules in
    q ∙ ap (λ (z : ℤ). mul binary32 (of_int binary32 z) a.unit) (signed (a.first + j) (omega (arith, l, c.requires)))) (c.each_lane.ensures nan)
