-- `mix_lanes` mixes each lane into its place in the slice (`Filling`). Assumes nothing.
use Rattle.std.proofs.Common.{◌+◌, length, get_or, ◌∙◌, arith, rules}
use Rattle.std.proofs.lemmas.List.Edits.{length-between}
use lib.Ieee.{nan, binary32, mul}
use Rattle.sine.proofs.LaneLaws.{lanes_as, lanes_to}
use Rattle.instrument.specs.Fill.{mixed}
use Rattle.instrument.proofs.Filling.{mixes_part}
use Rattle.instrument.proofs.lanes.mix_lanes.Goals as goal

pub returns : goal.returns
returns c =
    let a = c.args in
    let n = length a.values.now in
    mixes_part a.added a.amplitude a.i n a.values.now a.out.now c.each_lane.new.lanes c.requires
    (lanes_to _ nan _ n _ _ (length-between a.out.now a.i (a.i + n) c.requires ∙ omega arith)
    (lanes_as _ (λ j x. mixed a.added (a.i + j) x (mul binary32 a.amplitude (get_or a.values.now j nan))) nan _ _ _ (λ j x y l k. search rules) (c.each_lane.ensures nan)))
