-- `sines_by` goes step by step where all patterns are alike, and else lane by lane. Assumes nothing.
use Rattle.std.proofs.Common.{ℕ, length-take, arith, rules}
use lib.Ieee.{nan}
use Rattle.sine.specs.Lanes.{turn_sine_at}
use Rattle.sine.proofs.LaneLaws.{lanes_as, sines_mapped}
use Rattle.sine.proofs.lanes.sines_by.Goals as goal

pub sines_alike-requires : goal.sines_alike-requires
sines_alike-requires c =
    let xs = c.args.values.now in
    let r = c.each_lane.ensures 0 in
    record {
      most = c.if-values-le-LANES.true;
      size = omega (arith, c.if-values-le-LANES.true, length-take {A = ℕ}, r.size);
      fit = λ j l. (let k = r.done j (omega (arith, c.if-values-le-LANES.true, length-take {A = ℕ})) in search rules);
      patterns = λ j l. (let k = r.done j (omega (arith, c.if-values-le-LANES.true, length-take {A = ℕ})) in search rules);
      field = c.in-Some.ensures;
    }

pub returns-in-Some : goal.returns-in-Some
returns-in-Some c = c.sines_alike.ensures

pub returns : goal.returns
unfolding turn_sine_at
returns c =
    let a = c.args in
    sines_mapped a.table.now a.values.now _ (lanes_as _ (turn_sine_at a.table.now) nan _ a.values.now _ (λ j x y l k. search rules) (c.each_lane-2.ensures nan))
