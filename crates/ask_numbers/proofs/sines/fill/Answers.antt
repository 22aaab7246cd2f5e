-- `fill` keeps that lane after lane has its number. Assumes nothing.
use Rattle.std.proofs.Common.{arith}
use lib.Ieee.{nan}
use Rattle.sine.proofs.LaneLaws.{lanes_none, lanes_more, lanes_to}
use Rattle.ask_numbers.specs.Sines.{float_from}
use Rattle.ask_numbers.proofs.sines.fill.Goals as goal

pub loop-j-init : goal.loop-j-init
loop-j-init c = lanes_none _ nan _

pub loop-j-preserved : goal.loop-j-preserved
unfolding float_from
loop-j-preserved c =
    let a = c.args in
    let l = c.loop-j in
    lanes_more _ nan l.j a.values.now l.values nan _ (omega (arith, c.loop-j-test.true, c.requires)) l.invariant c.of_bits.ensures

pub returns : goal.returns
returns c = lanes_to _ nan c.loop-j.j 32 c.args.values.now c.loop-j.values (omega (arith, c.loop-j-test.false, c.requires)) c.loop-j.invariant
