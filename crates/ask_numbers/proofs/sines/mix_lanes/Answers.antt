-- `mix_lanes` keeps the checksum of the numbers so far. Assumes nothing.
use Rattle.std.proofs.Common.{sym, ap, ◌∙◌, ap₂, arith}
use lib.Seq.{get_or-take, length-take-le}
use lib.Ieee.{nan, binary32, to_bits}
use Rattle.ask_numbers.specs.Answer.{mixed}
use Rattle.ask_numbers.specs.Sines.{mixed_with}
use Rattle.ask_numbers.proofs.Runs.{mixed_none, mixed_more}
use Rattle.ask_numbers.proofs.sines.mix_lanes.Goals as goal

pub loop-x-init : goal.loop-x-init
loop-x-init c = (sym (mixed_none _ _), c.requires.0)

pub loop-x-preserved : goal.loop-x-preserved
loop-x-preserved c =
    let a = c.args in
    let l = c.loop-x in
    let there = length-take-le a.n a.values.now (omega arith) in
    let read = get_or-take a.n a.values.now l.x-index nan (omega (arith, there, c.loop-x-test.true)) in (
      c.mix-total.ensures.0 ∙ ap₂ mixed l.invariant.0 (c.to_bits.ensures ∙ ap (to_bits binary32) read) ∙ sym (mixed_more a.sum a.values.now l.x-index),
      c.mix-total.ensures.1,
    )

pub returns : goal.returns
returns c =
    let a = c.args in
    let l = c.loop-x in
    let there = length-take-le a.n a.values.now (omega arith) in
    (l.invariant.0 ∙ ap (mixed_with a.sum a.values.now) (omega (arith, there, c.loop-x-test.false)), l.invariant.1)
