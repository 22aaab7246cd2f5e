-- `divided` is long division: the rest, doubled, holds the divisor once more or not. Assumes nothing.
use Rattle.std.proofs.Common.{arith}
use Rattle.number.proofs.Powers.{pow_more, twice_scaled}
use Rattle.number.proofs.decimal.divided.Goals as goal
use Rattle.number.proofs.decimal.divided.Goals.{then-rest-d, else-rest-d}

pub loop-place-preserved : goal.loop-place-preserved
loop-place-preserved c =
    let l = c.loop-place in
    let more = twice_scaled c.args.n l._place in
    let twice = pow_more 2 l._place in
    elim c.if-rest-d.branch [
      | then-rest-d w ↦ rw (w.whole-is, w.rest-is) (record { quotient = omega (arith, more); remainder = omega arith; digits = omega (arith, twice) })
      | else-rest-d w ↦ rw (w.whole-is, w.rest-is) (record { quotient = omega (arith, more); remainder = omega arith; digits = omega (arith, twice) })
    ]
