-- `nearest` cuts off the fraction of twice the size of p and halves, as the laws of doubling have it. Assumes nothing.
use Rattle.std.proofs.Common.{arith, T}
use lib.Ieee.{binary32, fits, of_bits}
use Rattle.form.proofs.Halves.{Halved, halved_below, halved_not_below}
use Rattle.form.proofs.sample.nearest.Goals as goal
use Rattle.form.proofs.sample.nearest.Goals.{then-p, else-p}

pub whole_part-requires : goal.whole_part-requires
unfolding of_bits
whole_part-requires c =
    let t : T (fits binary32 c.args.p) = rw c.well_formed.0.1 tt in
    let half : Halved c.args.p c.if-p.size = elim c.if-p.branch [
      | then-p w ↦ rw w.size-is (halved_below c.args.p t c.requires w.if-p.true)
      | else-p w ↦ rw w.size-is (halved_not_below c.args.p t c.requires w.if-p.false)
    ] in
    record { from_zero = half.above; within_16_bits = half.under }

pub overflow_add-result : goal.overflow_add-result
unfolding of_bits
overflow_add-result c =
    let t : T (fits binary32 c.args.p) = rw c.well_formed.0.1 tt in
    let half : Halved c.args.p c.if-p.size = elim c.if-p.branch [
      | then-p w ↦ rw w.size-is (halved_below c.args.p t c.requires w.if-p.true)
      | else-p w ↦ rw w.size-is (halved_not_below c.args.p t c.requires w.if-p.false)
    ] in
    omega (arith, half.small, c.whole_part.ensures)

pub returns : goal.returns
unfolding of_bits
returns c =
    let t : T (fits binary32 c.args.p) = rw c.well_formed.0.1 tt in
    let half : Halved c.args.p c.if-p.size = elim c.if-p.branch [
      | then-p w ↦ rw w.size-is (halved_below c.args.p t c.requires w.if-p.true)
      | else-p w ↦ rw w.size-is (halved_not_below c.args.p t c.requires w.if-p.false)
    ] in
    rw c.whole_part.ensures half.half
