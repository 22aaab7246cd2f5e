-- `nearest` converts where an `f32` counts without a gap, and hands the rest on. Assumes nothing.
use Rattle.std.proofs.Common.{◌^◌, le→leb}
use lib.Ieee.{in_float}
use Rattle.sine.proofs.turn.nearest.Goals as goal

pub int_to_float-result : goal.int_to_float-result
unfolding in_float
int_to_float-result c = le→leb _ (2 ^ 24) c.if-s-le16777216.true
