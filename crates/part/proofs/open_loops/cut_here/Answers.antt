-- `part::open_loops::cut_here` meets its contract: one law outside all loops, one inside. Assumes nothing.
use native.Mathlib.Omega.{arith}
use Rattle.part.proofs.Closing.{cut_outside, cut_inside}
use Rattle.part.proofs.open_loops.cut_here.Goals as goal

pub returns-then-d-eq0 : goal.returns-then-d-eq0
returns-then-d-eq0 c book fs is r = rw c.refused.ensures (cut_outside c.args.st fs is _ r c.requires.1.1 book _ c.if-d-eq0.true)

pub returns : goal.returns
returns c book fs is r = cut_inside c.args.st fs is _ r c.requires.1.1 book _ c.requires.0 (omega arith)
