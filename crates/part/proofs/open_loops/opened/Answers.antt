-- `part::open_loops::opened` meets its contract: one law for a part with eight open loops, one for a part with fewer. Assumes nothing.
use lib.ListN.{length-set}
use native.Mathlib.Omega.{arith}
use Rattle.part.proofs.Closing.{open_full, open_room}
use Rattle.part.proofs.open_loops.opened.Goals as goal

pub returns-then-d-ge-OPEN_LOOPS : goal.returns-then-d-ge-OPEN_LOOPS
returns-then-d-ge-OPEN_LOOPS c book fs is r =
    rw c.refused.ensures (open_full c.args.st fs is _ r c.requires.1 book _ c.if-d-ge-OPEN_LOOPS.true)

pub bounds-loops-place-2 : goal.bounds-loops-place-2
bounds-loops-place-2 c = simp length-set (omega arith)

pub returns : goal.returns
returns c book fs is r = open_room c.args.st fs is _ r c.requires.1 book _ c.requires.0 c.if-d-ge-OPEN_LOOPS.false
