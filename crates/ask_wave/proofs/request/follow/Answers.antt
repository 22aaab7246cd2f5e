-- `follow` makes the test of the definition. Assumes nothing.
use native.Mathlib.Omega.{arith}
use borrow.Author.Tests.{le-ltb, lt-ltb}
use Rattle.ask_wave.specs.Request.{follow}
use Rattle.ask_wave.proofs.request.follow.Goals as goal

pub returns-then-r-ge2 : goal.returns-then-r-ge2
unfolding follow
returns-then-r-ge2 c = (rw (le-ltb _ _ c.if-r-ge2.true, follow), omega arith)

pub returns : goal.returns
unfolding follow
returns c = (rw (lt-ltb _ _ c.if-r-ge2.false, follow) c.min.ensures, omega arith)
