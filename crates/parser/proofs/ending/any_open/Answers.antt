-- `any_open` goes through the parts until a loop is open. Assumes nothing.
use native.Mathlib.Omega.{arith}
use Rattle.parser.proofs.Closings.{shut_none, shut_more, shut_not, shut_all}
use Rattle.parser.proofs.ending.any_open.Goals as goal

pub loop-k-init : goal.loop-k-init
loop-k-init c = shut_none _ _

pub returns-then-depths-k-gt0 : goal.returns-then-depths-k-gt0
returns-then-depths-k-gt0 c s places q fs is ls e =
    shut_not _ _ _ c.loop-k.invariant _ c.min-k-end.ensures s places q fs is ls e c.loop-k-test.true c.if-depths-k-gt0.true

pub loop-k-preserved : goal.loop-k-preserved
loop-k-preserved c = shut_more _ _ _ c.loop-k.invariant c.loop-k-test.true (omega (arith, c.if-depths-k-gt0.false))

pub returns : goal.returns
returns c s places q fs is ls e =
    shut_all _ _ _ c.loop-k.invariant _ c.min-k-end.ensures s places q fs is ls e c.loop-k-test.false
