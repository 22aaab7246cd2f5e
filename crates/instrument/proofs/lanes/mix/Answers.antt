-- `mix` is the definition's choice: stored from the element on, added below it.
-- Assumes nothing.
use Rattle.std.proofs.Common.{le-ltb, lt-ltb}
use Rattle.instrument.specs.Fill.{mixed}
use Rattle.instrument.proofs.lanes.mix.Goals as goal

pub returns-then-added-i : goal.returns-then-added-i
unfolding mixed
returns-then-added-i c = rw (le-ltb _ _ c.if-added-i.true, mixed)

pub returns : goal.returns
unfolding mixed
returns c = rw (lt-ltb _ _ c.if-added-i.false, mixed)
