-- `partway` on the way up stays below the upper entry, and so does all that it works out. On a way down the definition's
-- difference is 0. Assumes nothing.
use Rattle.std.proofs.Common.{arith}
use Rattle.sine.proofs.Heights.{Step, step, stays}
use Rattle.sine.proofs.turn.partway.Goals as goal

pub returns-then-next-from : goal.returns-then-next-from
returns-then-next-from c = stays _ _ _ c.if-next-from.true

pub overflow_mul-rise : goal.overflow_mul-rise
overflow_mul-rise c = omega (arith, (let it : Step c.args.from c.args.next c.args.r = step _ _ _ c.if-next-from.false c.requires in it))

pub overflow_cast-result : goal.overflow_cast-result
overflow_cast-result c = omega (arith, (let it : Step c.args.from c.args.next c.args.r = step _ _ _ c.if-next-from.false c.requires in it))

pub overflow_add-result : goal.overflow_add-result
overflow_add-result c = omega (arith, (let it : Step c.args.from c.args.next c.args.r = step _ _ _ c.if-next-from.false c.requires in it))
