-- `answer` is safe: the slice keeps its length, and so the count, which is at most that, fits four bytes. Assumes nothing.
use Rattle.std.proofs.Common.{arith}
use Rattle.instrument.specs.Fill.{count_from}
use Rattle.ask_instrument.proofs.stretch.answer.Goals as goal

pub overflow_cast-count : goal.overflow_cast-count
unfolding count_from
overflow_cast-count c = omega (arith, c.fill-count.ensures.count)
