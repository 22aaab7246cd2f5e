-- `floats_asked` is the smaller of the two, so it counts within the slice. Assumes nothing.
use mathlib.Core.Path.{sym}
use native.Mathlib.Omega.{arith}
use lib.Seq.{length-take-le}
use borrow.Author.Rules.{rules}
use Rattle.ask_engine.proofs.buffers.floats_asked.Goals as goal

pub returns : goal.returns
returns c = (omega arith, sym (length-take-le _ _ (omega arith)))
