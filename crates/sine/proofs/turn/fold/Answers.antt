-- `fold` is the definition's two cases, which its test takes in turn. Assumes nothing.
use Rattle.std.proofs.Common.{sym}
use Rattle.sine.proofs.Heights.{folded_back, folded_on}
use Rattle.sine.proofs.turn.fold.Goals as goal

pub returns-then-p-eq1 : goal.returns-then-p-eq1
returns-then-p-eq1 c = sym (folded_back _ c.if-p-eq1.true)

pub returns : goal.returns
returns c = sym (folded_on _ c.if-p-eq1.false)
