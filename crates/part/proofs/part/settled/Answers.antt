-- `settled` is the law of each exit. Assumes nothing.
use Rattle.part.proofs.Settling.{settled_refused, settled_going}
use Rattle.part.proofs.part.settled.Goals as goal

pub returns-then-r-ne0 : goal.returns-then-r-ne0
returns-then-r-ne0 c o fs is ls b = settled_refused _ _ o fs is ls b c.if-r-ne0.true

pub returns : goal.returns
returns c o fs is ls b = settled_going _ _ o fs is ls b c.if-r-ne0.false
