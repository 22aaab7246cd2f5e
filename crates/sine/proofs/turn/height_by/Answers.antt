-- `height_by` reads the table in place: the definition's two cases, which its test takes in turn. Assumes nothing.
use Rattle.std.proofs.Common.{sym, ◌∙◌}
use Rattle.sine.proofs.Heights.{height_last, height_between}
use Rattle.sine.proofs.turn.height_by.Goals as goal

pub returns-then-i-eq1024 : goal.returns-then-i-eq1024
returns-then-i-eq1024 c = sym (height_last _ _ c.if-i-eq1024.true)

pub returns : goal.returns
returns c = c.partway.ensures ∙ sym (height_between _ _ c.if-i-eq1024.false)
