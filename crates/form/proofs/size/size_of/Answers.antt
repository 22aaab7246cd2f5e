-- `size_of` makes the definition's test. Assumes nothing.
use Rattle.std.proofs.Common.{rules}
use Rattle.form.specs.Form.{size_numbered}
use Rattle.form.proofs.size.size_of.Goals as goal

pub returns-then-number-eq1 : goal.returns-then-number-eq1
unfolding size_numbered
returns-then-number-eq1 c = search rules

pub returns-else-number-eq1 : goal.returns-else-number-eq1
unfolding size_numbered
returns-else-number-eq1 c = search rules
