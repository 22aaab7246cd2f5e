-- `command_passes` is the definition's two cases. Assumes nothing.
use mathlib.Core.Path.{sym, ap}
use borrow.Author.Rules.{rules}
use Rattle.handed.specs.Check.{command_passes}
use Rattle.handed.proofs.check.command_passes.Goals as goal

pub returns-in-Operator : goal.returns-in-Operator
unfolding command_passes
returns-in-Operator c = sym (ap command_passes c.in-Operator.is)

pub returns-in-Stack : goal.returns-in-Stack
unfolding command_passes
returns-in-Stack c = search rules
