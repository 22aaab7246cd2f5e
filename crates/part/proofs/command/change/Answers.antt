-- `change` puts what a command came to into the state. Assumes nothing.
use Rattle.part.proofs.Changed.{change_to, change_refused}
use Rattle.part.proofs.command.change.Goals as goal

pub returns-in-Ok : goal.returns-in-Ok
returns-in-Ok c = change_to _ _ _ c.requires _ c.in-Ok.is

pub returns-in-Err : goal.returns-in-Err
returns-in-Err c = rw c.refused.ensures (change_refused _ _ _ c.requires _ c.in-Err.is)
