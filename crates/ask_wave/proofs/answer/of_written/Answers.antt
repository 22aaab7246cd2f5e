-- `of_written` prints what is told, by its two cases. Assumes nothing.
use Rattle.wave.specs.File.{told}
use Rattle.ask_wave.proofs.answer.of_written.Goals as goal

pub returns-in-Ok : goal.returns-in-Ok
unfolding told
returns-in-Ok c = rw c.in-Ok.is

pub returns-in-Err : goal.returns-in-Err
unfolding told
returns-in-Err c = rw c.in-Err.is
