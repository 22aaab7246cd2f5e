-- `room_from` is the smaller of the room and what is left of a note's samples. Assumes nothing.
use Rattle.std.proofs.Common.{rules}
use Rattle.instrument.specs.Fill.{count_from}
use Rattle.instrument.proofs.machine.room_from.Goals as goal

pub returns : goal.returns
unfolding count_from
returns c = search rules
