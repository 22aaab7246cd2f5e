-- `room` is the smaller of the two, so it counts within the buffer. Assumes nothing.
use native.Mathlib.Omega.{arith}
use Rattle.io.proofs.Counting.{prefix_len_of_le}
use Rattle.ask_wave.proofs.request.room.Goals as goal

pub returns : goal.returns
returns c =
    record { count = c.min.ensures; within = prefix_len_of_le _ _ (omega arith) }
