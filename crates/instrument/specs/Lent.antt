-- An instrument's value and a note's samples by a lent table of the sine. By document 01's table they are those of `Evaluation.antt`
-- and `Fill.antt` (`proofs/Lent.antt`), so nobody who reads document 01 has to believe this file. Assumes nothing.
use Rattle.std.specs.Prelude.{ℕ, ◌+◌, List, ◌++◌, length, take, drop, Float}
use Rattle.std.specs.Float.{binary32}
use Rattle.std.specs.Float.Ieee.{add, mul}
use Rattle.ieee.specs.Constants.{plus_zero}
use Rattle.operator.specs.Lent.{operator_by}
use Rattle.instrument.specs.declared.machine.Instrument.{Instrument}
use Rattle.instrument.specs.Machine.{machine}
use Rattle.instrument.specs.Evaluation.{list_of}
use Rattle.instrument.specs.Fill.{time_at, mixed_from, count_from}

-- `instrument_at` by a table
unfoldable pub instrument_by : List ℕ → Float → Float → Float → Instrument → Float
unfolding list_of
instrument_by table f d t i = machine Float (operator_by table f d t) (add binary32) plus_zero (list_of i)

-- `sound_from` by a table: sample first + k of a note
unfoldable pub sound_by : List ℕ → Instrument → Float → Float → Float → ℕ → ℕ → ℕ → Float
unfolding instrument_by time_at
sound_by table i amplitude f d rate first k = mul binary32 amplitude (instrument_by table f d (time_at rate (first + k)) i)

-- `filled` by a table
unfoldable pub filled_by : List ℕ → Instrument → Float → Float → Float → ℕ → ℕ → ℕ → List Float → List Float
unfolding sound_by mixed_from count_from
filled_by table i amplitude f d rate first added xs =
    mixed_from (sound_by table i amplitude f d rate first) added 0 (take (count_from first (length xs)) xs) ++ drop (count_from first (length xs)) xs
