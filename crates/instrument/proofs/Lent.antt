-- By document 01's table, what is worked out by a lent one is an instrument's value and a note's samples. Assumes nothing.
use Rattle.std.proofs.Common.{◌≡◌, ℕ, ◌+◌, List, ◌++◌, length, take, drop, ap}
use lib.Ieee.{Float, binary32, add, mul}
use Rattle.ieee.specs.Constants.{plus_zero}
use Rattle.sine.specs.Quarter.{quarter}
use Rattle.operator.specs.declared.operator.Operator.{Operator}
use Rattle.operator.specs.Evaluation.{operator_at}
use Rattle.operator.specs.Lent.{operator_by}
use Rattle.operator.proofs.Lent.{by_quarter}
use Rattle.instrument.specs.declared.machine.Instrument.{Instrument}
use Rattle.instrument.specs.Machine.{machine}
use Rattle.instrument.specs.Evaluation.{list_of, instrument_at}
use Rattle.instrument.specs.Fill.{time_at, sound_at, sound_from, mixed_from, count_from, filled}
use Rattle.instrument.specs.Lent.{instrument_by, sound_by, filled_by}

-- an operator, as a function of the operator and its input
works : (f d t : Float) → operator_by quarter f d t ≡ operator_at f d t
works f d t = λ i op x. by_quarter f d t op x i

pub instrument_quarter : (f d t : Float) (i : Instrument) → instrument_by quarter f d t i ≡ instrument_at f d t i
unfolding instrument_by instrument_at
instrument_quarter f d t i = ap (λ (h : Operator → Float → Float). machine Float h (add binary32) plus_zero (list_of i)) (works f d t)

sound_quarter : (i : Instrument) (amplitude f d : Float) (rate first : ℕ) → sound_by quarter i amplitude f d rate first ≡ sound_from i amplitude f d rate first
unfolding sound_by sound_from sound_at
sound_quarter i amplitude f d rate first = λ n k. mul binary32 amplitude (instrument_quarter f d (time_at rate (first + k)) i n)

pub filled_quarter : (i : Instrument) (amplitude f d : Float) (rate first added : ℕ) (xs : List Float)
    → filled_by quarter i amplitude f d rate first added xs ≡ filled i amplitude f d rate first added xs
unfolding filled_by filled
filled_quarter i amplitude f d rate first added xs =
    ap (λ (v : ℕ → Float). mixed_from v added 0 (take (count_from first (length xs)) xs) ++ drop (count_from first (length xs)) xs)
    (sound_quarter i amplitude f d rate first)
