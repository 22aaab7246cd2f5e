-- An operator by a lent table of the sine, and at many times side by side. By document 01's table it is that of `Evaluation.antt`
-- (`proofs/Lent.antt`), so nobody who reads document 01 has to believe this file. Assumes nothing.
use Rattle.std.specs.Prelude.{Option, Some, None, List, [], ◌∷◌, ℕ, suc, Float}
use Rattle.std.specs.Float.{binary32}
use Rattle.std.specs.Float.Ieee.{add, mul}
use Rattle.sine.specs.Turn.{turn_sine_by}
use Rattle.operator.specs.declared.operator.Operator.{Operator}
use Rattle.operator.specs.Evaluation.{level_of, turn_at, rounds}

-- `worked` by a table
unfoldable pub worked_by : List ℕ → Operator → Float → Float → Option Float → Float → Float
unfolding turn_at
worked_by table op f t (Some level) x = mul binary32 level (mul binary32 op.amplitude (turn_sine_by table (add binary32 (turn_at op f t) x)))
worked_by table op f t None x = x

-- `operator_at` by a table
unfoldable pub operator_by : List ℕ → Float → Float → Float → Operator → Float → Float
unfolding level_of worked_by rounds
operator_by table f d t op x = rounds (suc op.feedback) (worked_by table op f t (level_of op d t)) x

-- each value becomes h of the time at its place and of itself; a value without a time stays
unfoldable pub over : (Float → Float → Float) → List Float → List Float → List Float
over h [] xs = xs
over h (t ∷ ts) [] = []
over h (t ∷ ts) (x ∷ xs) = h t x ∷ over h ts xs

-- an operator's work on values, each at the time of its place
unfoldable pub worked_over : List ℕ → Float → Float → Operator → List Float → List Float → List Float
unfolding operator_by over
worked_over table f d op times xs = over (λ (t x : Float). operator_by table f d t op x) times xs
