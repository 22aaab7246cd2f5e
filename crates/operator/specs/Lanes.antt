-- Up to 32 values side by side, a lane for each. Private functions' contracts cite this, and no public one. Assumes nothing.
use Rattle.std.specs.Prelude.{◌≡◌, Bool, true, List, ℕ, ◌≤◌, ◌<◌, length, get_or, Float, Some}
use Rattle.std.specs.Float.{nan, binary32}
use Rattle.std.specs.Float.Ieee.{add, sub, mul, div}
use Rattle.ieee.specs.Constants.{one}
use Rattle.sine.specs.Turn.{turn_sine_by}
use Rattle.sine.specs.Lanes.{LanesOf}
use Rattle.operator.specs.declared.operator.Operator.{Operator}
use Rattle.operator.specs.Evaluation.{level_of, rounds}
use Rattle.operator.specs.Lent.{operator_by}

-- the first n lanes have h's value of what they had, and the others what they had
abbrev pub Lanes : (ℕ → Float → Float) → ℕ → List Float → List Float → Type 0
Lanes h = LanesOf nan h

-- a round at the lanes' levels and phases, and n of them
unfoldable pub round_at : List ℕ → Float → List Float → List Float → ℕ → Float → Float
round_at table amplitude levels turns j x =
    mul binary32 (get_or levels j nan) (mul binary32 amplitude (turn_sine_by table (add binary32 (get_or turns j nan) x)))

unfoldable pub rounds_at : ℕ → (ℕ → Float → Float) → ℕ → Float → Float
unfolding rounds
rounds_at n h j x = rounds n (h j) x

-- an operator's work at the lanes' times
unfoldable pub worked_at : List ℕ → Operator → Float → Float → List Float → ℕ → Float → Float
unfolding operator_by
worked_at table op f d times j x = operator_by table f d (get_or times j nan) op x

-- the level in the decay and in the release, as `level_of` has them
unfoldable pub decay_level : Float → Float → Float → Float → Float
decay_level attack decay sustain t =
    add binary32 sustain (mul binary32 (sub binary32 one sustain) (sub binary32 one (div binary32 (sub binary32 t attack) decay)))

unfoldable pub release_level : Float → Float → Float → Float → Float
release_level sustain release d t = mul binary32 sustain (sub binary32 one (div binary32 (sub binary32 t d) release))

-- the first r lanes have a level
pub record Levelled (op : Operator) (d : Float) (times levels : List Float) (r : ℕ) : Type 0 where
  pub within : r ≤ length times
  pub held : (j : ℕ) → j < r → level_of op d (get_or times j nan) ≡ Some (get_or levels j nan)

-- if r, all lanes have a level
pub record Staged (op : Operator) (d : Float) (times levels : List Float) (r : Bool) : Type 0 where
  pub held : r ≡ true → Levelled op d times levels (length times)
  pub size : length levels ≡ length times

-- the first r lanes have been worked on
pub record Worked (table : List ℕ) (op : Operator) (f d : Float) (times before after : List Float) (r : ℕ) : Type 0 where
  pub within : r ≤ length times
  pub lanes : Lanes (worked_at table op f d times) r before after
