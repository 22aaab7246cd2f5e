-- Many samples side by side, a lane for each: one command is run on all of them before the next. The counts and the depth of the stack are
-- the same in every lane; what w lanes set aside at depth k stands in the elements from k * w on. Private functions' contracts cite this,
-- and no public one. Assumes nothing.
use Rattle.std.specs.Prelude.{◌≡◌, ℕ, zero, suc, ◌+◌, ◌*◌, ◌<◌, ◌≤◌, List, [], ◌∷◌, ◌++◌, length, get_or, take, drop, pos, slice_index, slice_index_or, Float}
use Rattle.std.specs.Float.{nan, binary32}
use Rattle.std.specs.Float.Ieee.{add, mul, of_int}
use Rattle.ieee.specs.Constants.{plus_zero}
use Rattle.operator.specs.Lent.{operator_by}
use Rattle.instrument.specs.declared.machine.Command.{Command}
use Rattle.instrument.specs.Machine.{Entry, State, settled, step, run}
use Rattle.instrument.specs.Fill.{mixed_from}

-- the machine's parts at floats
unfoldable pub settled_at : Float → List (Entry Float) → State Float
unfolding settled
settled_at v stack = settled Float (add binary32) v stack

unfoldable pub step_by : List ℕ → Float → Float → Float → Command → State Float → State Float
step_by table f d t = step Float (operator_by table f d t) (add binary32) plus_zero

unfoldable pub run_by : List ℕ → Float → Float → Float → List Command → State Float → State Float
run_by table f d t = run Float (operator_by table f d t) (add binary32) plus_zero

-- ---- what a lane becomes

-- the time of sample first + j
unfoldable pub timed : ℕ → Float → ℕ → Float → Float
timed first unit j x = mul binary32 (of_int binary32 (pos (first + j))) unit

-- n values stand from an element on, and what is below it is as it was
pub record Keeps (from n : ℕ) (values before after : List Float) : Type 0 where
  pub done : (j : ℕ) → j < n → slice_index_or after (from + j) nan ≡ slice_index_or values j nan
  pub below : (k : ℕ) → k < from → slice_index_or after k nan ≡ slice_index_or before k nan
  pub size : length after ≡ length before

-- ---- the stack of a lane

-- a stack by its counts and its saved values
unfoldable pub stack_by : ℕ → List ℕ → (ℕ → Float) → List (Entry Float)
stack_by zero counts kept = []
stack_by (suc k) counts kept = record { left = slice_index counts k; saved = kept k } ∷ stack_by k counts kept

-- the stack and the state of lane j of w
unfoldable pub lane_stack : ℕ → ℕ → ℕ → List ℕ → List Float → List (Entry Float)
unfolding stack_by
lane_stack w j depth counts saved = stack_by depth counts (λ (k : ℕ). get_or saved (k * w + j) nan)

unfoldable pub lane_state : ℕ → ℕ → Float → ℕ → List ℕ → List Float → State Float
unfolding lane_stack
lane_state w j v depth counts saved = record { value = v; stack = lane_stack w j depth counts saved }

-- what an operator that gave the lanes their values does to the stack: in each of w lanes it is `settled`, and no entry is added
pub record SettlesLanes (w depth : ℕ) (values : List Float) (counts : List ℕ) (saved valuesAfter : List Float) (depthAfter : ℕ) (countsAfter : List ℕ) : Type 0 where
  pub state :
      (j : ℕ) → j < w → lane_state w j (slice_index_or valuesAfter j nan) depthAfter countsAfter saved ≡ settled_at (slice_index_or values j nan) (lane_stack w j depth counts saved)
  pub within : depthAfter ≤ depth
  pub counts_size : length countsAfter ≡ length counts
  pub values_size : length valuesAfter ≡ length values

-- what one command does: in each lane that has a time it is the machine's step, and at most one entry is added
pub record StepsLanes (table : List ℕ) (f d : Float) (times : List Float) (w : ℕ) (command : Command) (depth : ℕ) (values : List Float) (counts : List ℕ) (saved valuesAfter : List Float) (depthAfter : ℕ) (countsAfter : List ℕ) (savedAfter : List Float) : Type 0 where
  pub state :
      (j : ℕ) → j < length times
      → lane_state w j (slice_index_or valuesAfter j nan) depthAfter countsAfter savedAfter ≡ step_by table f d (slice_index_or times j nan) command (lane_state w j (slice_index_or values j nan) depth counts saved)
  pub within : depthAfter ≤ depth + 1
  pub counts_size : length countsAfter ≡ length counts
  pub saved_size : length savedAfter ≡ length saved
  pub values_size : length valuesAfter ≡ length values

-- ---- the slice that is filled

-- i values v 0, v 1, .. are mixed into the front of xs, and what follows is as it was
unfoldable pub Front : (ℕ → Float) → ℕ → ℕ → List Float → List Float
unfolding mixed_from
Front v added i xs = mixed_from v added 0 (take i xs) ++ drop i xs

-- a front of i values that n lanes make one of i + n
pub record MixesLanes (added : ℕ) (amplitude : Float) (i n : ℕ) (values before after : List Float) : Type 0 where
  pub mixes :
      (v : ℕ → Float) (xs : List Float) → i + n ≤ length xs → before ≡ Front v added i xs
      → ((j : ℕ) → j < n → mul binary32 amplitude (slice_index_or values j nan) ≡ v (i + j)) → after ≡ Front v added (i + n) xs
  pub size : length after ≡ length before
