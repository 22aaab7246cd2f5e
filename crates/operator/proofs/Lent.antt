-- An operator by a lent table: by document 01's it is `operator_at`. And the values of many lanes, one by one. Assumes nothing.
use mathlib.Core.Path.{◌≡◌, refl, ap}
use mathlib.Core.List.{List, [], ◌∷◌}
use Prim.Native.Nat.{ℕ, zero, suc, ◌≤◌, ◌<◌}
use native.Mathlib.Omega.{arith}
use lib.ListN.{length, get_or}
use lib.Ieee.{Float, nan}
use Rattle.sine.specs.Quarter.{quarter}
use Rattle.operator.specs.declared.operator.Operator.{Operator}
use Rattle.std.specs.Prelude.{Option, Some, None}
use Rattle.operator.specs.Evaluation.{level_of, worked, rounds, operator_at}
use Rattle.operator.specs.Lent.{worked_by, operator_by, over, worked_over}

-- one round by document 01's table
worked_quarter : (op : Operator) (f t : Float) (level : Option Float) → worked_by quarter op f t level ≡ worked op f t level
unfolding worked_by worked
worked_quarter op f t (Some x) = refl
worked_quarter op f t None = refl

-- an operator by document 01's table
pub by_quarter : (f d t : Float) (op : Operator) (x : Float) → operator_by quarter f d t op x ≡ operator_at f d t op x
unfolding operator_by operator_at
by_quarter f d t op x = ap (λ (h : Float → Float). rounds (suc op.feedback) h x) (worked_quarter op f t (level_of op d t))

-- ---- lists

size_over : (h : Float → Float → Float) (ts xs : List Float) → length (over h ts xs) ≡ length xs
unfolding over
size_over h [] xs = refl
size_over h (t ∷ ts) [] = refl
size_over h (t ∷ ts) (x ∷ xs) = ap suc (size_over h ts xs)

done_over : (h : Float → Float → Float) (ts xs : List Float) (j : ℕ) → j < length ts → j < length xs → get_or (over h ts xs) j nan ≡ h (get_or ts j nan) (get_or xs j nan)
unfolding over
done_over h [] xs j l g = absurd (omega arith)
done_over h (t ∷ ts) [] j l g = absurd (omega arith)
done_over h (t ∷ ts) (x ∷ xs) zero l g = refl
done_over h (t ∷ ts) (x ∷ xs) (suc j) l g = done_over h ts xs j (omega arith) (omega arith)

kept_over : (h : Float → Float → Float) (ts xs : List Float) (j : ℕ) → length ts ≤ j → get_or (over h ts xs) j nan ≡ get_or xs j nan
unfolding over
kept_over h [] xs j l = refl
kept_over h (t ∷ ts) [] j l = refl
kept_over h (t ∷ ts) (x ∷ xs) zero l = absurd (omega arith)
kept_over h (t ∷ ts) (x ∷ xs) (suc j) l = kept_over h ts xs j (omega arith)

-- ---- an operator's work on values

module _ (table : List ℕ) (f d : Float) (op : Operator) (times xs : List Float) where
  pub over_length : length (worked_over table f d op times xs) ≡ length xs
  unfolding worked_over
  over_length = size_over (λ (t x : Float). operator_by table f d t op x) times xs

  pub over_done : (j : ℕ) → j < length times → j < length xs → get_or (worked_over table f d op times xs) j nan ≡ operator_by table f d (get_or times j nan) op (get_or xs j nan)
  unfolding worked_over
  over_done j l g = done_over (λ (t x : Float). operator_by table f d t op x) times xs j l g

  pub over_kept : (j : ℕ) → length times ≤ j → get_or (worked_over table f d op times xs) j nan ≡ get_or xs j nan
  unfolding worked_over
  over_kept j l = kept_over (λ (t x : Float). operator_by table f d t op x) times xs j l
