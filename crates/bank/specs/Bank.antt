-- What the columns of a reading hold, one instrument after the other: each instrument has its region of the two columns of operator lines, and `sizes` has
-- the number of operator lines of each. Assumes nothing.
use mathlib.Core.List.{List, [], ◌∷◌}
use Prim.Native.Nat.{ℕ, zero, suc, ◌+◌, ◌*◌}
use Rattle.std.specs.Prelude.{get_or, Float}
use Rattle.tree.specs.Lines.{Line}
use Rattle.sheet.specs.Capacities.{operators_most}
use Rattle.commands.specs.Commands.{lines_held}
use Rattle.layout.specs.Regions.{region}

module _ (sizes : List ℕ) (fs : List Float) (ss : List ℕ) where
  -- the operator lines of the instrument k
  unfoldable pub lines_at : ℕ → List Line
  unfolding lines_held region
  lines_at k = lines_held (get_or sizes k 0) (region (6 * operators_most) k fs) (region (2 * operators_most) k ss)

  -- those of the n instruments from k on
  unfoldable pub lines_from : ℕ → ℕ → List (List Line)
  unfolding lines_at
  lines_from k zero = []
  lines_from k (suc n) = lines_at k ∷ lines_from (k + 1) n
