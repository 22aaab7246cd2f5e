-- What the columns of a reading hold, one part after the other: each part has its region of the two columns of notes, and `counts` has the number of
-- notes of each. Assumes nothing.
use mathlib.Core.List.{List, [], ◌++◌}
use Prim.Native.Nat.{ℕ, zero, suc, ◌+◌, ◌*◌, max}
use Rattle.std.specs.Prelude.{take, get_or, Float}
use Rattle.sheet.specs.Capacities.{notes_most}
use Rattle.layout.specs.Regions.{region}
use Rattle.sheet.specs.declared.note.Note.{Note}
use Rattle.columns.specs.Columns.{notes_in}
use Rattle.sheet.specs.Lengths.{end_of}

module _ (counts : List ℕ) (fs : List Float) (is : List ℕ) where
  -- the notes of the part k
  unfoldable pub notes_at : ℕ → List Note
  unfolding notes_in region
  notes_at k = notes_in (region (3 * notes_most) k fs) (take (get_or counts k 0) (region notes_most k is))

  -- those of the n parts from k on, one part after the other
  unfoldable pub notes_from : ℕ → ℕ → List Note
  unfolding notes_at
  notes_from k zero = []
  notes_from k (suc n) = notes_at k ++ notes_from (k + 1) n

  -- the largest end of a sounding note of these parts, 0 without notes
  unfoldable pub longest_from : ℕ → List Float → ℕ → ℕ → ℕ
  unfolding end_of notes_at
  longest_from rate releases k zero = 0
  longest_from rate releases k (suc n) = max (end_of rate releases 0 (notes_at k)) (longest_from rate releases (k + 1) n)
