-- `notes_in` sums the counts and stops at 2,049: the sum so far with the counts still to come is the sum of all, cut at 2,049. Assumes nothing.
use Rattle.std.proofs.Common.{◌≡◌, ◌+◌, ◌≤◌, length, min, take}
use lib.Seq.{slice}
use Rattle.sheet.specs.Parts.{total}
use Rattle.handed.proofs.check.notes_in.Given as goal

abbrev pub invariant-loop-count : goal.invariant-loop-count
invariant-loop-count l =
    (l.sum ≤ 2049)
    × (min (l.sum + total (slice l.count-index (length l.count-items) l.count-items)) 2049 ≡ min (total (take l.parts l.fn.counts)) 2049)
