-- `sines` goes on from its sum over the patterns that are left, a block after the other (`Runs`), and what that gives never changes. The
-- measure is how many patterns are left. Assumes nothing.
use Rattle.std.proofs.Common.{◌≡◌, ◌^◌, ◌<◌, length}
use Rattle.ask_numbers.specs.Answer.{prime, sines_from}
use Rattle.ask_numbers.proofs.sines.sines.Given as goal

abbrev pub invariant-loop-left : goal.invariant-loop-left
invariant-loop-left l =
    (length l.values ≡ 32) × (l.sum < prime) × (l.left < 2 ^ 32) × (l.pattern < 2 ^ 32) × (sines_from l.sum l.pattern l.left ≡ sines_from 0 l.start l.count)

abbrev pub decreases-loop-left : goal.decreases-loop-left
decreases-loop-left l = l.left
