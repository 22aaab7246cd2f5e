-- `write_blocks` keeps: so many samples are written. A block of samples that all exist continues them (`Blocks`). Assumes nothing.
use Rattle.std.proofs.Common.{◌≡◌, ◌-◌, ◌≤◌, length}
use Rattle.windows.proofs.Blocks.{Wrote}
use Rattle.windows.proofs.window.write_blocks.Given as goal

abbrev pub invariant-loop-done : goal.invariant-loop-done
invariant-loop-done l =
    (l.done ≤ l.n) × (length l.block ≡ 16384) × (length l.buffer ≡ length l.initial.buffer) × Wrote l.rate l.sheet l.start l.at l.initial.buffer l.done l.buffer

abbrev pub decreases-loop-done : goal.decreases-loop-done
decreases-loop-done l = l.n - l.done
