-- `hand_file` hands the file on piece by piece, until all of it is handed on. Assumes nothing.
use mathlib.Core.Path.{◌≡◌}
use Prim.Native.Nat.{◌-◌}
use lib.ListN.{length}
use Rattle.engine.specs.Stream.{file_of}
use Rattle.cue.proofs.Pieces.{Begins, left}
use Rattle.cue.proofs.answer.hand_file.Given as goal

abbrev pub invariant-loop-mode : goal.invariant-loop-mode
invariant-loop-mode g l = (length l.buffer ≡ 65536) × ((l.reached ≡ l.later.out.at) × Begins (length (file_of l.size 44100 l.sheet)) l.later.out.at)

abbrev pub decreases-loop-mode : goal.decreases-loop-mode
decreases-loop-mode g l = left l.later.out.taking (length (file_of l.size 44100 l.sheet) - l.later.out.at)
