-- `run_end` keeps a `Walk` for each test that the closure computes. Assumes nothing.
use Rattle.std.proofs.Common.{◌≡◌, ◌<◌, ℕ, Bool}
use Rattle.text.proofs.Walks.{Walk}
use Rattle.text.proofs.runs.run_end.Given as goal

abbrev pub invariant-loop-end : goal.invariant-loop-end
invariant-loop-end g l =
    (p : ℕ → Bool) → ((b : ℕ) (t : Bool) → b < 256 → goal.P-post g l.passes b t → t ≡ p b) → Walk p l.s l.fn.i l.end
