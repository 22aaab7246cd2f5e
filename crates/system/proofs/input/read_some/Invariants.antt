-- A read that was interrupted takes nothing from the input. Assumes nothing.
use Rattle.std.proofs.Common.{◌≡◌, length}
use Rattle.std.specs.Io.KnownBytes.{Keeps}
use Rattle.system.proofs.input.read_some.Given as goal

abbrev pub invariant-loop : goal.invariant-loop
invariant-loop g l =
    (length l.bytes ≡ length l.initial.bytes) × Keeps (g.R.Read.remaining l.initial.input) (g.R.Read.remaining l.input)
