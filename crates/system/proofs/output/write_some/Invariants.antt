-- A write that was interrupted takes nothing of the part. Assumes nothing.
use Rattle.std.specs.Io.KnownBytes.{Keeps}
use Rattle.system.proofs.output.write_some.Given as goal

abbrev pub invariant-loop : goal.invariant-loop
invariant-loop g l = Keeps (g.W.Write.contents l.initial.to) (g.W.Write.contents l.to)
