-- `place_named` keeps a `Looked` search, and cuts each name's places at the text's end. Assumes nothing.
use Prim.Native.Nat.{◌*◌}
use Rattle.lines.proofs.Places.{Looked}
use Rattle.lines.proofs.names.place_named.Given as goal

abbrev pub invariant-loop-passed : goal.invariant-loop-passed
invariant-loop-passed l = Looked l.s l.places l.name (2 * l.passed) l.passed
