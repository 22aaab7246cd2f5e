-- `notes_of` lays the notes into the array one by one, and keeps `Laying`. Assumes nothing.
use Rattle.layout.proofs.Laid.{Laying}
use Rattle.layout.proofs.parts.notes_of.Given as goal

abbrev pub invariant-loop-k : goal.invariant-loop-k
invariant-loop-k l = Laying l.counts l.floats l.instruments l.k-end l.k 0 l.n l.notes

abbrev pub invariant-loop-i : goal.invariant-loop-i
invariant-loop-i l = Laying l.counts l.floats l.instruments l.k-end l.k l.i l.n l.notes
