-- `longest` goes through the parts: what it has as end, with the end of the parts to come, is the end of all. Assumes nothing.
use Rattle.layout.proofs.Longest.{Longest}
use Rattle.layout.proofs.parts.longest.Given as goal

abbrev pub invariant-loop-k : goal.invariant-loop-k
invariant-loop-k l = Longest l.counts l.floats l.instruments l.rate l.releases l.k-end l.k l.end
