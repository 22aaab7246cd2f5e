-- `release_of` goes over the lines; the release of those to come, from the largest so far on, is that of all. Assumes nothing.
use Rattle.std.proofs.Common.{◌≡◌, ◌-◌, ℕ, List}
use Rattle.tree.specs.Lines.{release_from, release_of}
use Rattle.commands.specs.Laying.{lines_from}
use Rattle.commands.proofs.layout.release_of.Given as goal

abbrev pub invariant-loop-i : goal.invariant-loop-i
invariant-loop-i l = (ss : List ℕ) → release_from l.most (lines_from (l.n - l.i) l.i l.numbers ss) ≡ release_of (lines_from l.n 0 l.numbers ss)
