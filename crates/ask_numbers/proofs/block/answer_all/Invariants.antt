-- `answer_all` keeps that the answers still to come make the rest of the block. Assumes nothing.
use Rattle.std.proofs.Common.{◌≡◌, ◌-◌}
use Rattle.ask_numbers.specs.Block.{answered}
use Rattle.ask_numbers.proofs.block.answer_all.Given as goal

abbrev pub invariant-loop-i : goal.invariant-loop-i
invariant-loop-i l = answered l.requests l.out l.i (l.n - l.i) ≡ answered l.requests l.initial.out 0 l.n
