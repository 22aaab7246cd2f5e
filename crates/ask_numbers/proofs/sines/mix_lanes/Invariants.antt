-- `mix_lanes` keeps the checksum of the numbers so far. Assumes nothing.
use Rattle.std.proofs.Common.{◌≡◌, ◌<◌}
use Rattle.ask_numbers.specs.Answer.{prime}
use Rattle.ask_numbers.specs.Sines.{mixed_with}
use Rattle.ask_numbers.proofs.sines.mix_lanes.Given as goal

abbrev pub invariant-loop-x : goal.invariant-loop-x
invariant-loop-x l = (l.total ≡ mixed_with l.sum l.fn.values l.x-index) × (l.total < prime)
