-- `rounds_lanes` does one round in all lanes in each turn. Assumes nothing.
use lib.ListN.{length}
use Rattle.operator.specs.Lanes.{Lanes, round_at, rounds_at}
use Rattle.operator.proofs.operator.Operator.rounds_lanes.Given as goal

abbrev pub invariant-loop : goal.invariant-loop
invariant-loop l = Lanes (rounds_at l.counter (round_at l.table l.amplitude l.levels l.turns)) (length l.initial.values) l.initial.values l.values
