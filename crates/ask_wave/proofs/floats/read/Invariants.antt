-- `read` stores float after float: what is still to be stored makes the rest of the run. Assumes nothing.
use Rattle.std.proofs.Common.{◌≡◌, ◌-◌}
use lib.Seq.{sets}
use Rattle.ask_wave.specs.Request.{floats_from}
use Rattle.ask_wave.proofs.floats.read.Given as goal

abbrev pub invariant-loop-i : goal.invariant-loop-i
invariant-loop-i l =
    sets l.out l.i (floats_from l.bytes l.i (l.n - l.i)) ≡ sets l.initial.out 0 (floats_from l.bytes 0 l.n)
