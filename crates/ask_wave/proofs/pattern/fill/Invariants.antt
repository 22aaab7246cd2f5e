-- `fill` stores byte after byte: what is still to be stored makes the rest of the pattern. Assumes nothing.
use Rattle.std.proofs.Common.{◌≡◌, ◌-◌, length}
use lib.Seq.{sets}
use Rattle.ask_wave.specs.Request.{pattern_from}
use Rattle.ask_wave.proofs.pattern.fill.Given as goal

abbrev pub invariant-loop-i : goal.invariant-loop-i
invariant-loop-i l =
    sets l.buffer l.i (pattern_from l.i (length l.initial.buffer - l.i)) ≡ sets l.initial.buffer 0 (pattern_from 0 (length l.initial.buffer))
