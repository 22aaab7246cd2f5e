-- `fill` keeps that lane after lane has its number. Assumes nothing.
use lib.Ieee.{nan}
use Rattle.sine.specs.Lanes.{LanesOf}
use Rattle.ask_numbers.specs.Sines.{float_from}
use Rattle.ask_numbers.proofs.sines.fill.Given as goal

abbrev pub invariant-loop-j : goal.invariant-loop-j
invariant-loop-j l = LanesOf nan (float_from l.pattern) l.j l.initial.values l.values
