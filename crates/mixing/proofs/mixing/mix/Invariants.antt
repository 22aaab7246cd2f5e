-- `mix` walks the parts and notes: each turn mixes one note, and what is still to come makes the rest (`Walk`). Assumes nothing.
use Rattle.std.proofs.Common.{◌*◌, ◌≤◌}
use Rattle.sheet.specs.Parts.{instruments_of}
use Rattle.mixing.specs.Placing.{placed}
use Rattle.mixing.proofs.Walk.{Going, at_part, at_note}
use Rattle.mixing.proofs.mixing.mix.Given as goal

abbrev pub invariant-loop-k : goal.invariant-loop-k
invariant-loop-k l =
    (l.at ≤ l.k * 16777216)
    × Going l.from (at_note l.rate (instruments_of l.sheet) l.sheet.counts l.parts l.sheet.notes l.p l.initial.k l.stop l.initial.at) l.initial.covered l.initial.out
    (at_note l.rate (instruments_of l.sheet) l.sheet.counts l.parts l.sheet.notes l.p l.k l.stop l.at) l.covered l.out

abbrev pub invariant-loop-p : goal.invariant-loop-p
invariant-loop-p l =
    (l.n ≤ 2048) × Going l.from (placed l.rate l.sheet) 0 l.initial.out (at_part l.rate (instruments_of l.sheet) l.sheet.counts l.parts l.sheet.notes l.p l.n) l.covered l.out
