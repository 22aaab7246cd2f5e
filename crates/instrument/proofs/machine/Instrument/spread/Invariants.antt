-- `spread` keeps the front of the slice filled: each turn mixes the values that `run` gives. Assumes nothing.
use Rattle.std.proofs.Common.{◌≡◌, ◌≤◌, pos}
use lib.Ieee.{binary32, div, of_int}
use Rattle.ieee.specs.Constants.{one}
use Rattle.instrument.specs.Lanes.{Front}
use Rattle.instrument.specs.Lent.{sound_by}
use Rattle.instrument.proofs.machine.Instrument.spread.Given as goal

abbrev pub invariant-loop-i : goal.invariant-loop-i
invariant-loop-i l =
    (l.i ≤ l.room) × (l.unit ≡ div binary32 one (of_int binary32 (pos l.rate))) × (l.out ≡ Front (sound_by l.table l.self l.amplitude l.f l.d l.rate l.first) l.added l.i l.fn.out)
