-- An instrument by what is looked at first: its count, its release, then its commands. Assumes nothing.
use mathlib.Core.Path.{◌≡◌}
use mathlib.Core.Bool.{Bool, true, false}
use Prim.Native.Nat.{◌≤◌, ◌<◌}
use lib.ListN.{take}
use lib.Ieee.{le}
use borrow.Author.Tests.{le-leb, lt-leb}
use Rattle.ieee.specs.Constants.{plus_zero}
use Rattle.ieee.proofs.Times.{time_is}
use Rattle.instrument.specs.declared.machine.Instrument.{Instrument}
use Rattle.handed.specs.Check.{all, slot_passes, instrument_passes}

module _ (i : Instrument) where
  pub many : 64 < i.count → false ≡ instrument_passes i
  unfolding instrument_passes
  many h = rw (lt-leb i.count 64 h)

  module _ (h : i.count ≤ 64) where
    pub endless : le plus_zero i.release ≡ false → false ≡ instrument_passes i
    unfolding instrument_passes
    endless e = rw (le-leb i.count 64 h, time_is i.release, e)

    pub commanded : le plus_zero i.release ≡ true → (b : Bool) → b ≡ all slot_passes (take i.count i.commands) → b ≡ instrument_passes i
    unfolding instrument_passes
    commanded e b p = rw (le-leb i.count 64 h, time_is i.release, e) p
