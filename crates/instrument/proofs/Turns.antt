-- What the turns of a loop ask for, over plain numbers: places that fit, one turn more, one left less, and a count that is met. Assumes nothing.
use Rattle.std.proofs.Common.{◌≡◌, ℕ, ◌+◌, ◌-◌, ◌*◌, ◌<◌, ◌≤◌, arith, w64, Fits}
use borrow.Author.Rules.{scaled_Fits}

pub place_fits : (i most size : ℕ) → i < most → most * size ≤ 134217728 → Fits w64 (i * size)
place_fits i most size h m = scaled_Fits i most size h (omega arith)

pub more : (k count : ℕ) → k < count → k + 1 ≤ count
more k count h = omega arith

pub less : (k count : ℕ) → k < count → count - (k + 1) < count - k
less k count h = omega arith

pub meets : (k count : ℕ) → k ≤ count → count ≤ k → k ≡ count
meets k count h l = omega arith
