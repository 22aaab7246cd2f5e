-- When a note sounds: before its start and from its end on it does not, in between it does; so by the case a sample is mixed or stays. Assumes nothing.
use mathlib.Core.Path.{◌≡◌}
use mathlib.Core.Bool.{true, false, and-false}
use Prim.Native.Nat.{ℕ, ◌-◌, ◌≤◌, ◌<◌}
use lib.Dec.{leb}
use lib.Ieee.{Float}
use borrow.Author.Tests.{le-leb, lt-leb, lt-ltb, le-ltb}
use Rattle.instrument.specs.Fill.{mixed}
use Rattle.mixing.specs.Sounding.{Placed, end_of, sounds_at}
use Rattle.mixing.specs.Mixing.{mix_at}

pub sounds_in : (k : ℕ) (p : Placed) → p.start ≤ k → k < end_of p → sounds_at k p ≡ true
unfolding sounds_at
sounds_in k p a b = rw (le-leb p.start k a, lt-ltb k (end_of p) b)

pub sounds_before : (k : ℕ) (p : Placed) → k < p.start → sounds_at k p ≡ false
unfolding sounds_at
sounds_before k p a = rw (lt-leb p.start k a)

pub sounds_after : (k : ℕ) (p : Placed) → end_of p ≤ k → sounds_at k p ≡ false
unfolding sounds_at
sounds_after k p a = rw (le-ltb k (end_of p) a) (and-false (leb p.start k))

-- a sample where it sounds
pub mix_true : (covered : ℕ) (p : Placed) (k : ℕ) (x : Float) → sounds_at k p ≡ true → mix_at covered p k x ≡ mixed covered k x (p.sound (k - p.start))
unfolding mix_at
mix_true covered p k x s = rw (s, mix_at)

-- and one where it does not
pub mix_false : (covered : ℕ) (p : Placed) (k : ℕ) (x : Float) → sounds_at k p ≡ false → mix_at covered p k x ≡ x
unfolding mix_at
mix_false covered p k x s = rw (s, mix_at)
