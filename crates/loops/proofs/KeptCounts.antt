-- Laws of a loop as the code keeps it: how many notes come in its last pass, and whether it has a count. Assumes nothing.
use mathlib.Core.Path.{◌≡◌, refl}
use mathlib.Core.Option.{Option, none, some}
use Prim.Native.Nat.{ℕ, zero, suc, ◌-◌, ◌≤◌, ◌<◌, min}
use native.Mathlib.Omega.{arith}
use Rattle.loops.specs.Loops.{counted, cut_of, last_count, times_of}

-- ---- how many notes come in the last pass

pub last_all : (start cut m : ℕ) → cut ≡ 0 → (m ≡ last_count start (cut_of cut) m) × (m ≤ m)
unfolding last_count cut_of
last_all start cut m e = (rw e, omega arith)

pub last_before : (start cut m n : ℕ) → 0 < cut → n ≡ min (cut - 1 - start) m → (n ≡ last_count start (cut_of cut) m) × (n ≤ m)
unfolding last_count cut_of
last_before start zero m n h e = absurd (omega arith)
last_before start (suc k) m n h e = (omega arith, omega arith)

-- ---- its count

pub counted_none : (t : Option ℕ) → times_of t ≡ 0 → counted t ≡ none
unfolding times_of counted
counted_none none e = refl
counted_none (some zero) e = refl
counted_none (some (suc n)) e = absurd (omega arith)

pub counted_some : (t : Option ℕ) → 0 < times_of t → counted t ≡ some (times_of t)
unfolding times_of counted
counted_some none h = absurd (omega arith)
counted_some (some zero) h = absurd (omega arith)
counted_some (some (suc n)) h = refl
