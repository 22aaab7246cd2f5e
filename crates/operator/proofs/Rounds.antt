-- Laws of rounds: one more round, none left, and that a level which has passed changes nothing however often.
-- Assumes nothing.
use mathlib.Core.List.{List}
use mathlib.Core.Path.{◌≡◌, refl, sym, ap, ◌∙◌}
use Prim.Native.Nat.{ℕ, zero, suc, ◌+◌, ◌-◌, ◌<◌}
use native.Mathlib.Omega.{arith}
use lib.Ieee.{Float}
use Rattle.operator.specs.declared.operator.Operator.{Operator}
use Rattle.std.specs.Prelude.{None}
use Rattle.operator.specs.Evaluation.{rounds}
use Rattle.operator.specs.Lent.{worked_by}

-- with i of n rounds done, one more
pub rounds_more : (n i : ℕ) (h : Float → Float) (x y : Float) → i < n → y ≡ h x → rounds (n - i) h x ≡ rounds (n - (i + 1)) h y
unfolding rounds
rounds_more n i h x y l e =
    let k : n - i ≡ suc (n - (i + 1)) = omega arith in
    ap (λ (j : ℕ). rounds j h x) k ∙ ap (rounds (n - (i + 1)) h) (sym e)

-- with all of them done, none is left
pub rounds_done : (n i : ℕ) (h : Float → Float) (x : Float) → n - i ≡ 0 → rounds (n - i) h x ≡ x
unfolding rounds
rounds_done n i h x e = ap (λ (k : ℕ). rounds k h x) e

-- past the envelope the input passes unchanged
pub rounds_past : (n : ℕ) (table : List ℕ) (op : Operator) (f t x : Float) → rounds n (worked_by table op f t None) x ≡ x
unfolding rounds worked_by
rounds_past zero table op f t x = refl
rounds_past (suc n) table op f t x = rounds_past n table op f t x
