-- Laws of folding and of heights: the cases of each definition, and how far each reaches. The code's parts cite these, and
-- never the definitions' text; the bounds come of the table's rules. Assumes nothing.
use Rattle.std.proofs.Common.{◌≡◌, ℕ, ◌+◌, ◌-◌, ◌*◌, ◌/◌, ◌%◌, ◌^◌, ◌<◌, ◌≤◌, Bool, true, false, eqb, List, get_or, le_trans, le_of_lt, mul-le-mul_left, arith, lit≤, eq-eqb, ne_eqb}
use native.Mathlib.Decide.{ℕ_discrete}
use Rattle.sine.specs.Quarter.{quarter}
use Rattle.sine.specs.Turn.{quarter_of, folded, height}
use Rattle.sine.proofs.Table.{entry, at_most, quarter_wave}

-- ---- folding

-- in the second and fourth quarter
pub folded_back : (p : ℕ) → p / 2 ^ 30 % 2 ≡ 1 → folded p ≡ 2 ^ 30 - p % 2 ^ 30
unfolding quarter_of folded
folded_back p e = rw (eq-eqb _ _ e, folded)

-- in the first and third
pub folded_on : (p : ℕ) → (p / 2 ^ 30 % 2 ≡ 1 → ⊥) → folded p ≡ p % 2 ^ 30
unfolding quarter_of folded
folded_on p e = rw (ne_eqb _ _ e, folded)

-- a fold does not pass the crest
pub folded_le : (p : ℕ) → folded p ≤ 2 ^ 30
unfolding quarter_of folded
folded_le p = go (eqb (p / 2 ^ 30 % 2) 1)
  where
    go : (b : Bool) → elim b [ true ↦ 2 ^ 30 - p % 2 ^ 30 | false ↦ p % 2 ^ 30 ] ≤ 2 ^ 30
    go true = omega arith
    go false = omega arith

-- ---- heights

module _ (table : List ℕ) (u : ℕ) where
  -- at the crest
  pub height_last : u / 2 ^ 20 ≡ 1024 → height table u ≡ get_or table 1024 0
  unfolding height
  height_last e = rw (eq-eqb _ _ e, height)

  -- below it
  pub height_between : (u / 2 ^ 20 ≡ 1024 → ⊥)
      → height table u ≡ get_or table (u / 2 ^ 20) 0 + (get_or table (u / 2 ^ 20 + 1) 0 - get_or table (u / 2 ^ 20) 0) * (u % 2 ^ 20) / 2 ^ 20
  unfolding height
  height_between e = rw (ne_eqb _ _ e, height)

-- the way from an entry a to one b that is no lower, of which r / 2^20 is passed
pub record Step (a b r : ℕ) : Type 0 where
  pub rise : (b - a) * r ≤ (b - a) * 2 ^ 20
  pub part : a + (b - a) * r / 2 ^ 20 ≤ b

partway : (a b r : ℕ) → a ≤ b → (b - a) * r ≤ (b - a) * 2 ^ 20 → a + (b - a) * r / 2 ^ 20 ≤ b
partway a b r h k = omega arith

pub step : (a b r : ℕ) → a ≤ b → r ≤ 2 ^ 20 → Step a b r
step a b r h k = record { rise = mul-le-mul_left (b - a) k; part = partway a b r h (mul-le-mul_left (b - a) k) }

-- and to one that is lower, where the difference is 0
pub stays : (a b r : ℕ) → b < a → a ≡ a + (b - a) * r / 2 ^ 20
stays a b r h = let e : b - a ≡ 0 = omega arith in rw e (omega arith)

-- by T no height is above the crest's
pub height_le : (u : ℕ) → u ≤ 2 ^ 30 → height quarter u ≤ 2 ^ 24
height_le u h = go (ℕ_discrete (u / 2 ^ 20) 1024)
  where
    go : Dec (u / 2 ^ 20 ≡ 1024) → height quarter u ≤ 2 ^ 24
    go (yes e) = rw (height_last quarter u e) (at_most 1024 (lit≤ tt))
    go (no e) =
        let s = step (entry (u / 2 ^ 20)) (entry (u / 2 ^ 20 + 1)) (u % 2 ^ 20) (le_of_lt (quarter_wave.rises (u / 2 ^ 20) (omega arith))) (omega arith) in
        rw (height_between quarter u e) (le_trans s.part (at_most (u / 2 ^ 20 + 1) (omega arith)))
