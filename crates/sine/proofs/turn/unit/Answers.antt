-- `unit` compares two upper halves: x's sign bit, and the last two quarters. Where they agree the result is not negative.
-- Assumes nothing.
use Rattle.std.proofs.Common.{◌≡◌, ℕ, ◌/◌, ◌^◌, ◌<◌, Bool, true, false, leb, negsuc, sym, refl, ap, arith, leb-false, leb-true}
use lib.Ieee.{fin, unlike, of_bits, neg}
use Rattle.sine.specs.Turn.{quarter_of}
use Rattle.sine.proofs.turn.unit.Goals as goal

module _ (b p : ℕ) (fb : b < 2 ^ 32) (fp : p < 2 ^ 32) where
  -- both in their upper halves, or neither
  alike : b / 2 ^ 31 ≡ p / 2 ^ 31 → unlike (leb (2 ^ 31) b) (leb 2 (quarter_of p)) ≡ false
  unfolding quarter_of
  alike e = go (leb (2 ^ 31) b) (leb 2 (p / 2 ^ 30)) refl refl
    where
      go : (s t : Bool) → leb (2 ^ 31) b ≡ s → leb 2 (p / 2 ^ 30) ≡ t → unlike s t ≡ false
      go true true u v = refl
      go true false u v = absurd (omega (arith, leb-true, leb-false))
      go false true u v = absurd (omega (arith, leb-true, leb-false))
      go false false u v = refl

  -- one of the two
  other : (b / 2 ^ 31 ≡ p / 2 ^ 31 → ⊥) → unlike (leb (2 ^ 31) b) (leb 2 (quarter_of p)) ≡ true
  unfolding quarter_of
  other e = go (leb (2 ^ 31) b) (leb 2 (p / 2 ^ 30)) refl refl
    where
      go : (s t : Bool) → leb (2 ^ 31) b ≡ s → leb 2 (p / 2 ^ 30) ≡ t → unlike s t ≡ true
      go true true u v = absurd (e (omega (arith, leb-true, leb-false)))
      go true false u v = refl
      go false true u v = refl
      go false false u v = absurd (e (omega (arith, leb-true, leb-false)))

pub returns-then-bits-p : goal.returns-then-bits-p
unfolding of_bits
returns-then-bits-p c = sym (ap (λ (s : Bool). fin s 1 (negsuc 23)) (alike _ _ c.ranges.bits.fits c.ranges.p.fits c.if-bits-p.true))

pub returns : goal.returns
unfolding of_bits neg
returns c = sym (ap (λ (s : Bool). fin s 1 (negsuc 23)) (other _ _ c.ranges.bits.fits c.ranges.p.fits c.if-bits-p.false))
