-- `power` keeps the value that the definition still has to make of what is left of the exponent: one turn takes its lowest digit.
-- Assumes nothing.
use Rattle.std.proofs.Common.{true, false, sym, refl, ◌∙◌, arith, eq-eqb, ne_eqb}
use lib.Ieee.{of_bits}
use Rattle.tone.specs.Power.{power_of}
use Rattle.tone.proofs.Powers.{ended, taken}
use Rattle.tone.proofs.power.power.Goals as goal
use Rattle.tone.proofs.power.power.Goals.{then-left-eq1, else-left-eq1}

pub loop-left-init : goal.loop-left-init
unfolding of_bits power_of
loop-left-init c = (omega arith, refl)

pub loop-left-preserved : goal.loop-left-preserved
loop-left-preserved c =
    let l = c.loop-left in
    elim c.if-left-eq1.branch [ then-left-eq1 w ↦ (omega arith, rw w.r-is (taken 32 _ _ _ l.invariant.0 true (eq-eqb _ _ w.if-left-eq1.true) ∙ l.invariant.1)) | else-left-eq1 w ↦ (omega arith, rw w.r-is (taken 32 _ _ _ l.invariant.0 false (ne_eqb _ _ w.if-left-eq1.false) ∙ l.invariant.1)) ]

pub returns : goal.returns
returns c = sym (ended 32 _ _ _ c.loop-left-test.false) ∙ c.loop-left.invariant.1
