-- `run` keeps a `RunningLanes`: what is left of the commands, run from the lanes' state, gives what all of them give.
-- Assumes nothing.
use Rattle.std.proofs.Common.{◌≡◌, ◌<◌, ◌≤◌, ℕ, min, length, get_or, get_or-take, length-take, ap, refl, arith, rules}
use lib.Ieee.{nan, of_bits}
use Rattle.ieee.specs.Constants.{plus_zero}
use Rattle.instrument.specs.declared.machine.Slot.{Slot}
use Rattle.instrument.proofs.Running.{lanes_start, lanes_step, lanes_end}
use Rattle.instrument.proofs.machine.Instrument.run.Goals as goal

pub loop-slot-init : goal.loop-slot-init
unfolding of_bits
loop-slot-init c =
    let a = c.args in
    let zero : (j : ℕ) → j < length a.values.now → get_or c.fill.new.self j nan ≡ plus_zero = λ j l. c.fill.ensures.clones j nan l refl in
    lanes_start _ _ _ _ _ _ _ _ _ c.requires.times c.told-counts c.requires.saved c.fill.ensures.len zero

pub step-depth-requires : goal.step-depth-requires
step-depth-requires c =
    let l = c.loop-slot in
    let r = l.invariant in
    record {
      depth = omega (arith, r.shallow, c.loop-slot-test.true, c.min.ensures, length-take {A = Slot});
      lanes = omega (arith, r.values_size, c.requires.lanes);
      saved = omega (arith, r.saved_size, r.values_size);
      times = omega (arith, r.values_size, r.timed);
    }

pub loop-slot-preserved : goal.loop-slot-preserved
loop-slot-preserved c =
    let l = c.loop-slot in
    let commands : length c.args.self.now.commands ≡ 64 = search rules in
    let k : l.slot-index < min c.args.self.now.count 64 = omega (arith, c.loop-slot-test.true, c.min.ensures, length-take {A = Slot}) in
    let command = ap (λ (s : Slot). s.command) (get_or-take c.min.result c.args.self.now.commands l.slot-index _ (omega (arith, k, c.min.ensures))) in
    lanes_step _ _ _ _ _ _ _ _ _ _ _ _ _ _ _ _ _ _ k commands command l.invariant.values_size l.invariant c.step-depth.ensures

pub returns : goal.returns
returns c =
    let commands : length c.args.self.now.commands ≡ 64 = search rules in
    let k : min c.args.self.now.count 64 ≤ c.loop-slot.slot-index = omega (arith, commands, c.loop-slot-test.false, c.min.ensures, length-take {A = Slot}) in
    lanes_end _ _ _ _ _ _ _ _ _ _ _ k commands c.loop-slot.invariant
