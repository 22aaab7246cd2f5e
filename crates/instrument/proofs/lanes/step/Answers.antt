-- `step` is the machine's step in each lane, an arm for each kind of command (`LaneStacks`).
-- Assumes nothing.
use Rattle.std.proofs.Common.{◌*◌, ◌+◌, ◌-◌, length, get_or, slice_range, refl, ◌∙◌, arith, rules}
use Rattle.std.proofs.lemmas.List.Edits.{length-between}
use lib.Ieee.{nan, of_bits}
use Rattle.operator.specs.Lanes.{Lanes}
use Rattle.sine.proofs.LaneLaws.{lanes_as, lanes_to}
use Rattle.instrument.proofs.LaneStacks.{row_within, keeps_row, steps_operator, steps_stack}
use Rattle.instrument.proofs.lanes.step.Goals as goal

pub returns-in-Operator : goal.returns-in-Operator
returns-in-Operator c =
    let a = c.args in
    let k = c.in-Operator.is in
    steps_operator a.table.now a.f a.d a.times.now (length a.values.now) a.depth a.values.now a.counts.now a.saved.now _ a.command _ _ _ _ k refl c.requires.times c.work.ensures c.settle.ensures

pub returns-in-Stack : goal.returns-in-Stack
unfolding of_bits
returns-in-Stack c =
    let a = c.args in
    let w = length a.values.now in
    let from = a.depth * w in
    let kept : Lanes (λ j x. get_or a.values.now j nan) w (slice_range a.saved.now from (from + w)) c.each_lane.new.lanes =
    lanes_to _ nan _ w _ _ (length-between a.saved.now from (from + w) (row_within _ _ _ c.requires.depth c.requires.saved) ∙ omega arith)
    (lanes_as _ (λ j x. get_or a.values.now j nan) nan _ _ _ (λ j x y l k. search rules) (c.each_lane.ensures nan)) in
    steps_stack a.table.now a.f a.d a.times.now w a.depth a.values.now a.counts.now a.saved.now _ a.command _ _ c.in-Stack.is refl c.requires.times (omega (arith, c.requires.depth))
    (keeps_row _ _ _ _ _ (row_within _ _ _ c.requires.depth c.requires.saved) kept) (λ j l. c.fill.ensures.clones j nan l refl) c.fill.ensures.len
