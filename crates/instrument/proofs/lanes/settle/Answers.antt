-- `settle` does to each lane's stack what the machine does: three cases by the depth and the top count (`LaneStacks`).
-- Assumes nothing.
use Rattle.std.proofs.Common.{◌≡◌, ◌+◌, ◌-◌, ◌*◌, length, get_or, slice_range, ap, ◌∙◌, arith, rules}
use Rattle.std.proofs.lemmas.List.Edits.{get_or-between}
use lib.Ieee.{nan, binary32, add}
use Rattle.sine.proofs.LaneLaws.{lanes_as}
use Rattle.instrument.proofs.LaneStacks.{settles_none, settles_add, settles_less}
use Rattle.instrument.proofs.lanes.settle.Goals as goal

pub returns-then-depth-eq0 : goal.returns-then-depth-eq0
returns-then-depth-eq0 c = let a = c.args in settles_none (length a.values.now) a.depth a.values.now a.counts.now a.saved.now c.if-depth-eq0.true

pub returns-then-left-eq0 : goal.returns-then-left-eq0
returns-then-left-eq0 c =
    let a = c.args in
    let w = length a.values.now in
    let from = (a.depth - 1) * w in
    settles_add (length a.values.now) a.depth a.values.now a.counts.now a.saved.now (a.depth - 1) _ (omega arith) (omega arith)
    (lanes_as _ (λ j x. add binary32 x (get_or a.saved.now (from + j) nan)) nan _ _ _
    (λ j x y l k.
    let e : y ≡ add binary32 x (get_or (slice_range a.saved.now from (from + w)) j nan) = search rules in
    e ∙ ap (add binary32 x) (get_or-between a.saved.now from (from + w) j nan (omega (arith, l))))
    (c.each_lane.ensures nan))

pub returns : goal.returns
returns c =
    let a = c.args in
    settles_less (length a.values.now) a.depth a.values.now a.counts.now a.saved.now (a.depth - 1) _ (omega arith) (omega arith) (omega arith)
