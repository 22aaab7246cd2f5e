-- `sines` goes on from its sum over the patterns that are left, a block after the other (`Runs`), and what that gives never changes. The
-- measure is how many patterns are left. Assumes nothing.
use Rattle.std.proofs.Common.{sym, refl, ◌∙◌, arith, rules}
use Rattle.ask_numbers.proofs.Runs.{mapped_size, goes_on, none_left}
use Rattle.ask_numbers.proofs.sines.sines.Goals as goal

pub loop-left-init : goal.loop-left-init
loop-left-init c = (refl, search rules, search rules, search rules, refl)

pub fill-requires : goal.fill-requires
fill-requires c = c.loop-left.invariant.0

pub slice_bounds-sines_by-end : goal.slice_bounds-sines_by-end
slice_bounds-sines_by-end c = sym (c.fill.ensures.size ∙ c.loop-left.invariant.0)

pub mix_lanes-sum-requires : goal.mix_lanes-sum-requires
mix_lanes-sum-requires c = (c.loop-left.invariant.1, omega (arith, c.min-n.ensures))

pub overflow_sub-left : goal.overflow_sub-left
overflow_sub-left c = omega (arith, c.min-n.ensures)

pub loop-left-smaller : goal.loop-left-smaller
loop-left-smaller c = omega (arith, c.min-n.ensures, c.loop-left-test.true)

pub loop-left-preserved : goal.loop-left-preserved
loop-left-preserved c =
    let l = c.loop-left in
    let g = c.fill in
    let f = g.ensures in
    let e = c.sines_by.ensures in (
      mapped_size c.args.table.now g.new.values _ e ∙ f.size ∙ l.invariant.0,
      c.mix_lanes-sum.ensures.1,
      omega (arith, l.invariant.2),
      omega arith,
      goes_on l.sum l.pattern l.left _ _ g.new.values _ c.args.table.now l.invariant.3 c.requires f e c.min-n.ensures c.mix_lanes-sum.ensures.0
          refl
          ∙ l.invariant.4,
    )

pub returns : goal.returns
returns c = none_left c.loop-left.sum c.loop-left.pattern c.loop-left.left (omega (arith, c.loop-left-test.false)) ∙ c.loop-left.invariant.4
