-- `notes_in` sums the counts and stops at 2,049: the sum so far with the counts still to come is the sum of all, cut at 2,049. Assumes nothing.
use Rattle.std.proofs.Common.{◌≡◌, ℕ, ◌+◌, ◌-◌, ◌≤◌, min, length, take, ap, ◌∙◌, arith}
use lib.Seq.{take-length}
use Rattle.sheet.specs.Parts.{total}
use Rattle.handed.proofs.Cuts.{take_cut}
use Rattle.handed.proofs.Totals.{total_next, total_end}
use Rattle.handed.proofs.check.notes_in.Goals as goal

-- a sum that is cut at 2,049, over plain numbers
sum_next : (sum d count rest all whole : ℕ) → d ≡ min (2049 - sum) count → sum ≤ 2049 → min (sum + all) 2049 ≡ whole → all ≡ count + rest → min (sum + d + rest) 2049 ≡ whole
sum_next sum d count rest all whole e h g f = omega arith

pub loop-count-init : goal.loop-count-init
loop-count-init c =
    let a = c.args in
    let all = take-length (take c.min-most.result a.counts) ∙ take_cut a.counts a.parts 16 c.min-most.result c.well_formed.0.1.0.1 c.min-most.ensures in
    (omega arith, omega (arith, ap total all))

pub loop-count-preserved : goal.loop-count-preserved
loop-count-preserved c =
    let l = c.loop-count in
    let xs = take c.min-most.result c.args.counts in
    let next = total_next xs (length xs) l.count-index c.loop-count-test.true (omega arith) in
    (omega arith, sum_next l.sum c.min-sum.result _ _ _ _ c.min-sum.ensures l.invariant.0 l.invariant.1 next)

pub returns : goal.returns
returns c =
    let l = c.loop-count in
    let xs = take c.min-most.result c.args.counts in
    omega (arith, total_end xs (length xs) l.count-index (omega arith))
