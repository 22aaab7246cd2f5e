-- `loops::repeat::repeat` meets its contract. The loop keeps `Repeating`: up to the place of the next element the column is what
-- it is to be, and from there on what it was. Assumes nothing.
use Rattle.std.proofs.Common.{ℕ, get_or, ap, ◌∙◌, arith}
use Rattle.loops.proofs.Repeats.{laid_none, laid_long, laid_far, repeat_start, repeat_more, repeat_end}
use Rattle.loops.proofs.repeat.repeat.Goals as goal
use Rattle.loops.proofs.repeat.repeat.Goals.{
  then-start-n-via-then-start-n,
  then-start-n-via-else-start-n+then-n-xs,
  then-start-n-via-else-start-n+else-n-xs+then-end-xs,
}

pub returns-then-start-n : goal.returns-then-start-n
returns-then-start-n g c =
    elim c.then-start-n.branch [
      | then-start-n-via-then-start-n w ↦ laid_none _ _ _ _ w.if-start-n.true
      | then-start-n-via-else-start-n+then-n-xs w ↦ laid_long _ _ _ _ w.if-start-n.false w.if-n-xs.true
      | then-start-n-via-else-start-n+else-n-xs+then-end-xs w ↦ laid_far _ _ _ _ w.if-start-n.false w.if-n-xs.false w.if-end-xs.true
    ]

pub loop-to-init : goal.loop-to-init
loop-to-init g c = repeat_start _ _ _ _ c.if-start-n.false c.if-n-xs.false c.if-end-xs.false

pub loop-to-preserved : goal.loop-to-preserved
loop-to-preserved g c =
    repeat_more _ _ _ _ c.if-start-n.false c.if-n-xs.false c.if-end-xs.false _ _ _ _ c.loop-to.invariant c.loop-to-test.true
    (c.index-xs-to.is ∙ ap (λ (k : ℕ). get_or c.loop-to.xs k c.index-xs-to.result) (omega arith))

pub returns : goal.returns
returns g c =
    repeat_end _ _ _ _ c.if-start-n.false c.if-n-xs.false c.if-end-xs.false _ _ c.loop-to.invariant c.loop-to-test.false
