-- `read_block` walks line by line and keeps `Reading`; each exit cites one of its laws. Assumes nothing.
use Rattle.std.proofs.Common.{sym, ◌∙◌, arith}
use Rattle.lines.proofs.LinePlaces.{line_placed}
use Rattle.operators.specs.Answers.{outcome_of}
use Rattle.blocks.proofs.Reading.{reading_start, narrow_numbers, narrow_shape, answered_end, answered_other, answered_refused, line_room, reading_more}
use Rattle.blocks.proofs.block.read_block.Goals as goal
use Rattle.blocks.proofs.block.read_block.Goals.{then-numbers-via-then-numbers, then-numbers-via-else-numbers+then-shape}

pub returns-then-numbers : goal.returns-then-numbers
returns-then-numbers c =
    elim c.then-numbers.branch [
      | then-numbers-via-then-numbers w ↦ narrow_numbers _ _ _ _ _ w.if-numbers.true
      | then-numbers-via-else-numbers+then-shape w ↦ narrow_shape _ _ _ _ _ w.if-numbers.false w.if-shape.true
    ]

pub loop-place-init : goal.loop-place-init
loop-place-init c = reading_start _ _ _ _ _ c.if-numbers.false c.if-shape.false

pub slice_bounds-text-count : goal.slice_bounds-text-count
slice_bounds-text-count c = (line_placed _ _ _ c.line_at-line.ensures c.loop-place-test.true).from

pub slice_bounds-text-start : goal.slice_bounds-text-start
slice_bounds-text-start c = (line_placed _ _ _ c.line_at-line.ensures c.loop-place-test.true).from

pub slice_bounds-text-end : goal.slice_bounds-text-end
slice_bounds-text-end c = (line_placed _ _ _ c.line_at-line.ensures c.loop-place-test.true).within

pub returns-then-is_end : goal.returns-then-is_end
returns-then-is_end c =
    answered_other _ _ _ _ _ _ _ _ _ _ c.loop-place.invariant _ _ (line_placed _ _ _ c.line_at-line.ensures c.loop-place-test.true) (sym c.is_end.ensures ∙ c.if-is_end.true)

pub returns-in-Err : goal.returns-in-Err
unfolding outcome_of
returns-in-Err c =
    answered_refused _ _ _ _ _ _ _ _ _ _ c.loop-place.invariant _ _ (line_placed _ _ _ c.line_at-line.ensures c.loop-place-test.true) (sym c.is_end.ensures ∙ c.if-is_end.false) _
    (λ line. c.in-Err.ensures line)

pub put-requires-clause-few : goal.put-requires-clause-few
unfolding outcome_of
put-requires-clause-few c =
    line_room _ _ _ _ _ _ _ _ _ _ c.loop-place.invariant _ _ (line_placed _ _ _ c.line_at-line.ensures c.loop-place-test.true) (sym c.is_end.ensures ∙ c.if-is_end.false) _ _
    (λ line. c.in-Ok.ensures line)

pub loop-place-smaller : goal.loop-place-smaller
loop-place-smaller c = let l = line_placed _ _ _ c.line_at-line.ensures c.loop-place-test.true in omega (arith, l.onward, l.inside)

pub loop-place-preserved : goal.loop-place-preserved
unfolding outcome_of
loop-place-preserved c =
    let p = c.put in
    reading_more _ _ _ _ _ _ _ _ _ _ c.loop-place.invariant _ _ (line_placed _ _ _ c.line_at-line.ensures c.loop-place-test.true) (sym c.is_end.ensures ∙ c.if-is_end.false) _ _
    (λ line. c.in-Ok.ensures line) _ _ p.auto.numbers p.auto.shape p.ensures.lines (p.ensures.numbers, p.ensures.shape)

pub returns : goal.returns
returns c = answered_end _ _ _ _ _ _ _ _ _ _ c.loop-place.invariant c.loop-place-test.false
