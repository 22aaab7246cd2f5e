-- `read_directive` cuts a line into name and value, and answers what these say. Assumes nothing.
use mathlib.Core.Path.{◌∙◌}
use Rattle.directive.proofs.Rows.{place_within, under_two, value_within, two_tokens}
use Rattle.directive.proofs.directive.read_directive.Goals as goal

pub returns-then-not-two : goal.returns-then-not-two
returns-then-not-two c = under_two _ _ c.name_at-from.ensures c.if-not-two.true _

pub slice_bounds-name-count : goal.slice_bounds-name-count
slice_bounds-name-count c = (place_within _ _ c.name_at-from.ensures).0

pub slice_bounds-name-start : goal.slice_bounds-name-start
slice_bounds-name-start c = (place_within _ _ c.name_at-from.ensures).0

pub slice_bounds-name-end : goal.slice_bounds-name-end
slice_bounds-name-end c = (place_within _ _ c.name_at-from.ensures).1

pub slice_bounds-value-end : goal.slice_bounds-value-end
slice_bounds-value-end c = value_within _ _ c.name_at-from.ensures _ _ c.blanks_end-next.ensures c.ink_end-last.ensures

pub returns : goal.returns
returns c line =
    c.change.ensures line
    ∙ two_tokens _ _ c.name_at-from.ensures _ _
    c.blanks_end-next.ensures c.ink_end-last.ensures
    c.if-not-two.false _ line
