-- `longest` goes through the parts: what it has as end, with the end of the parts to come, is the end of all. Assumes nothing.
use Rattle.std.proofs.Common.{ap, ◌∙◌}
use Rattle.layout.specs.Layout.{longest_from}
use Rattle.layout.proofs.Longest.{longest_start, longest_more, longest_end}
use Rattle.layout.proofs.parts.longest.Goals as goal

pub loop-k-init : goal.loop-k-init
loop-k-init c = longest_start _ _ _ _ _ _

pub loop-k-preserved : goal.loop-k-preserved
loop-k-preserved c = longest_more _ _ _ _ _ _ _ _ c.loop-k.invariant _ _ c.loop-k-test.true c.end_at-ends.ensures c.max-end.ensures

pub returns : goal.returns
returns c = longest_end _ _ _ _ _ _ _ _ c.loop-k.invariant c.loop-k-test.false ∙ ap (longest_from _ _ _ _ _ 0) c.min-k-end.ensures
