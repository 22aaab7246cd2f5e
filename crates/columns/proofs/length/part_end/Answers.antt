-- `part_end` goes through the notes: what it has as end, with the end of the rest, is the end of all. Assumes nothing.
use Rattle.std.proofs.Common.{◌≡◌, ℕ, List, length, take, get_or, min, ap, ◌∙◌, arith}
use lib.Seq.{length-take-le}
use lib.Ieee.{nan}
use Rattle.columns.specs.Columns.{notes_in}
use Rattle.sheet.specs.Lengths.{end_of}
use Rattle.sheet.proofs.Basics.{take_least}
use Rattle.columns.proofs.Ends.{ending_start, ending_more, ending_end}
use Rattle.columns.proofs.length.part_end.Goals as goal

pub loop-i-init : goal.loop-i-init
loop-i-init c = ending_start _ _ _ _

pub overflow_add-start : goal.overflow_add-start
overflow_add-start c =
    let there = length-take-le c.min-most.result c.args.instruments.now (omega arith) in
    omega (arith, there, c.samples.ensures.1, c.loop-i.invariant.short)

pub loop-i-preserved : goal.loop-i-preserved
loop-i-preserved c =
    ending_more _ _ _ _ _ _ _ c.loop-i.invariant _ _ _ _ _ c.loop-i-test.true
    c.number_at-duration.ensures
    (c.release_at-release.ensures ∙ ap (λ (j : ℕ). get_or c.args.releases.now j nan) c.from.ensures)
    c.samples.ensures.0
    c.samples-start.ensures.0
    c.samples-start.ensures.1
    (c.max-end.ensures ∙ omega arith)

pub returns : goal.returns
returns c =
    let g = c.args in
    let is = g.instruments.now in
    let all : c.min-most.result ≡ min (min g.count 2048) (length is) = omega arith in
    ending_end _ _ _ _ _ _ _ c.loop-i.invariant c.loop-i-test.false
    ∙ ap (λ (js : List ℕ). end_of g.rate g.releases.now 0 (notes_in g.floats.now js))
    (ap (λ (k : ℕ). take k is) all ∙ take_least (min g.count 2048) is)
