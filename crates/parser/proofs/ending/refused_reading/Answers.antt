-- `refused_reading` has the empty sheet and no steps. Assumes nothing.
use mathlib.Core.Path.{ap}
use Rattle.sheet.specs.declared.sheet.Sheet.{Sheet}
use Rattle.meaning.specs.Layout.{laid_out}
use Rattle.parser.proofs.ending.refused_reading.Goals as goal

pub returns : goal.returns
unfolding laid_out
returns c =
    let a = c.args in
    ap (λ (x : Sheet). record { refusal = a.refusal; line = a.line; steps = 0; sheet = x }) c.empty_sheet.ensures
