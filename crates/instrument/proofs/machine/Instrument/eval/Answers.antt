-- `eval` runs the commands on one lane. Assumes nothing.
use Rattle.std.proofs.Common.{ℕ, List, ap, ◌∙◌, lit<}
use Rattle.instrument.specs.Lent.{instrument_by}
use Rattle.instrument.proofs.Lent.{instrument_quarter}
use Rattle.instrument.proofs.machine.Instrument.eval.Goals as goal

pub returns : goal.returns
returns c =
    let a = c.args in
    c.run.ensures 0 (lit< tt) ∙ ap (λ (table : List ℕ). instrument_by table a.f a.d a.t a.self) c.table-table.ensures ∙ instrument_quarter a.f a.d a.t a.self
