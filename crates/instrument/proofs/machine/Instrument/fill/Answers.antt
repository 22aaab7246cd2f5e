-- `fill` is `fill_by` with document 01's table.
-- Assumes nothing.
use Rattle.std.proofs.Common.{ℕ, List, ap, ◌∙◌}
use Rattle.instrument.specs.Lent.{filled_by}
use Rattle.instrument.proofs.Lent.{filled_quarter}
use Rattle.instrument.proofs.machine.Instrument.fill.Goals as goal

pub returns : goal.returns
returns c =
    let a = c.args in
    let e = c.fill_by.ensures in record {
      count = e.count;
      values = e.values
          ∙ ap (λ (table : List ℕ). filled_by table a.self a.amplitude a.f a.d a.rate a.first a.added a.out.now) c.table-table.ensures
          ∙ filled_quarter a.self a.amplitude a.f a.d a.rate a.first a.added a.out.now;
    }
