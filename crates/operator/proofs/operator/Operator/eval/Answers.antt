-- `eval` is `eval_by` with document 01's table.
-- Assumes nothing.
use mathlib.Core.Path.{ap, ◌∙◌}
use mathlib.Core.List.{List}
use Prim.Native.Nat.{ℕ}
use Rattle.operator.specs.Lent.{operator_by}
use Rattle.operator.proofs.Lent.{by_quarter}
use Rattle.operator.proofs.operator.Operator.eval.Goals as goal

pub returns : goal.returns
returns c =
    let a = c.args in
    c.eval_by.ensures
    ∙ ap (λ (table : List ℕ). operator_by table a.f a.d a.t a.self a.input) c.table-table.ensures
    ∙ by_quarter a.f a.d a.t a.self a.input
