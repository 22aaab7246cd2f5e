-- `eval_by` works at the level of its envelope; past the envelope, feedback + 1 rounds change nothing.
-- Assumes nothing.
use mathlib.Core.Path.{sym, ap, ◌∙◌}
use Prim.Native.Nat.{suc}
use Rattle.std.specs.Prelude.{Option, Float}
use Rattle.operator.specs.Evaluation.{rounds}
use Rattle.operator.specs.Lent.{worked_by, operator_by}
use Rattle.operator.proofs.Rounds.{rounds_past}
use Rattle.operator.proofs.operator.Operator.eval_by.Goals as goal

pub returns-in-Some : goal.returns-in-Some
unfolding operator_by
returns-in-Some c =
    let a = c.args in
    let l = c.level in
    c.rounds.ensures
    ∙ ap (λ (k : Option Float). rounds (suc a.self.feedback) (worked_by a.table.now a.self a.f a.t k) a.input) (sym c.in-Some.is ∙ l.ensures)

pub returns-in-None : goal.returns-in-None
unfolding operator_by
returns-in-None c =
    let a = c.args in
    let l = c.level in
    sym (rounds_past (suc a.self.feedback) a.table.now a.self a.f a.t a.input)
    ∙ ap (λ (k : Option Float). rounds (suc a.self.feedback) (worked_by a.table.now a.self a.f a.t k) a.input) (sym c.in-None.is ∙ l.ensures)
