-- `number` is what `ranged_value` answers, once the token is read to its end. Assumes nothing.
use mathlib.Core.Path.{sym, ◌∙◌}
use Rattle.std.proofs.lemmas.Result.{err_from_is_err_and}
use Rattle.directive.proofs.Rows.{number_to, number_tailed, number_refused}
use Rattle.directive.proofs.directive.number.Goals as goal

pub returns-in_err-number : goal.returns-in_err-number
returns-in_err-number c = λ line.
    let p = err_from_is_err_and c.from_residual.result c.from_residual.ensures.1 in
    rw (p.1, p.2) (number_refused _ _ _ _ c.eat_int-n.ensures line _ (c.in_err-number.ensures line))

pub returns-then-has_tail : goal.returns-then-has_tail
returns-then-has_tail c = λ line.
    number_tailed _ _ _ _ c.eat_int-n.ensures line _ _ (c.in_ok-number.ensures line) c.run_stop.ensures (sym c.has_tail.ensures ∙ c.if-has_tail.true)

pub returns : goal.returns
returns c = λ line.
    number_to _ _ _ _ c.eat_int-n.ensures line _ _ (c.in_ok-number.ensures line) c.run_stop.ensures (sym c.has_tail.ensures ∙ c.if-has_tail.false)
