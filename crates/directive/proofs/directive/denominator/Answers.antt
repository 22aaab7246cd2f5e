-- `denominator` is what `number` answers, as a denominator. Assumes nothing.
use Rattle.std.proofs.lemmas.Result.{err_from_is_err_and}
use Rattle.directive.proofs.Rows.{denominator_to, denominator_refused}
use Rattle.directive.proofs.directive.denominator.Goals as goal

pub returns-in_err-denominator : goal.returns-in_err-denominator
returns-in_err-denominator c = λ line.
    let p = err_from_is_err_and c.from_residual.result c.from_residual.ensures.1 in
    rw (p.1, p.2) (denominator_refused _ _ line _ (c.in_err-denominator.ensures line))

pub returns : goal.returns
returns c = λ line. denominator_to _ _ line _ (c.in_ok-denominator.ensures line)
