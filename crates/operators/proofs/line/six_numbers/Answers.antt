-- `six_numbers` chains three numbers and three. Assumes nothing.
use Rattle.std.proofs.lemmas.Result.{err_from_is_err_and}
use Rattle.operators.proofs.Steps.{passed_more, passed_stopped, stopped_more}
use Rattle.operators.proofs.line.six_numbers.Goals as goal

pub returns-in_err-front : goal.returns-in_err-front
returns-in_err-front c =
    let p = err_from_is_err_and c.from_residual.result c.from_residual.ensures.1 in
    rw (p.1, p.2) (stopped_more _ c.args.text.now 0 3 _ 3 c.in_err-front.ensures)

pub returns-in_err-back : goal.returns-in_err-back
returns-in_err-back c =
    let p = err_from_is_err_and c.from_residual-in_err-back.result c.from_residual-in_err-back.ensures.1 in
    rw (p.1, p.2) (passed_stopped _ _ _ _ _ c.in_ok-front.ensures 3 _ c.in_err-back.ensures)

pub returns : goal.returns
returns c = passed_more _ _ _ _ _ c.in_ok-front.ensures _ _ c.in_ok-back.ensures
