-- `three_at` chains three numbers: what is read goes in front, and a refusal ends the reading. Assumes nothing.
use Rattle.std.proofs.lemmas.Result.{err_from_is_err_and}
use Rattle.operators.proofs.Steps.{passed_more, passed_stopped, stopped_more}
use Rattle.operators.proofs.line.three_at.Goals as goal

pub returns-in_err-first : goal.returns-in_err-first
returns-in_err-first c =
    let p = err_from_is_err_and c.from_residual.result c.from_residual.ensures.1 in
    rw (p.1, p.2) (stopped_more _ c.args.text.now c.args.at 1 _ 2 c.in_err-first.ensures)

pub returns-in_err-second : goal.returns-in_err-second
returns-in_err-second c =
    let p = err_from_is_err_and c.from_residual-in_err-second.result c.from_residual-in_err-second.ensures.1 in
    rw (p.1, p.2)
    (passed_stopped _ _ _ _ _ c.in_ok-first.ensures 2 _ (stopped_more _ c.args.text.now c.in_ok-first.first.next 1 _ 1 c.in_err-second.ensures))

pub returns-in_err-third : goal.returns-in_err-third
returns-in_err-third c =
    let p = err_from_is_err_and c.from_residual-in_err-third.result c.from_residual-in_err-third.ensures.1 in
    rw (p.1, p.2)
    (passed_stopped _ _ _ _ _ (passed_more _ _ _ _ _ c.in_ok-first.ensures _ _ c.in_ok-second.ensures) 1 _ c.in_err-third.ensures)

pub returns : goal.returns
returns c = passed_more _ _ _ _ _ (passed_more _ _ _ _ _ c.in_ok-first.ensures _ _ c.in_ok-second.ensures) _ _ c.in_ok-third.ensures
