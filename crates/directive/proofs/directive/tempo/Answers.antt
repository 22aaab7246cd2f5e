-- `tempo` is what `number` answers, as a tempo. Assumes nothing.
use Rattle.std.proofs.lemmas.Result.{err_from_is_err_and}
use Rattle.directive.proofs.Rows.{tempo_to, tempo_refused}
use Rattle.directive.proofs.directive.tempo.Goals as goal

pub returns-in_err-tempo : goal.returns-in_err-tempo
returns-in_err-tempo c = λ line.
    let p = err_from_is_err_and c.from_residual.result c.from_residual.ensures.1 in
    rw (p.1, p.2) (tempo_refused _ _ line _ (c.in_err-tempo.ensures line))

pub returns : goal.returns
returns c = λ line. tempo_to _ _ line _ (c.in_ok-tempo.ensures line)
