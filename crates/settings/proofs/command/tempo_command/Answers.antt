-- `tempo_command` is what `ranged_value` answers, put into the environment. Assumes nothing.
use Rattle.std.proofs.lemmas.Result.{err_from_is_err_and}
use Rattle.settings.specs.Changes.{tempo_read}
use Rattle.settings.proofs.Changing.{put, refused_as}
use Rattle.settings.proofs.command.tempo_command.Goals as goal

pub returns-in_err-tempo : goal.returns-in_err-tempo
unfolding tempo_read
returns-in_err-tempo c = λ line.
    let p = err_from_is_err_and c.from_residual.result c.from_residual.ensures.1 in
    rw (p.1, p.2) (refused_as _ _ line _ (c.in_err-tempo.ensures line))

pub returns : goal.returns
unfolding tempo_read
returns c = λ line. put _ _ line _ (c.in_ok-tempo.ensures line)
