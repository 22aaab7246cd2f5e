-- `value_command` is what `ranged_value` answers, put into the environment. Assumes nothing.
use Rattle.std.proofs.lemmas.Result.{err_from_is_err_and}
use Rattle.settings.specs.Changes.{value_read}
use Rattle.settings.proofs.Changing.{put, refused_as}
use Rattle.settings.proofs.command.value_command.Goals as goal

pub returns-in_err-value : goal.returns-in_err-value
unfolding value_read
returns-in_err-value c = λ line.
    let p = err_from_is_err_and c.from_residual.result c.from_residual.ensures.1 in
    rw (p.1, p.2) (refused_as _ _ line _ (c.in_err-value.ensures line))

pub returns : goal.returns
unfolding value_read
returns c = λ line. put _ _ line _ (c.in_ok-value.ensures line)
