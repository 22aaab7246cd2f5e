-- `octave_command` is what `ranged_value` answers, put into the environment. Assumes nothing.
use Rattle.std.proofs.lemmas.Result.{err_from_is_err_and}
use Rattle.settings.specs.Changes.{octave_read}
use Rattle.settings.proofs.Changing.{put, refused_as}
use Rattle.settings.proofs.command.octave_command.Goals as goal

pub returns-in_err-octave : goal.returns-in_err-octave
unfolding octave_read
returns-in_err-octave c = λ line.
    let p = err_from_is_err_and c.from_residual.result c.from_residual.ensures.1 in
    rw (p.1, p.2) (refused_as _ _ line _ (c.in_err-octave.ensures line))

pub returns : goal.returns
unfolding octave_read
returns c = λ line. put _ _ line _ (c.in_ok-octave.ensures line)
