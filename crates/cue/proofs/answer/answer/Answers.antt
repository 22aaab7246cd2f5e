-- `answer` hands on what the reading asks for. Assumes nothing.
use Rattle.cue.proofs.Readings.{read_passes, answer_line, answer_file}
use Rattle.cue.proofs.answer.answer.Goals as goal

pub hand_line-requires : goal.hand_line-requires
hand_line-requires g c =
    let r = c.read-reading in
    record { fresh = c.requires; answer = answer_line c.args.mode c.args.source.now r.result r.ensures c.args.size c.if-reading-ne0.true }

pub hand_file-requires : goal.hand_file-requires
hand_file-requires g c =
    let r = c.read-reading in
    record { fresh = c.requires; answer = (answer_file c.args.mode c.args.source.now r.result r.ensures c.args.size c.if-reading-ne0.false, read_passes c.args.mode c.args.source.now r.result r.ensures) }
