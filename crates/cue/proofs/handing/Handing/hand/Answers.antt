-- `hand` hands the piece to the output, which comes further by its length or takes no more. Assumes nothing.
use Rattle.cue.proofs.Pieces.{moved_on}
use Rattle.cue.proofs.handing.Handing.hand.Goals as goal

pub returns : goal.returns
returns g c =
    moved_on c.args.self _ _ _ c.hand-later.result c.requires.taking c.hand-later.ensures.place
