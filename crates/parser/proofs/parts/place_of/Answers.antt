-- `place_of` asks `place_named` of the first names. Assumes nothing.
use Rattle.parser.proofs.PartReads.{first_places}
use Rattle.parser.proofs.parts.place_of.Goals as goal

pub returns : goal.returns
returns c =
    first_places c.args.source.now c.args.name.now c.args.loops.now c.args.parts c.place_named.result c.requires.0 c.place_named.ensures.meant
