-- `nothing_sofar` fills its arrays with the starting environment and with 0. Assumes nothing.
use Rattle.parser.specs.Columns.{nothing_sofar}
use Rattle.parser.proofs.walk.nothing_sofar.Goals as goal

pub returns : goal.returns
unfolding nothing_sofar
returns c = rw c.new-start.ensures
