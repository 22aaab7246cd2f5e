-- `turned_away` makes what the definition tells. Assumes nothing.
use mathlib.Core.Path.{refl}
use Rattle.station.specs.Calls.{told}
use Rattle.station.proofs.told.turned_away.Goals as goal

pub returns : goal.returns
unfolding told
returns c = refl
