-- `of` reads the five numbers of a head. Assumes nothing.
use Rattle.ask_wave.proofs.request.of.Goals as goal

pub returns : goal.returns
returns c = cc
