-- `instrument_at` lends the regions of an instrument. Assumes nothing.
use Rattle.std.proofs.Common.{◌∙◌, rules}
use Rattle.layout.proofs.Regions.{region_again}
use Rattle.bank.proofs.instruments.instrument_at.Goals as goal

pub returns : goal.returns
returns c = c.instrument_of.ensures ∙ search (rules, region_again)
