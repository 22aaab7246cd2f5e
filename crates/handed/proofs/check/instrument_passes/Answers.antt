-- `instrument_passes` looks at the count, the release, and then at each command that it counts. Assumes nothing.
use Rattle.std.proofs.Common.{take, rules, tests}
use Rattle.std.proofs.lemmas.Iterator.{YieldsList-from_slice}
use Rattle.std.proofs.lemmas.Iterator.Search.{all_from_yields_List}
use lib.Ieee.{of_bits}
use Rattle.handed.specs.Check.{all, slot_passes}
use Rattle.handed.proofs.Instruments.{many, endless, commanded}
use Rattle.handed.proofs.check.instrument_passes.Goals as goal

pub returns-then-by-gt-COMMANDS_MOST : goal.returns-then-by-gt-COMMANDS_MOST
returns-then-by-gt-COMMANDS_MOST c = many _ c.if-by-gt-COMMANDS_MOST.true

pub returns-then-not-by : goal.returns-then-not-by
unfolding of_bits
returns-then-not-by c = endless _ c.if-by-gt-COMMANDS_MOST.false c.if-not-by.true

pub returns : goal.returns
unfolding of_bits all slot_passes
returns c =
    let i = c.args.by.now in
    commanded i c.if-by-gt-COMMANDS_MOST.false c.if-not-by.false c.all.result
    (all_from_yields_List slot_passes _ _ c.all.result c.all.ensures.ran (YieldsList-from_slice (take i.count i.commands) (cc)) (λ x b q k. search (rules, tests)))
