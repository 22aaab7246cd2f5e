-- `instruments_pass` looks at each instrument that the sheet counts and its table has. Assumes nothing.
use Rattle.std.proofs.Common.{take, ap, ◌∙◌, rules, tests}
use Rattle.std.proofs.lemmas.Iterator.{YieldsList-from_slice}
use Rattle.std.proofs.lemmas.Iterator.Search.{all_from_yields_List}
use Rattle.handed.specs.Check.{all, instrument_passes}
use Rattle.handed.proofs.Cuts.{take_cut}
use Rattle.handed.proofs.check.instruments_pass.Goals as goal

pub returns : goal.returns
unfolding all
returns c =
    let s = c.args.sheet.now in
    all_from_yields_List instrument_passes _ _ c.all.result c.all.ensures.ran (YieldsList-from_slice (take c.min-most.result s.table) (cc)) (λ x b q k. search (rules, tests))
    ∙ ap (all instrument_passes) (take_cut s.table s.instruments 32 c.min-most.result c.requires c.min-most.ensures)
