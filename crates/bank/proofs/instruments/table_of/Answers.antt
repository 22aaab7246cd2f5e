-- `table_of` puts the instruments into the table from the first on. Assumes nothing.
use Rattle.std.proofs.Common.{[], ap, ◌∙◌, arith}
use Rattle.std.proofs.lemmas.List.{take_all}
use Rattle.instrument.specs.declared.machine.Instrument.{Instrument}
use Rattle.sheet.specs.Padding.{padded}
use Rattle.commands.specs.Commands.{instrument_of}
use Rattle.layout.proofs.Fills.{filled_next}
use Rattle.bank.proofs.Tables.{none_held, instruments_of_law, instruments_many, instruments_get}
use Rattle.bank.proofs.instruments.table_of.Goals as goal

pub loop-k-init : goal.loop-k-init
loop-k-init c = c.empties-table.ensures ∙ ap (λ (e : Instrument). padded 32 e []) (c.instrument_of.ensures ∙ ap instrument_of (none_held _ _))

pub loop-k-preserved : goal.loop-k-preserved
loop-k-preserved c =
    let g = c.args in
    let most = c.min-k-end.result in
    let test = c.loop-k-test.true in
    filled_next 32 _ _ (instruments_of_law g.sizes.now g.numbers.now g.shape.now most) _ _ _
    (omega (arith, test, instruments_many g.sizes.now g.numbers.now g.shape.now most))
    (omega arith)
    (instruments_get _ _ _ most _ _ _ test c.size_at.ensures c.instrument_at.ensures)
    c.loop-k.invariant

pub returns : goal.returns
returns c =
    let g = c.args in
    let all = instruments_of_law g.sizes.now g.numbers.now g.shape.now in
    let most = c.min-k-end.result in
    c.loop-k.invariant
    ∙ ap (padded 32 (instrument_of [])) (take_all c.loop-k.k (all most) (omega (arith, instruments_many g.sizes.now g.numbers.now g.shape.now most)) ∙ ap all c.min-k-end.ensures)
