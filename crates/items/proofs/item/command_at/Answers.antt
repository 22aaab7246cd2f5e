-- `command_at` goes through the rows of digit runs: at each the table computes, and a run is that of the text behind the first byte. Assumes nothing.
use Rattle.std.proofs.Common.{refl, arith}
use Rattle.number.specs.Digits.{value_most, count_most}
use Rattle.items.specs.declared.item.Item.TheVariants as Written
use Rattle.items.specs.Items.{closing, octave, value, tempo}
use Rattle.items.specs.Steps.{rows_from}
use Rattle.items.specs.Written.{item_of, Inside}
use Rattle.items.proofs.Commands.{stands_as, number_stands, rows_at, past_runs}
use Rattle.items.proofs.item.command_at.Goals as goal

pub returns-in-93 : goal.returns-in-93
unfolding rows_from item_of Inside
returns-in-93 c =
    let a = c.args in
    stands_as _ _ _ _ _ (rows_at 4 a.b 93 _ c.in-93.is)
    (number_stands a.text.now a.at c.requires.0 count_most _ _ (Written.Closing c.eat_int-count.result) closing c.eat_int-count.ensures c.next_or.ensures refl c.eat_int-count.ensures)

pub returns-in-111 : goal.returns-in-111
unfolding rows_from item_of Inside
returns-in-111 c =
    let a = c.args in
    stands_as _ _ _ _ _ (rows_at 4 a.b 111 _ c.in-111.is)
    (number_stands a.text.now a.at c.requires.0 value_most _ _ (Written.Octave c.eat_int-octave.result) octave c.eat_int-octave.ensures c.next_or-in-111.ensures refl c.eat_int-octave.ensures)

pub returns-in-108 : goal.returns-in-108
unfolding rows_from item_of Inside
returns-in-108 c =
    let a = c.args in
    stands_as _ _ _ _ _ (rows_at 4 a.b 108 _ c.in-108.is)
    (number_stands a.text.now a.at c.requires.0 value_most _ _ (Written.Value c.eat_int-value.result) value c.eat_int-value.ensures c.next_or-in-108.ensures refl c.eat_int-value.ensures)

pub returns-in-116 : goal.returns-in-116
unfolding rows_from item_of Inside
returns-in-116 c =
    let a = c.args in
    stands_as _ _ _ _ _ (rows_at 4 a.b 116 _ c.in-116.is)
    (number_stands a.text.now a.at c.requires.0 value_most _ _ (Written.Tempo c.eat_int-tempo.result) tempo c.eat_int-tempo.ensures c.next_or-in-116.ensures refl c.eat_int-tempo.ensures)

pub returns-in_default : goal.returns-in_default
returns-in_default c =
    let a = c.args in
    stands_as _ _ _ _ _ (past_runs a.b _ (λ e. omega (arith, e)) (λ e. omega (arith, e)) (λ e. omega (arith, e)) (λ e. omega (arith, e))) c.other_at.ensures
