-- `other_at` goes through the table's last rows: at each the table computes, and the laws of `Commands` say what is found there. Assumes nothing.
use Rattle.std.proofs.Common.{refl, arith}
use Rattle.items.specs.declared.item.Item.TheVariants as Written
use Rattle.items.specs.Items.{instrument, call, unknown}
use Rattle.items.specs.Steps.{rows_from}
use Rattle.items.specs.Written.{item_of, Inside}
use Rattle.items.proofs.Commands.{stands_as, alone_stands, amplitude_stands, key_stands, name_stands, rows_at, past_all}
use Rattle.items.proofs.item.other_at.Goals as goal

pub returns-in-118 : goal.returns-in-118
unfolding rows_from
returns-in-118 c =
    let a = c.args in
    stands_as _ _ _ _ _ (rows_at 8 a.b 118 _ c.in-118.is)
    (amplitude_stands a.text.now a.at c.requires.0 _ _ c.eat_float-amplitude.ensures c.decimal_end.ensures)

pub returns-in-107 : goal.returns-in-107
unfolding rows_from
returns-in-107 c =
    let a = c.args in
    stands_as _ _ _ _ _ (rows_at 8 a.b 107 _ c.in-107.is)
    (key_stands a.text.now a.at c.requires.0 _ _ c.key_at-key.ensures c.next_or.ensures)

pub returns-in-64 : goal.returns-in-64
unfolding rows_from item_of Inside
returns-in-64 c =
    let a = c.args in
    stands_as _ _ _ _ _ (rows_at 8 a.b 64 _ c.in-64.is)
    (name_stands a.text.now a.at c.requires.0 a.b _ c.requires.1 c.ink_end-name_end.ensures Written.Instrument instrument 64 c.in-64.is refl tt)

pub returns-in-33 : goal.returns-in-33
unfolding rows_from item_of Inside
returns-in-33 c =
    let a = c.args in
    stands_as _ _ _ _ _ (rows_at 8 a.b 33 _ c.in-33.is)
    (name_stands a.text.now a.at c.requires.0 a.b _ c.requires.1 c.ink_end-name_end-in-33.ensures Written.Call call 33 c.in-33.is refl tt)

pub returns-in_default : goal.returns-in_default
unfolding item_of Inside
returns-in_default c =
    let a = c.args in
    stands_as _ _ _ _ _ (past_all a.b _ (λ e. omega (arith, e)) (λ e. omega (arith, e)) (λ e. omega (arith, e)) (λ e. omega (arith, e)))
    (alone_stands a.text.now a.at c.requires.0 Written.Unknown unknown refl tt)
