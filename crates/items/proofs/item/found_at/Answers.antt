-- `found_at` asks for a note's letter first and then goes through the table: its first four rows have one byte, and the rest is `command_at`'s. Assumes
-- nothing.
use Rattle.std.proofs.Common.{refl, arith, sym, ◌∙◌}
use Rattle.items.specs.declared.item.Item.TheVariants as Written
use Rattle.items.specs.Items.{up, down, opening, cut, item_at}
use Rattle.items.specs.Written.{item_of, Inside}
use Rattle.items.proofs.Commands.{stands_as, alone_stands, item_at_law, at_letter, past_marks}
use Rattle.items.proofs.item.found_at.Goals as goal

pub returns-then-is_note_letter : goal.returns-then-is_note_letter
returns-then-is_note_letter c = stands_as _ _ _ _ _ (at_letter _ _ (sym c.is_note_letter.ensures ∙ c.if-is_note_letter.true)) c.note_at.ensures

pub returns-in_default : goal.returns-in_default
returns-in_default c =
    stands_as _ _ _ _ _ (past_marks _ _ (sym c.is_note_letter.ensures ∙ c.if-is_note_letter.false) (λ e. omega (arith, e)) (λ e. omega (arith, e)) (λ e. omega (arith, e)) (λ e. omega (arith, e))) c.command_at.ensures

pub returns-in-62 : goal.returns-in-62
unfolding item_at item_of Inside
returns-in-62 c = stands_as _ _ _ _ _ (item_at_law _ 62 _ c.in-62.is) (alone_stands _ _ c.requires Written.Up up refl tt)

pub returns-in-60 : goal.returns-in-60
unfolding item_at item_of Inside
returns-in-60 c = stands_as _ _ _ _ _ (item_at_law _ 60 _ c.in-60.is) (alone_stands _ _ c.requires Written.Down down refl tt)

pub returns-in-91 : goal.returns-in-91
unfolding item_at item_of Inside
returns-in-91 c = stands_as _ _ _ _ _ (item_at_law _ 91 _ c.in-91.is) (alone_stands _ _ c.requires Written.Opening opening refl tt)

pub returns-in-58 : goal.returns-in-58
unfolding item_at item_of Inside
returns-in-58 c = stands_as _ _ _ _ _ (item_at_law _ 58 _ c.in-58.is) (alone_stands _ _ c.requires Written.Cut cut refl tt)
