-- `note_at` reads each part where the one before it ends; the laws of `Notes` say that the text behind the letter gives the same. Assumes nothing.
use Rattle.std.proofs.Common.{arith, refl, sym, ◌∙◌}
use Rattle.text.proofs.Starts.{starts_within}
use Rattle.items.proofs.Notes.{Read, note_dotted, note_plain}
use Rattle.items.proofs.item.note_at.Goals as goal

pub overflow_add-next : goal.overflow_add-next
overflow_add-next c =
    omega (arith, starts_within c.args.text.now c.next_or-end.result 46 (sym c.stands_at-dotted.ensures ∙ c.if-dotted.true))

pub returns-then-dotted : goal.returns-then-dotted
returns-then-dotted c =
    let r : Read c.args.text.now c.args.at c.note_accidental_at-accidental.result c.next_or-behind.result c.eat_int-value.result c.next_or-end.result =
    record {
      inside = c.requires;
      mark = c.note_accidental_at-accidental.ensures;
      marked = c.next_or-behind.ensures;
      int = c.eat_int-value.ensures;
      ended = c.next_or-end.ensures;
    } in
    note_dotted _ _ c.args.letter _ _ _ _ r _ c.stands_at-dotted.ensures _ c.if-dotted.true refl

pub returns-else-dotted : goal.returns-else-dotted
returns-else-dotted c =
    let r : Read c.args.text.now c.args.at c.note_accidental_at-accidental.result c.next_or-behind.result c.eat_int-value.result c.next_or-end.result =
    record {
      inside = c.requires;
      mark = c.note_accidental_at-accidental.ensures;
      marked = c.next_or-behind.ensures;
      int = c.eat_int-value.ensures;
      ended = c.next_or-end.ensures;
    } in
    note_plain _ _ c.args.letter _ _ _ _ r _ c.stands_at-dotted.ensures _ c.if-dotted.false refl
