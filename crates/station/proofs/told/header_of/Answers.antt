-- `header_of` is the engine's header of the sheet, which asks 28 too, and no text that is a sheet has that. Assumes nothing.
use mathlib.Core.Path.{sym, ap, ◌∙◌}
use lib.ListN.{length}
use borrow.Author.Rules.{rules}
use Rattle.station.specs.Calls.{told}
use Rattle.station.proofs.Texts.{text_refused, text_going}
use Rattle.station.proofs.Asked.{header_refused, header_kept, header_going, header_written_law}
use Rattle.station.proofs.told.header_of.Goals as goal

pub returns-then-reading-ne0 : goal.returns-then-reading-ne0
returns-then-reading-ne0 c =
    let a = c.args in
    let q = c.read-reading in
    let e = text_refused a.mode a.source.now q.result q.ensures c.if-reading-ne0.true in
    record { answer = c.turned_away.ensures ∙ sym (ap told (header_refused a.mode a.source.now _ _ e (length a.buffer.now))); bytes = sym (header_kept a.mode a.source.now _ _ e a.riff a.buffer.now) }

pub returns : goal.returns
returns c =
    let a = c.args in
    let q = c.read-reading in
    let w = c.write_header.ensures in
    let e = text_going a.mode a.source.now q.result q.ensures c.if-reading-ne0.false in
    record { answer = c.told_of.ensures ∙ ap told (w.answer ∙ sym (header_going a.mode a.source.now _ e (length a.buffer.now))); bytes = w.bytes ∙ sym (header_written_law a.mode a.source.now _ e a.riff a.buffer.now) }
