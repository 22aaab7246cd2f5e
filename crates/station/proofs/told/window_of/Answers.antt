-- `window_of` is the engine's window of the sheet, which asks 28 too, and no text that is a sheet has that. Assumes nothing.
use mathlib.Core.Path.{sym, ap, ◌∙◌}
use lib.ListN.{length}
use borrow.Author.Rules.{rules}
use Rattle.station.specs.Calls.{told}
use Rattle.station.proofs.Texts.{text_refused, text_going}
use Rattle.station.proofs.Asked.{window_refused, window_kept, window_going, window_written_law}
use Rattle.station.proofs.told.window_of.Goals as goal

pub returns-then-reading-ne0 : goal.returns-then-reading-ne0
returns-then-reading-ne0 c =
    let a = c.args in
    let q = c.read-reading in
    let e = text_refused a.mode a.source.now q.result q.ensures c.if-reading-ne0.true in
    record { answer = c.turned_away.ensures ∙ sym (ap told (window_refused a.mode a.source.now _ _ e a.start (length a.buffer.now) a.place)); bytes = sym (window_kept a.mode a.source.now _ _ e a.start a.buffer.now a.place) }

pub returns : goal.returns
returns c =
    let a = c.args in
    let q = c.read-reading in
    let w = c.write_window.ensures in
    let e = text_going a.mode a.source.now q.result q.ensures c.if-reading-ne0.false in
    record { answer = c.told_of.ensures ∙ ap told (w.answer ∙ sym (window_going a.mode a.source.now _ e a.start (length a.buffer.now) a.place)); bytes = w.bytes ∙ sym (window_written_law a.mode a.source.now _ e a.start a.buffer.now a.place) }
