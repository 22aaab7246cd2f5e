-- `samples_of` counts the samples of a sheet that passes the check, as every text that is a sheet does. Assumes nothing.
use mathlib.Core.Path.{sym, ap, ◌∙◌}
use Prim.Native.Nat.{ℕ}
use borrow.Author.Rules.{rules}
use Rattle.sheet.specs.Refusals.{going}
use Rattle.sheet.specs.Answers.{answered}
use Rattle.handed.proofs.Answers.{check_counts}
use Rattle.station.specs.Calls.{told}
use Rattle.station.proofs.Texts.{text_refused, text_going, sheet_passes}
use Rattle.station.proofs.Asked.{samples_refused, samples_going}
use Rattle.station.proofs.told.samples_of.Goals as goal

pub returns-then-reading-ne0 : goal.returns-then-reading-ne0
returns-then-reading-ne0 c =
    let a = c.args in
    let q = c.read-reading in
    let e = text_refused a.mode a.source.now q.result q.ensures c.if-reading-ne0.true in
    c.turned_away.ensures ∙ sym (ap told (samples_refused a.mode a.source.now _ _ e))

pub returns : goal.returns
returns c =
    let a = c.args in
    let q = c.read-reading in
    let k = c.check in
    let e = text_going a.mode a.source.now q.result q.ensures c.if-reading-ne0.false in
    c.told_of.ensures
    ∙ ap (λ a. told (answered a)) (k.ensures ∙ check_counts 44100 q.result.sheet (sheet_passes a.mode a.source.now _ e))
    ∙ sym (ap told (samples_going a.mode a.source.now _ e))
