-- `notes_of` lays the notes into the array one by one, and keeps `Laying`. Assumes nothing.
use Rattle.std.proofs.Common.{ap, ◌∙◌}
use Rattle.layout.proofs.Laid.{laying_start, laying_part, laying_note, laying_full, laying_end, all_of}
use Rattle.layout.proofs.parts.notes_of.Goals as goal

pub loop-k-init : goal.loop-k-init
loop-k-init c = laying_start _ _ _ _ _ c.silences-notes.ensures

pub returns-then-n-ge-NOTES : goal.returns-then-n-ge-NOTES
returns-then-n-ge-NOTES c =
    laying_full _ _ _ _ _ _ _ _ c.loop-i.invariant c.if-n-ge-NOTES.true ∙ ap (all_of _ _ _) c.min-k-end.ensures

pub loop-i-preserved : goal.loop-i-preserved
loop-i-preserved c =
    laying_note _ _ _ _ _ _ _ _ c.loop-i.invariant _ _ c.loop-k-test.true c.held-i-end.ensures c.loop-i-test.true c.if-n-ge-NOTES.false c.note_at.ensures

pub loop-k-preserved : goal.loop-k-preserved
loop-k-preserved c =
    laying_part _ _ _ _ _ _ _ _ c.loop-i.invariant _ c.loop-k-test.true c.held-i-end.ensures c.loop-i-test.false

pub returns : goal.returns
returns c = laying_end _ _ _ _ _ _ _ _ c.loop-k.invariant c.loop-k-test.false ∙ ap (all_of _ _ _) c.min-k-end.ensures
