-- `push` refuses where there is no room, and else sets the note's three numbers and its instrument behind the others. Assumes nothing.
use Rattle.part.proofs.Noted.{second_place, third_place, push_full, push_room}
use Rattle.part.proofs.note.push.Goals as goal

pub returns-then-st-n-ge-NOTES : goal.returns-then-st-n-ge-NOTES
returns-then-st-n-ge-NOTES c =
    λ ls deep. rw c.refused.ensures (push_full c.args.st _ _ ls c.requires.1 deep _ _ _ _ _ c.if-st-n-ge-NOTES.true)

pub bounds-floats-at-2 : goal.bounds-floats-at-2
bounds-floats-at-2 c = second_place c.args.st _ _ c.requires.1 _ c.if-st-n-ge-NOTES.false

pub bounds-floats-at-3 : goal.bounds-floats-at-3
bounds-floats-at-3 c = third_place c.args.st _ _ c.requires.1 _ _ c.if-st-n-ge-NOTES.false

pub returns : goal.returns
returns c =
    λ ls deep. push_room c.args.st _ _ ls c.requires.1 deep _ _ _ _ _ c.requires.0 c.if-st-n-ge-NOTES.false
