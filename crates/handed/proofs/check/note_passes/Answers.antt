-- `note_passes` makes the tests of the definition, one after the other. Assumes nothing.
use lib.Ieee.{of_bits}
use Rattle.handed.proofs.Notes.{unknown, endless, lasting}
use Rattle.handed.proofs.check.note_passes.Goals as goal

pub returns-then-note-instruments : goal.returns-then-note-instruments
returns-then-note-instruments c = unknown c.args.note _ c.args.within c.if-note-instruments.true

pub returns-then-not-note : goal.returns-then-not-note
unfolding of_bits
returns-then-not-note c = endless c.args.note _ c.args.within c.if-note-instruments.false c.if-not-note.true

pub returns : goal.returns
unfolding of_bits
returns c = lasting c.args.note _ c.args.within c.if-note-instruments.false c.if-not-note.false
