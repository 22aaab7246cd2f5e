-- `done` is what its callee does, for the item that each arm knows. Assumes nothing.
use mathlib.Core.Path.{sym, ap, ◌∙◌}
use Rattle.sheet.proofs.Basics.{false_true}
use Rattle.std.specs.Prelude.{Ok}
use Rattle.settings.proofs.Changing.{octave_low, value_low, tempo_low, amplitude_low, key_low}
use Rattle.items.specs.Written.{is_call}
use Rattle.part.proofs.Doing.{written_note, written_up, written_down, written_opening, written_cut, written_closing, written_octave, written_value, written_tempo, written_amplitude, written_key, written_instrument, written_unknown, low_up, low_down, low_as, done_as, does_note, does_opening, does_cut, does_closing, does_up, does_down, does_octave, does_value, does_tempo, does_amplitude, does_key, does_unknown}
use Rattle.part.proofs.body.done.Goals as goal

pub change-requires : goal.change-requires
change-requires c = low_up c.args.line _ _ c.octave_up.ensures

pub change-requires-in-Down : goal.change-requires-in-Down
change-requires-in-Down c = low_down c.args.line _ _ c.requires.ready.room.octave c.octave_down.ensures

pub change-requires-in-Octave : goal.change-requires-in-Octave
change-requires-in-Octave c = low_as _ _ (c.octave_command.ensures _) (octave_low _ _ _)

pub change-requires-in-Value : goal.change-requires-in-Value
change-requires-in-Value c = low_as _ _ (c.value_command.ensures _) (value_low _ _ c.requires.ready.room.octave _)

pub change-requires-in-Tempo : goal.change-requires-in-Tempo
change-requires-in-Tempo c = low_as _ _ (c.tempo_command.ensures _) (tempo_low _ _ c.requires.ready.room.octave _)

pub change-requires-in-Amplitude : goal.change-requires-in-Amplitude
change-requires-in-Amplitude c = low_as _ _ (c.amplitude_command.ensures _) (amplitude_low _ _ c.requires.ready.room.octave _)

pub change-requires-in-Key : goal.change-requires-in-Key
change-requires-in-Key c = low_as _ _ (c.key_command.ensures _) (key_low _ _ c.requires.ready.room.octave _)

pub returns-in-Note-clause-becomes : goal.returns-in-Note-clause-becomes
returns-in-Note-clause-becomes c ms inner = done_as _ _ _ _ _ _ _ _ _ _ _ _ _ (written_note _ _ _ _ _ c.in-Note.is) (does_note _ _ _ _ _ _ _ _ _ _ _ _ _ _ _ (c.noted.ensures ms _ _ c.requires.ready.deep))

pub returns-in-Up-clause-becomes : goal.returns-in-Up-clause-becomes
returns-in-Up-clause-becomes c ms inner = done_as _ _ _ _ _ _ _ _ _ _ _ _ _ (written_up _ _ _ _ c.in-Up.is) (does_up _ _ _ _ _ _ _ _ _ _ _ _ (c.change.ensures _ _ _ c.requires.ready) (ap Ok c.octave_up.ensures))

pub returns-in-Down-clause-becomes : goal.returns-in-Down-clause-becomes
returns-in-Down-clause-becomes c ms inner = done_as _ _ _ _ _ _ _ _ _ _ _ _ _ (written_down _ _ _ _ c.in-Down.is) (does_down _ _ _ _ _ _ _ _ _ _ _ _ (c.change-in-Down.ensures _ _ _ c.requires.ready) (ap Ok c.octave_down.ensures))

pub returns-in-Opening-clause-becomes : goal.returns-in-Opening-clause-becomes
returns-in-Opening-clause-becomes c ms inner = done_as _ _ _ _ _ _ _ _ _ _ _ _ _ (written_opening _ _ _ _ c.in-Opening.is) (does_opening _ _ _ _ _ _ _ _ _ _ _ (c.opened.ensures _ _ _ c.requires.ready.room))

pub returns-in-Cut-clause-becomes : goal.returns-in-Cut-clause-becomes
returns-in-Cut-clause-becomes c ms inner = done_as _ _ _ _ _ _ _ _ _ _ _ _ _ (written_cut _ _ _ _ c.in-Cut.is) (does_cut _ _ _ _ _ _ _ _ _ _ _ (c.cut_here.ensures _ _ _ c.requires.ready.room))

pub returns-in-Closing-clause-becomes : goal.returns-in-Closing-clause-becomes
returns-in-Closing-clause-becomes c ms inner = done_as _ _ _ _ _ _ _ _ _ _ _ _ _ (written_closing _ _ _ _ _ c.in-Closing.is) (does_closing _ _ _ _ _ _ _ _ _ _ _ _ (c.closed.ensures _))

pub returns-in-Octave-clause-becomes : goal.returns-in-Octave-clause-becomes
returns-in-Octave-clause-becomes c ms inner = done_as _ _ _ _ _ _ _ _ _ _ _ _ _ (written_octave _ _ _ _ _ c.in-Octave.is) (does_octave _ _ _ _ _ _ _ _ _ _ _ _ (c.change-in-Octave.ensures _ _ _ c.requires.ready) _ (c.octave_command.ensures _))

pub returns-in-Value-clause-becomes : goal.returns-in-Value-clause-becomes
returns-in-Value-clause-becomes c ms inner = done_as _ _ _ _ _ _ _ _ _ _ _ _ _ (written_value _ _ _ _ _ c.in-Value.is) (does_value _ _ _ _ _ _ _ _ _ _ _ _ (c.change-in-Value.ensures _ _ _ c.requires.ready) _ (c.value_command.ensures _))

pub returns-in-Tempo-clause-becomes : goal.returns-in-Tempo-clause-becomes
returns-in-Tempo-clause-becomes c ms inner = done_as _ _ _ _ _ _ _ _ _ _ _ _ _ (written_tempo _ _ _ _ _ c.in-Tempo.is) (does_tempo _ _ _ _ _ _ _ _ _ _ _ _ (c.change-in-Tempo.ensures _ _ _ c.requires.ready) _ (c.tempo_command.ensures _))

pub returns-in-Amplitude-clause-becomes : goal.returns-in-Amplitude-clause-becomes
returns-in-Amplitude-clause-becomes c ms inner = done_as _ _ _ _ _ _ _ _ _ _ _ _ _ (written_amplitude _ _ _ _ _ c.in-Amplitude.is) (does_amplitude _ _ _ _ _ _ _ _ _ _ _ _ (c.change-in-Amplitude.ensures _ _ _ c.requires.ready) _ (c.amplitude_command.ensures _))

pub returns-in-Key-clause-becomes : goal.returns-in-Key-clause-becomes
returns-in-Key-clause-becomes c ms inner = done_as _ _ _ _ _ _ _ _ _ _ _ _ _ (written_key _ _ _ _ _ c.in-Key.is) (does_key _ _ _ _ _ _ _ _ _ _ _ _ (c.change-in-Key.ensures _ _ _ c.requires.ready) _ (c.key_command.ensures _))

pub returns-in-Instrument-clause-becomes : goal.returns-in-Instrument-clause-becomes
returns-in-Instrument-clause-becomes c ms inner = done_as _ _ _ _ _ _ _ _ _ _ _ _ _ (written_instrument _ _ _ _ c.in-Instrument.is) (c.instrument.ensures _ ms _ inner _ _ _ c.requires.ready)

pub returns-in-Call-clause-becomes : goal.returns-in-Call-clause-becomes
unfolding is_call
returns-in-Call-clause-becomes c ms inner = false_true (sym c.requires.few_releases.1 ∙ ap is_call c.in-Call.is)

pub returns-in-Unknown-clause-becomes : goal.returns-in-Unknown-clause-becomes
returns-in-Unknown-clause-becomes c ms inner = done_as _ _ _ _ _ _ _ _ _ _ _ _ _ (written_unknown _ _ _ _ c.in-Unknown.is) (rw c.refused.ensures (does_unknown _ _ _ _ _ _ _ c.requires.ready))
