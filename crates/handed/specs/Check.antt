-- What document 01 asks of a sheet that is handed in, refusal 28: "count past capacity, index past its table, feedback over 255, duration or release NaN
-- or negative, note or sheet too long". What stands past a count says nothing and is not asked about. Assumes nothing.
use Rattle.std.specs.Prelude.{Bool, true, false, ◌&&◌, List, ℕ, leb, ltb, length, take, get_or, Option, Result, Ok, Err}
use Rattle.std.specs.List.{list_all}
use Rattle.std.specs.Result.{result_ok}
use Rattle.std.specs.Float.{nan}
use Rattle.ieee.specs.Times.{is_time}
use Rattle.instrument.specs.declared.machine.Command.{Command}
use Rattle.instrument.specs.declared.machine.Slot.{Slot}
use Rattle.instrument.specs.declared.machine.Instrument.{Instrument}
use Rattle.tone.specs.declared.time.Uncounted.{Uncounted}
use Rattle.sheet.specs.declared.note.Note.{Note}
use Rattle.sheet.specs.declared.sheet.Sheet.{Sheet}
use Rattle.sheet.specs.declared.refusal.Refusal.{Refusal}
use Rattle.sheet.specs.declared.refusal.Refusal.TheVariants.{NoSheet}
use Rattle.sheet.specs.Capacities.{parts_most, instruments_most, commands_most, notes_most, feedback_most, sheet_most}
use Rattle.sheet.specs.Lengths.{sounding_of, is_counted}
use Rattle.sheet.specs.Parts.{counts_of, total, instruments_of, releases_of, length_of}

-- every element of a list passes a test
unfoldable pub all : {A : Type 0} → (A → Bool) → List A → Bool
all test xs = list_all test xs

-- a command is not one of "feedback over 255"
unfoldable pub command_passes : Command → Bool
command_passes (Command.Operator o) = leb o.feedback feedback_most
command_passes (Command.Stack n) = true

unfoldable pub slot_passes : Slot → Bool
unfolding command_passes
slot_passes s = command_passes s.command

-- an instrument: "commands 64 in a sheet handed in", its release a time, and each command that it counts
unfoldable pub instrument_passes : Instrument → Bool
unfolding all slot_passes
instrument_passes i = leb i.count commands_most && (is_time i.release && all slot_passes (take i.count i.commands))

-- a note: its instrument is one of the sheet's, its duration a time, and "One note with its release 16,777,216 samples"
unfoldable pub note_passes : ℕ → List Instrument → Note → Bool
unfolding sounding_of is_counted releases_of
note_passes rate is n =
    ltb n.instrument (length is) && (is_time n.duration && is_counted (sounding_of rate (get_or (releases_of is) n.instrument nan) n))

-- a sheet: its counts within the capacities, its instruments, the notes of its parts, and "a sheet 2,000,000,000"
unfoldable pub is_sheet : ℕ → Sheet → Bool
unfolding total all instrument_passes note_passes length_of
is_sheet rate s =
    leb s.parts parts_most
    && (leb s.instruments instruments_most
    && (leb (total (counts_of s)) notes_most
    && (all instrument_passes (instruments_of s)
    && (all (note_passes rate (instruments_of s)) (take (total (counts_of s)) s.notes) && leb (length_of rate s) sheet_most))))

-- a length that one note may have
abbrev pub counted_of : Result ℕ Uncounted → Option ℕ
counted_of l = result_ok l

-- a count where a test passes, and refusal 28 where it does not
abbrev pub counted_if : Bool → ℕ → Result ℕ Refusal
counted_if passes n = elim passes as (λ b. Result ℕ Refusal) [ true ↦ Ok n | false ↦ Err NoSheet ]

-- the length of a sheet whose notes pass
unfoldable pub walked_of : ℕ → Sheet → Result ℕ Refusal
unfolding all note_passes total length_of
walked_of rate s = counted_if (all (note_passes rate (instruments_of s)) (take (total (counts_of s)) s.notes)) (length_of rate s)

-- how many samples a sheet has that passes, and refusal 28 for one that does not
unfoldable pub checked_of : ℕ → Sheet → Result ℕ Refusal
unfolding is_sheet length_of
checked_of rate s = counted_if (is_sheet rate s) (length_of rate s)
