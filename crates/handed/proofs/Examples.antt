-- Worked checks: a release of -3 is negative though duration and release together are not, -0.0 is not negative, and a feedback of 255 passes where 256
-- does not. What document 01 does not name is let through, however odd: an amplitude or a frequency that is infinite or no number, a `Stack` of any size, and an
-- endless release that no note has. Assumes nothing.
use mathlib.Core.Path.{◌≡◌, refl}
use mathlib.Core.Bool.{true, false}
use mathlib.Core.List.{[], ◌∷◌}
use Prim.Native.Nat.{ℕ}
use lib.IntN.{pos}
use lib.Ieee.{Float, nan, inf, fin, add, mul, of_int, round}
use Rattle.ieee.specs.Constants.{plus_zero, minus_zero, one}
use Rattle.tone.specs.Time.{count_of, length_of}
use Rattle.instrument.specs.declared.machine.Command.TheVariants as Command
use Rattle.instrument.specs.declared.machine.Instrument.{Instrument}
use Rattle.std.proofs.Common.{Ok, Err}
use Rattle.sheet.specs.declared.refusal.Refusal.TheVariants.{NoSheet}
use Rattle.sheet.specs.declared.note.Note.{Note}
use Rattle.sheet.specs.declared.sheet.Sheet.{Sheet}
use Rattle.sheet.specs.Lengths.{sounding_of, is_counted}
use Rattle.sheet.specs.Parts.{total, releases_of}
use Rattle.handed.specs.Check.{all, command_passes, slot_passes, instrument_passes, note_passes, checked_of}

abbrev released : Float → Instrument
released r = record { release = r; commands = []; count = 0 }

abbrev lasting : Float → Note
lasting d = record { amplitude = one; frequency = one; duration = d; instrument = 0 }

abbrev five : Float
five = fin false 5 (pos 0)

abbrev minus_three : Float
minus_three = fin true 3 (pos 0)

-- the note alone would be counted
three_left : is_counted (sounding_of 44100 minus_three (lasting five)) ≡ true
unfolding is_counted sounding_of length_of count_of add mul of_int round
three_left = refl

minus_three_law : instrument_passes (released minus_three) ≡ false
unfolding instrument_passes
minus_three_law = refl

no_number : instrument_passes (released nan) ≡ false
unfolding instrument_passes
no_number = refl

minus_zero_law : instrument_passes (released minus_zero) ≡ true
unfolding instrument_passes all
minus_zero_law = refl

minus_zero_lasts : note_passes 44100 (released minus_zero ∷ []) (lasting minus_zero) ≡ true
unfolding note_passes releases_of is_counted sounding_of length_of count_of add mul of_int round
minus_zero_lasts = refl

-- the second instrument of one
no_such : note_passes 44100 [] (lasting one) ≡ false
unfolding note_passes
no_such = refl

abbrev fed_back : ℕ → Instrument
fed_back n =
    record {
      release = plus_zero;
      commands =
          record {
            command = Command.Operator
                (record { amplitude = one; freqratio = one; attack = plus_zero; decay = plus_zero; sustain = one; release = plus_zero; feedback = n });
          } ∷ [];
      count = 1;
    }

within : instrument_passes (fed_back 255) ≡ true
unfolding instrument_passes all slot_passes command_passes
within = refl

past : instrument_passes (fed_back 256) ≡ false
unfolding instrument_passes all slot_passes command_passes
past = refl

-- ---- odd, and legal

-- a note of one second, by its amplitude and its frequency
abbrev sounding : Float → Float → Note
sounding a f = record { amplitude = a; frequency = f; duration = one; instrument = 0 }

abbrev first : Instrument
first = released plus_zero

odd_notes : all (note_passes 44100 (first ∷ []))
    (sounding nan one ∷ sounding one nan ∷ sounding (inf false) one ∷ sounding (inf true) one ∷ sounding one (inf false) ∷ sounding one (inf true) ∷ sounding nan nan ∷ [])
    ≡ true
unfolding all note_passes releases_of is_counted sounding_of length_of count_of add mul of_int round
odd_notes = refl

-- the largest number that a `usize` holds
stacked : instrument_passes (record { release = plus_zero; commands = record { command = Command.Stack 18446744073709551615 } ∷ []; count = 1 }) ≡ true
unfolding instrument_passes all slot_passes command_passes
stacked = refl

-- a sheet of one part and one note, with two instruments; the note is the first one's
abbrev endless : ℕ → Sheet
endless by =
    record {
      parts = 1;
      counts = 1 ∷ [];
      notes = record { amplitude = nan; frequency = inf false; duration = one; instrument = by } ∷ [];
      instruments = 2;
      table = first ∷ released (inf false) ∷ [];
    }

-- an endless release passes where no note has it, and the sheet is a second long; with a note it is too long a note
endless_unused : checked_of 44100 (endless 0) ≡ Ok 44100
unfolding checked_of total releases_of is_counted sounding_of length_of count_of add mul of_int round
endless_unused = refl

endless_used : checked_of 44100 (endless 1) ≡ Err NoSheet
unfolding checked_of total releases_of is_counted sounding_of length_of count_of add mul of_int round
endless_used = refl
