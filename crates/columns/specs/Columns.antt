-- Notes as code keeps them while a part is read: two columns, three numbers a note in the one and the instrument in the other. Assumes nothing.
use Rattle.std.specs.Prelude.{List, [], ◌∷◌, ℕ, drop, get_or, Float}
use Rattle.ieee.specs.Constants.{plus_zero}
use Rattle.sheet.specs.declared.note.Note.{Note}

-- the notes of two columns: in the one the amplitude, frequency and duration of each, in the other its instrument
unfoldable pub notes_in : List Float → List ℕ → List Note
notes_in fs [] = []
notes_in fs (i ∷ is) =
    record { amplitude = get_or fs 0 plus_zero; frequency = get_or fs 1 plus_zero; duration = get_or fs 2 plus_zero; instrument = i } ∷ notes_in (drop 3 fs) is
