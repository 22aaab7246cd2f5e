-- Arrays of a fixed length: what is there, and then elements that say nothing. Assumes nothing.
use Rattle.std.specs.Prelude.{List, ◌++◌, ℕ, ◌-◌, length, replicate}
use Rattle.ieee.specs.Constants.{plus_zero}
use Rattle.sheet.specs.declared.note.Note.{Note}

-- a list filled up to n elements with x
unfoldable pub padded : {A : Type 0} → ℕ → A → List A → List A
padded n x xs = xs ++ replicate (n - length xs) x

-- a note that says nothing
abbrev pub silence : Note
silence = record { amplitude = plus_zero; frequency = plus_zero; duration = plus_zero; instrument = 0 }
