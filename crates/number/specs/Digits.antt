-- Digit runs, as document 01 has them: the value of the digits that stand at a place of a text, and the place after them.
-- "`o`, `l`, `t` .. take a digit run, not found if absent or over 4,294,967,295"; "An absent value, or a digit run over
-- 4,294,967,295, takes the default and reads no digit"; "n is a digit run, absent if over 2^64 - 1". The limit is a parameter.
-- Assumes nothing.
use Rattle.std.specs.Prelude.{Bool, true, false, ◌&&◌, List, [], ◌∷◌, ℕ, ◌+◌, ◌-◌, ◌*◌, ◌^◌, leb, length, drop, Option, Some, None}
use Rattle.text.specs.Fronts.{front}
use Rattle.text.specs.Parsed.{parsed}
use Rattle.text.specs.declared.parsed.Parsed.{Parsed}

-- "not found if absent or over 4,294,967,295": the most that a digit run of a value, an octave, a tempo or a feedback may be
abbrev pub value_most : ℕ
value_most = 4294967295

-- "absent if over 2^64 - 1": the most that a loop's count may be
abbrev pub count_most : ℕ
count_most = 2 ^ 64 - 1

-- a digit is one of the bytes from `0` to `9`
unfoldable pub is_digit : ℕ → Bool
is_digit b = leb 48 b && leb b 57

-- the value of the digits ds read after a number v
unfoldable pub value_from : ℕ → List ℕ → ℕ
value_from v [] = v
value_from v (d ∷ ds) = value_from (v * 10 + (d - 48)) ds

-- the number that the digits ds make, none where there are no digits or where it is over the limit
unfoldable pub int_of : ℕ → ℕ → List ℕ → Option (Parsed ℕ)
unfolding value_from
int_of limit at [] = None
int_of limit at (d ∷ ds) =
    let v = value_from 0 (d ∷ ds) in
    elim (leb v limit) [ true ↦ Some (parsed v (at + length (d ∷ ds))) | false ↦ None ]

-- the digit run at place `at` of the text s
unfoldable pub int_at : ℕ → List ℕ → ℕ → Option (Parsed ℕ)
unfolding front is_digit int_of
int_at limit s at = int_of limit at (front is_digit (drop at s))

-- where the reading of a text from its start stopped: behind the digit run, or at the start where there is none
unfoldable pub int_width : Option (Parsed ℕ) → ℕ
int_width (Some found) = found.next
int_width None = 0
