-- Decimal numbers, as document 01 has them: "A decimal is digits, or digits, a point, digits. Its value is the f32 nearest to
-- N / 10^k, ties to even. What follows is ignored in an operator token: `0,7` is 0, `1e3` is 1. `.5` and `5.` are unreadable."
-- "Decimal digits 18, both sides of the point together"; an unreadable number comes before a too long one. Assumes nothing.
use Rattle.std.specs.Prelude.{true, false, List, [], ◌∷◌, ◌++◌, ℕ, ◌+◌, ◌^◌, leb, eqb, length, drop, Float, Result, Ok, Err}
use Rattle.std.specs.Float.{binary32}
use Rattle.std.specs.Float.Ieee.{round}
use Rattle.text.specs.declared.parsed.Parsed.{Parsed}
use Rattle.text.specs.Fronts.{front, after}
use Rattle.text.specs.Parsed.{parsed}
use Rattle.number.specs.declared.decimal.NoDecimal.{NoDecimal}
use Rattle.number.specs.declared.decimal.NoDecimal.TheVariants.{Unreadable, TooLong}
use Rattle.number.specs.Digits.{is_digit, value_from}

-- the f32 nearest to N / 10^k, ties to even: N is what the digits of both sides make, k how many stand after the point
unfoldable pub nearest_to : List ℕ → List ℕ → Float
unfolding value_from
nearest_to whole part = round binary32 false (value_from 0 (whole ++ part)) (10 ^ length part)

-- the number that the digits of both sides make, read up to the place `next`; over 18 digits is its own answer
unfoldable pub judged : List ℕ → List ℕ → ℕ → Result (Parsed Float) NoDecimal
unfolding nearest_to
judged whole part next =
    elim (leb (length whole + length part) 18) [ true ↦ Ok (parsed (nearest_to whole part) next) | false ↦ Err TooLong ]

-- after the point: digits, or the number is unreadable
unfoldable pub pointed : ℕ → List ℕ → List ℕ → Result (Parsed Float) NoDecimal
unfolding judged
pointed at whole [] = Err Unreadable
pointed at whole (d ∷ ds) = judged whole (d ∷ ds) (at + length whole + 1 + length (d ∷ ds))

-- after the first digits: a point, or the number ends there
unfoldable pub ended : ℕ → List ℕ → List ℕ → Result (Parsed Float) NoDecimal
unfolding front is_digit judged pointed
ended at whole [] = judged whole [] (at + length whole)
ended at whole (b ∷ rest) =
    elim (eqb b 46) [ true ↦ pointed at whole (front is_digit rest) | false ↦ judged whole [] (at + length whole) ]

-- a number begins with a digit
unfoldable pub begun : ℕ → List ℕ → List ℕ → Result (Parsed Float) NoDecimal
unfolding ended
begun at [] rest = Err Unreadable
begun at (d ∷ ds) rest = ended at (d ∷ ds) rest

-- the decimal at place `at` of the text s
unfoldable pub decimal_at : List ℕ → ℕ → Result (Parsed Float) NoDecimal
unfolding front after is_digit begun
decimal_at s at = begun at (front is_digit (drop at s)) (after is_digit (drop at s))

-- where the reading of a text from its start stopped: behind the decimal, or at the start where there is none
unfoldable pub decimal_width : Result (Parsed Float) NoDecimal → ℕ
decimal_width (Ok found) = found.next
decimal_width (Err why) = 0
