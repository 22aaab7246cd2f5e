-- What a token is that is nothing but what it is read as, in document 01's words. Assumes nothing.
use mathlib.Core.List.{List}
use Prim.Native.Nat.{ℕ, ◌≤◌}
use Rattle.text.proofs.Passes.{Passes}
use Rattle.number.specs.Digits.{value_most, is_digit, value_from}
use Rattle.number.proofs.WholeNumbers.{WholeDecimal}
use Rattle.keys.proofs.WholeKeys.{WholeKey}
use Rattle.meaning.specs.ReadTokens.{Reader, decimal, digits, key}

-- a decimal is "digits, or digits, a point, digits", at most 18 of them; a digit run is at most 4,294,967,295; a key is
-- letters a to g and an accidental
abbrev pub WholeBy : Reader → List ℕ → Type 0
WholeBy decimal t = WholeDecimal t
WholeBy digits t = Passes is_digit t × (value_from 0 t ≤ value_most)
WholeBy key t = WholeKey t
