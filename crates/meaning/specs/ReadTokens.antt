-- The tokens of a sheet that are read as a number or a key, in document 01's words, and the place in each at which its
-- reader stops. Nothing here knows a mode or a refusal: `StrictNumbers.antt` has that strict mode lets through exactly
-- the sheets of plain mode in which each of these is read to its end. Assumes nothing.
use Rattle.std.specs.Prelude.{◌≡◌, List, [], ◌∷◌, ◌++◌, map, ℕ, zero, suc, length, take, drop}
use Rattle.text.specs.Characters.{row_named}
use Rattle.lines.specs.Lines.{lines_of}
use Rattle.lines.specs.Tokens.{tokens_of}
use Rattle.number.specs.Digits.{value_most, int_at, int_width}
use Rattle.number.specs.Decimal.{decimal_at, decimal_width}
use Rattle.keys.specs.Keys.{key_at, key_width}
use Rattle.operators.specs.OperatorLines.{operator_lines}
use Rattle.meaning.specs.Sheets.{Kind, skipped, header_line, directive_line, macro_line, part_line, kind_of, taken_by}

-- ---- readers

-- what a token is read as: a decimal, "digits, or digits, a point, digits"; a digit run; a key, "any run of letters a
-- to g .. then `+`, `-` or `=`"
pub data Reader : Type 0 where
  decimal digits key : Reader

-- "The number reader must also tell where it stopped": the place in a token, 0 where it is none of the kind
unfoldable pub stop_at : Reader → List ℕ → ℕ
unfolding decimal_at decimal_width int_at int_width key_at key_width
stop_at decimal t = decimal_width (decimal_at t 0)
stop_at digits t = int_width (int_at value_most t 0)
stop_at key t = key_width (key_at t 0)

-- a token, and what it is read as
abbrev pub Token : Type 0
Token = Reader × List ℕ

-- "must be read to its end"
abbrev pub ReadToItsEnd : Token → Type 0
ReadToItsEnd t = stop_at t.0 t.1 ≡ length t.1

-- ---- which tokens are read

-- tokens that are all read as the same
unfoldable pub all_by : Reader → List (List ℕ) → List Token
all_by reader ts = map (λ (t : List ℕ). (reader, t)) ts

-- "an operator token": all tokens of an operator line, six decimals and then a feedback, which "is a digit run"
unfoldable pub operator_tokens : List (List ℕ) → List Token
unfolding all_by
operator_tokens ts = all_by decimal (take 6 ts) ++ all_by digits (drop 6 ts)

-- the same of an instrument's operator lines
unfoldable pub instrument_tokens : List (List ℕ) → List Token
unfolding tokens_of operator_tokens
instrument_tokens [] = []
instrument_tokens (l ∷ ls) = operator_tokens (tokens_of l) ++ instrument_tokens ls

-- "the second token of `#tempo`, `#denom` and `#key`; later tokens are ignored"
unfoldable pub directive_tokens : List (List ℕ) → List Token
unfolding row_named
directive_tokens [] = []
directive_tokens (name ∷ []) = []
directive_tokens (name ∷ (value ∷ later)) =
    row_named name []
    (("#tempo", (digits, value) ∷ []) ∷ ("#denom", (digits, value) ∷ []) ∷ ("#key", (key, value) ∷ []) ∷ [])

-- what a line of a kind has of them, with the lines below it: an instrument's header has its operator lines', and other
-- lines than directives have none
unfoldable pub line_tokens : Kind → List ℕ → List (List ℕ) → List Token
unfolding operator_lines instrument_tokens tokens_of directive_tokens
line_tokens skipped l below = []
line_tokens header_line l below = instrument_tokens (operator_lines below)
line_tokens directive_line l below = directive_tokens (tokens_of l)
line_tokens macro_line l below = []
line_tokens part_line l below = []

-- the same of all lines "from the top", of which the first k are passed over, since they belong to the instrument above
-- them
unfoldable pub lines_tokens : ℕ → List (List ℕ) → List Token
unfolding kind_of line_tokens taken_by
lines_tokens k [] = []
lines_tokens (suc k) (l ∷ ls) = lines_tokens k ls
lines_tokens zero (l ∷ ls) = line_tokens (kind_of l) l ls ++ lines_tokens (taken_by (kind_of l) ls) ls

-- the tokens of a source that are read
unfoldable pub tokens_read : List ℕ → List Token
unfolding lines_of lines_tokens
tokens_read source = lines_tokens 0 (lines_of source)
