-- The line that tells of a refusal. Document 01: "on refusal only `refused N L` (number, line) and a line feed". Assumes nothing.
use Rattle.std.specs.Prelude.{◌≡◌, true, false, List, [], ◌∷◌, ◌++◌, ℕ, zero, suc, ◌+◌, ◌/◌, ◌%◌, leb, ltb, length, drop}
use Prim.Native.Char.{code}
use Rattle.text.specs.Quoted.{bytes}

-- the last decimal digit of a number
unfoldable pub last_digit : ℕ → ℕ
last_digit n = code "0" + n % 10

-- a number in at most k decimal digits: below ten one digit, else those of its tenth part and then the last
unfoldable pub digits_in : ℕ → ℕ → List ℕ
unfolding last_digit
digits_in zero n = []
digits_in (suc k) n = elim (ltb n 10) [ true ↦ last_digit n ∷ [] | false ↦ digits_in k (n / 10) ++ (last_digit n ∷ []) ]

-- a number in decimal digits; n has at most n + 1 of them
unfoldable pub numeral : ℕ → List ℕ
unfolding digits_in
numeral n = digits_in (suc n) n

-- `refused N L` and a line feed
unfoldable pub refused_line : ℕ → ℕ → List ℕ
unfolding bytes numeral
refused_line number line = bytes "refused " ++ (numeral number ++ (bytes " " ++ (numeral line ++ (10 ∷ []))))

-- ---- the line in a buffer

-- a buffer with bytes at its start; those behind them are the ones that were there
abbrev pub starting_with : List ℕ → List ℕ → List ℕ
starting_with bs buffer = bs ++ drop (length bs) buffer

-- a word is put behind the bytes that a text starts with, up to place `at`, whatever they are
abbrev pub Adds : List ℕ → ℕ → List ℕ → List ℕ → Type 0
Adds text at word later =
    (front behind : List ℕ) → text ≡ starting_with front behind → at ≡ length front → later ≡ starting_with (front ++ word) behind

-- how many bytes are written to a buffer that has so many: the line's, or none where it has under 50, the most that two numbers of 64 bits make
unfoldable pub line_count : ℕ → ℕ → ℕ → ℕ
unfolding refused_line
line_count number line room = elim (leb 50 room) [ true ↦ length (refused_line number line) | false ↦ 0 ]

-- the buffer afterwards: the line at its start, or every byte as it was
unfoldable pub line_in : ℕ → ℕ → List ℕ → List ℕ
unfolding refused_line
line_in number line buffer = elim (leb 50 (length buffer)) [ true ↦ starting_with (refused_line number line) buffer | false ↦ buffer ]
