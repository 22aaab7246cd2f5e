-- Operator lines, as document 01 has them: which lines below a header are an instrument's, what one of them says, and its refusals in their order.
-- What the lines come to, commands and a release, stands in `tree`'s `specs/Lines.antt`. Assumes nothing.
use Rattle.std.specs.Prelude.{Bool, true, false, ◌||◌, leb, ltb, length, take, drop, get_or, Float, Option as Optional, Some, None, Result, Ok, Err}
use mathlib.Core.List.{List, [], ◌∷◌}
use Rattle.std.proofs.Math.Option.{Option, some}
use Prim.Native.Nat.{ℕ, zero, suc, ◌+◌}
use Rattle.std.proofs.Math.Dec.{eqb}
use Rattle.std.specs.Float.{nan}
use Rattle.text.specs.Blanks.{is_blank}
use Rattle.text.specs.Characters.{is}
use Rattle.text.specs.Fronts.{front, after}
use Rattle.lines.specs.Tokens.{tokens_of}
use Rattle.text.specs.declared.parsed.Parsed.{Parsed}
use Rattle.number.specs.declared.decimal.NoDecimal.{NoDecimal}
use Rattle.number.specs.declared.decimal.NoDecimal.TheVariants.{Unreadable, TooLong}
use Rattle.number.specs.Digits.{value_most, int_at, int_width}
use Rattle.number.specs.Decimal.{decimal_at, decimal_width}
use Rattle.operator.specs.declared.operator.Operator.{Operator}
use Rattle.tree.specs.Lines.{Line, indent_refusal}
use Rattle.sheet.specs.Capacities.{operators_most, feedback_most}
use Rattle.sheet.specs.Refusals.{Outcome, going, refused, ◌>>=◌, ◌>>◌, refuse◌on◌unless◌}
use Rattle.strict.specs.declared.mode.Mode.{Mode}
use Rattle.strict.specs.Strict.{read_to_its_end}

-- ---- which lines

-- what follows a line's blanks ends the operator lines: nothing, "`#`, `@` or `;`"
unfoldable pub ends_at : List ℕ → Bool
ends_at [] = true
ends_at (b ∷ s) = is "#" b || (is "@" b || is ";" b)

-- "a line that is blank or whose first non-blank is `#`, `@` or `;`"
unfoldable pub ends : List ℕ → Bool
unfolding ends_at after is_blank
ends l = ends_at (after is_blank l)

-- "Operator lines run from the header to the end or to" such a line
unfoldable pub operator_lines : List (List ℕ) → List (List ℕ)
unfolding ends
operator_lines [] = []
operator_lines (l ∷ ls) = elim (ends l) [ true ↦ [] | false ↦ l ∷ operator_lines ls ]

-- ---- one line

-- "Indent is the number of leading tabs."
unfoldable pub indent_of : List ℕ → ℕ
unfolding front
indent_of l = length (front (is "\t") l)

-- an operator of six numbers in their order and a feedback
unfoldable pub operator_of : List Float → ℕ → Operator
operator_of xs f =
    record {
      amplitude = get_or xs 0 nan;
      freqratio = get_or xs 1 nan;
      attack = get_or xs 2 nan;
      decay = get_or xs 3 nan;
      sustain = get_or xs 4 nan;
      release = get_or xs 5 nan;
      feedback = f;
    }

module _ (line : ℕ) where
  -- "first operator line indented" is 15, "indent grows by more than 1" is 16
  unfoldable pub indented : Option ℕ → ℕ → Outcome (Unit {0})
  unfolding indent_refusal
  indented before i = elim (indent_refusal before i) [ zero ↦ going tt | suc n ↦ refused (suc n) line ]

  -- "18 before 19"
  unfoldable pub readable : Result (Parsed Float) NoDecimal → Outcome Float
  readable (Ok found) = going found.value
  readable (Err Unreadable) = refused 18 line
  readable (Err TooLong) = refused 19 line

  -- "18 if absent or over 4,294,967,295"
  unfoldable pub present : Optional (Parsed ℕ) → Outcome ℕ
  present (Some found) = going found.value
  present None = refused 18 line

module _ (mode : Mode) (line : ℕ) where
  -- "numbers left to right"; "What follows is ignored in an operator token" in plain mode, and is 32 in strict mode, "right after 18, 19"
  unfoldable pub numbers_read : List (List ℕ) → Outcome (List Float)
  unfolding readable decimal_at read_to_its_end decimal_width
  numbers_read [] = going []
  numbers_read (t ∷ ts) = do
    x ← readable line (decimal_at t 0)
    read_to_its_end mode line t (decimal_width (decimal_at t 0))
    xs ← numbers_read ts
    going (x ∷ xs)

  -- "Feedback is a digit run: 18 if absent or over 4,294,967,295, else 20 if over 255.", and "right after .. 20" 32 in strict mode; where there is no
  -- seventh token it is 0
  unfoldable pub feedback_read : List (List ℕ) → Outcome ℕ
  unfolding present int_at read_to_its_end int_width
  feedback_read [] = going 0
  feedback_read (t ∷ ts) = do
    v ← present line (int_at value_most t 0)
    refuse 20 on line unless (leb v feedback_most)
    read_to_its_end mode line t (int_width (int_at value_most t 0))
    going v

  -- "Operator line: 15, 16, 17, then numbers left to right (18 before 19), 20, 21."; so many operators stand above it
  unfoldable pub operator_read : Option ℕ → ℕ → List ℕ → Outcome Line
  unfolding indented indent_of tokens_of numbers_read feedback_read operator_of
  operator_read before above l = do
    let ts = tokens_of l
    indented line before (indent_of l)
    refuse 17 on line unless (eqb (length ts) 6 || eqb (length ts) 7)
    xs ← numbers_read (take 6 ts)
    f ← feedback_read (drop 6 ts)
    refuse 21 on line unless (ltb above operators_most)
    going (record { indent = indent_of l; op = operator_of xs f })

-- ---- all lines of an instrument

-- "Lines are read downward": the operators of lines from a given one on, below a line of the given indent, if there is one
unfoldable pub operators_read : Mode → Option ℕ → ℕ → ℕ → List (List ℕ) → Outcome (List Line)
unfolding operator_read
operators_read mode before line above [] = going []
operators_read mode before line above (l ∷ ls) = do
  o ← operator_read mode line before above l
  os ← operators_read mode (some o.indent) (line + 1) (above + 1) ls
  going (o ∷ os)
