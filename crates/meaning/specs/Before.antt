-- The reading of document 01 without a mode: those definitions that strict numbers (T-05) changed, as they stood before it, word for word, but that `indented`,
-- `readable` and `present`, which stand elsewhere, are handed the line. All others are the same ones still. Only theorems speak of these: `StrictNumbers.antt` has
-- that plain mode is this reading. Assumes nothing.
use Rattle.std.specs.Prelude.{◌||◌, ℕ, zero, suc, ◌+◌, leb, ltb, length, take, drop, Float}
use mathlib.Core.List.{List, [], ◌∷◌, ◌++◌}
use Rattle.std.proofs.Math.Option.{Option, none, some}
use Prim.Native.String.{String}
use Rattle.std.proofs.Math.Dec.{eqb}
use Rattle.text.specs.Characters.{row_named}
use Rattle.lines.specs.Lines.{lines_of}
use Rattle.lines.specs.Tokens.{tokens_of, named_of, first_token}
use Rattle.number.specs.Digits.{value_most, int_at}
use Rattle.number.specs.Decimal.{decimal_at}
use Rattle.tree.specs.Lines.{Line}
use Rattle.sheet.specs.Capacities.{source_most, operators_most, feedback_most}
use Rattle.sheet.specs.Refusals.{Outcome, going, refused, ◌>>=◌, ◌>>◌, refuse◌on◌unless◌, refuse◌on◌without◌}
use Rattle.keys.specs.Keys.{key_at, key_found}
use Rattle.environment.specs.declared.environment.Environment.{Environment}
use Rattle.environment.specs.Bounds.{denominators, tempos}
use Rattle.environment.specs.Environment.{with_tempo, with_denominator, with_key}
use Rattle.environment.specs.Ranges.{digit_run, ranged}
use Rattle.operators.specs.OperatorLines.{operator_lines, indent_of, operator_of, indented, readable, present}
use Rattle.tables.specs.Tables.{header_of}
use Rattle.meaning.specs.Parts.{every_part}
use Rattle.meaning.specs.Sheets.{Read, read_of, nothing_read, Kind, skipped, header_line, directive_line, macro_line, part_line, kind_of, taken_by, macro_read, part_read, ended, all_below128}

-- ---- operator lines

module _ (line : ℕ) where
  unfoldable pub numbers_read : List (List ℕ) → Outcome (List Float)
  unfolding readable decimal_at
  numbers_read [] = going []
  numbers_read (t ∷ ts) = do
    x ← readable line (decimal_at t 0)
    xs ← numbers_read ts
    going (x ∷ xs)

  unfoldable pub feedback_read : List (List ℕ) → Outcome ℕ
  unfolding present int_at
  feedback_read [] = going 0
  feedback_read (t ∷ ts) = do
    v ← present line (int_at value_most t 0)
    refuse 20 on line unless (leb v feedback_most)
    going v

  unfoldable pub operator_read : Option ℕ → ℕ → List ℕ → Outcome Line
  unfolding indented indent_of tokens_of numbers_read feedback_read operator_of
  operator_read before above l = do
    let ts = tokens_of l
    indented line before (indent_of l)
    refuse 17 on line unless (eqb (length ts) 6 || eqb (length ts) 7)
    xs ← numbers_read (take 6 ts)
    f ← feedback_read (drop 6 ts)
    refuse 21 on line unless (ltb above operators_most)
    going (record { indent = indent_of l; op = operator_of xs f })

unfoldable pub operators_read : Option ℕ → ℕ → ℕ → List (List ℕ) → Outcome (List Line)
unfolding operator_read
operators_read before line above [] = going []
operators_read before line above (l ∷ ls) = do
  o ← operator_read line before above l
  os ← operators_read (some o.indent) (line + 1) (above + 1) ls
  going (o ∷ os)

-- ---- directives

unfoldable pub directives : ℕ → List (String × (List ℕ → Outcome (Environment → Environment)))
unfolding ranged digit_run int_at key_found key_at
directives line = (
  "#tempo",
  λ text. do
    v ← ranged line tempos (digit_run (int_at value_most text 0))
    going (with_tempo v),
)
    ∷ (
      "#denom",
      λ text. do
        v ← ranged line denominators (digit_run (int_at value_most text 0))
        going (with_denominator v),
    )
    ∷ (
      "#key",
      λ text. do
        k ← refuse 9 on line without (key_found (key_at text 0))
        going (with_key k),
    )
    ∷ []

unfoldable pub change_of : ℕ → List ℕ → List ℕ → Outcome (Environment → Environment)
unfolding row_named directives
change_of line name text = row_named name (λ text. refused 6 line) (directives line) text

unfoldable pub directive_of : ℕ → List ℕ → Outcome (Environment → Environment)
unfolding named_of first_token change_of
directive_of line l = do
  n ← refuse 7 on line without (named_of l)
  change_of line n.name (first_token n.body)

-- ---- lines

unfoldable pub header_read : ℕ → List ℕ → List (List ℕ) → Read → Outcome Read
unfolding header_of operator_lines operators_read
header_read line name below r = do
  n ← header_of line name r.names
  os ← operators_read none (line + 1) 0 (operator_lines below)
  going (read_of r.start r.parts r.macros (r.names ++ (n ∷ [])) (r.instruments ++ (os ∷ [])) r.steps)

unfoldable pub directive_read : ℕ → List ℕ → Read → Outcome Read
unfolding directive_of every_part
directive_read line l r = do
  f ← directive_of line l
  going (read_of (f r.start) (every_part f r.parts) r.macros r.names r.instruments r.steps)

unfoldable pub line_read : ℕ → Kind → ℕ → List ℕ → List (List ℕ) → Read → Outcome Read
unfolding header_read directive_read macro_read part_read named_of
line_read rate skipped line l below r = going r
line_read rate header_line line l below r = header_read line l below r
line_read rate directive_line line l below r = directive_read line l r
line_read rate macro_line line l below r = macro_read line l r
line_read rate part_line line l below r = part_read rate line (named_of l) r

unfoldable pub lines_read : ℕ → ℕ → ℕ → List (List ℕ) → Read → Outcome Read
unfolding kind_of line_read taken_by
lines_read rate k line [] r = going r
lines_read rate (suc k) line (l ∷ ls) r = lines_read rate k (line + 1) ls r
lines_read rate zero line (l ∷ ls) r = do
  q ← line_read rate (kind_of l) line l ls r
  lines_read rate (taken_by (kind_of l) ls) (line + 1) ls q

unfoldable pub sheet_read : ℕ → List ℕ → Outcome Read
unfolding all_below128 lines_of lines_read nothing_read ended
sheet_read rate source = do
  refuse 1 on 0 unless (leb (length source) source_most)
  refuse 2 on 0 unless (all_below128 source)
  r ← lines_read rate 0 1 (lines_of source) nothing_read
  ended rate r
