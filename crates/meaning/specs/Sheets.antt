-- The reading of a sheet, as document 01 has it: its lines from the top, what each kind of line does, and the end. "Order: 1, 2, then lines from the top;
-- the first refusal ends the reading; at the end 25, 26, 27." Assumes nothing.
use Rattle.std.specs.Prelude.{Bool, true, false, ◌&&◌, List, [], ◌∷◌, ◌++◌, map, ℕ, zero, suc, ◌+◌, max, leb, ltb, eqb, length, Float}
use Rattle.std.proofs.Math.Option.{Option, none}
use Rattle.ieee.specs.Constants.{plus_zero, one}
use Rattle.text.specs.Characters.{row_of}
use Rattle.lines.specs.Lines.{lines_of}
use Rattle.lines.specs.Tokens.{Named, named_of}
use Rattle.tree.specs.Lines.{Line, release_of}
use Rattle.sheet.specs.Capacities.{source_most, sheet_most}
use Rattle.sheet.specs.Refusals.{Outcome, going, ◌>>=◌, ◌>>◌, refuse◌on◌unless◌, refuse◌on◌if◌}
use Rattle.strict.specs.declared.mode.Mode.{Mode}
use Rattle.environment.specs.declared.environment.Environment.{Environment}
use Rattle.environment.specs.Environment.{at_the_start}
use Rattle.operators.specs.OperatorLines.{operator_lines, operators_read}
use Rattle.tables.specs.Named.{Macro}
use Rattle.part.specs.Body.{Book}
use Rattle.tables.specs.Tables.{macro_of, header_of}
use Rattle.sheet.specs.Lengths.{end_of}
use Rattle.directive.specs.Directives.{directive_of}
use Rattle.meaning.specs.Parts.{NamedPart, every_part, line_played}

-- ---- what has been read so far

-- the starting environment; the parts in order of first appearance; the macros; the names of the instruments from 1 on, and the operator lines of the
-- instruments from 0 on; and the steps
pub record Read : Type 0 where
  pub start : Environment
  pub parts : List NamedPart
  pub macros : List Macro
  pub names : List (List ℕ)
  pub instruments : List (List Line)
  pub steps : ℕ

abbrev pub read_of : Environment → List NamedPart → List Macro → List (List ℕ) → List (List Line) → ℕ → Read
read_of e ps ms ns is k = record { start = e; parts = ps; macros = ms; names = ns; instruments = is; steps = k }

-- "instrument 0 (`1 1 0 0 1 0`)"
abbrev pub plain : List Line
plain =
    record {
      indent = 0;
      op = record { amplitude = one; freqratio = one; attack = plus_zero; decay = plus_zero; sustain = one; release = plus_zero; feedback = 0 };
    } ∷ []

-- nothing is read yet
unfoldable pub nothing_read : Read
unfolding at_the_start
nothing_read = read_of at_the_start [] [] [] (plain ∷ []) 0

unfoldable pub book_of : ℕ → Read → Book
unfolding release_of
book_of rate r = record { macros = r.macros; names = r.names; releases = map release_of r.instruments; rate = rate }

-- ---- instruments

-- "`@` opens an instrument, its name the entire line, trailing blanks included."; "Instrument header: 3, 21."
unfoldable pub header_read : Mode → ℕ → List ℕ → List (List ℕ) → Read → Outcome Read
unfolding header_of operator_lines operators_read
header_read mode line name below r = do
  n ← header_of line name r.names
  os ← operators_read mode none (line + 1) 0 (operator_lines below)
  going (read_of r.start r.parts r.macros (r.names ++ (n ∷ [])) (r.instruments ++ (os ∷ [])) r.steps)

-- ---- directives

-- "A directive changes the starting environment and every existing part's."; "Directive: 7 for tokens, 6, then value."
unfoldable pub directive_read : Mode → ℕ → List ℕ → Read → Outcome Read
unfolding directive_of every_part
directive_read mode line l r = do
  f ← directive_of mode line l
  going (read_of (f r.start) (every_part f r.parts) r.macros r.names r.instruments r.steps)

-- ---- macros

-- "Macro line: 5, 4, 21."
unfoldable pub macro_read : ℕ → List ℕ → Read → Outcome Read
unfolding macro_of
macro_read line l r = do
  m ← macro_of line l r.macros
  going (read_of r.start r.parts (r.macros ++ (m ∷ [])) r.names r.instruments r.steps)

-- ---- parts

-- a part's line: what it does to the parts and to the steps, with the macros and the instruments that were read above it
unfoldable pub part_read : ℕ → ℕ → Option Named → Read → Outcome Read
unfolding line_played book_of
part_read rate line n r = do
  q ← line_played (book_of rate r) r.start line n (record { parts = r.parts; steps = r.steps })
  going (read_of r.start q.parts r.macros r.names r.instruments q.steps)

-- ---- lines

-- the kinds of line
pub data Kind : Type 0 where
  skipped header_line directive_line macro_line part_line : Kind

-- "An empty line or one starting with `;` is skipped. `@` opens an instrument .. `#` is a directive, `!` a macro. All else is a part line"
unfoldable pub kind_of : List ℕ → Kind
unfolding row_of
kind_of [] = skipped
kind_of (b ∷ s) = row_of b part_line ((";", skipped) ∷ ("@", header_line) ∷ ("#", directive_line) ∷ ("!", macro_line) ∷ [])

-- what a line of a kind does, with the lines below it; strict mode asks more of operator lines and of directives, and of nothing else
unfoldable pub line_read : Mode → ℕ → Kind → ℕ → List ℕ → List (List ℕ) → Read → Outcome Read
unfolding header_read directive_read macro_read part_read named_of
line_read mode rate skipped line l below r = going r
line_read mode rate header_line line l below r = header_read mode line l below r
line_read mode rate directive_line line l below r = directive_read mode line l r
line_read mode rate macro_line line l below r = macro_read line l r
line_read mode rate part_line line l below r = part_read rate line (named_of l) r

-- how many of the lines below it a line takes
unfoldable pub taken_by : Kind → List (List ℕ) → ℕ
unfolding operator_lines
taken_by skipped below = 0
taken_by header_line below = length (operator_lines below)
taken_by directive_line below = 0
taken_by macro_line below = 0
taken_by part_line below = 0

-- the lines from a given one on, of which the first k are passed over, since they belong to the instrument above them
unfoldable pub lines_read : Mode → ℕ → ℕ → ℕ → List (List ℕ) → Read → Outcome Read
unfolding kind_of line_read taken_by
lines_read mode rate k line [] r = going r
lines_read mode rate (suc k) line (l ∷ ls) r = lines_read mode rate k (line + 1) ls r
lines_read mode rate zero line (l ∷ ls) r = do
  q ← line_read mode rate (kind_of l) line l ls r
  lines_read mode rate (taken_by (kind_of l) ls) (line + 1) ls q

-- ---- the end

-- a loop is open in some part
unfoldable pub any_open : List NamedPart → Bool
any_open [] = false
any_open (p ∷ ps) = elim p.part.loops [ [] ↦ any_open ps | l ∷ ls ↦ true ]

-- "The sheet's length is the largest end of a sounding note, 0 without notes."
unfoldable pub length_from : ℕ → List Float → List NamedPart → ℕ
unfolding end_of
length_from rate releases [] = 0
length_from rate releases (p ∷ ps) = max (end_of rate releases 0 p.part.notes) (length_from rate releases ps)

unfoldable pub length_read : ℕ → Read → ℕ
unfolding length_from release_of
length_read rate r = length_from rate (map release_of r.instruments) r.parts

-- "at the end 25, 26, 27"
unfoldable pub ended : ℕ → Read → Outcome Read
unfolding any_open length_read
ended rate r = do
  refuse 25 on 0 if (eqb (length r.parts) 0)
  refuse 26 on 0 if (any_open r.parts)
  refuse 27 on 0 unless (leb (length_read rate r) sheet_most)
  going r

-- "a byte of 128 or more" is 2
unfoldable pub all_below128 : List ℕ → Bool
all_below128 [] = true
all_below128 (b ∷ s) = ltb b 128 && all_below128 s

-- what a source is read as in a mode, "chosen per sheet", its notes counted at a rate
unfoldable pub sheet_read : Mode → ℕ → List ℕ → Outcome Read
unfolding all_below128 lines_of lines_read nothing_read ended
sheet_read mode rate source = do
  refuse 1 on 0 unless (leb (length source) source_most)
  refuse 2 on 0 unless (all_below128 source)
  r ← lines_read mode rate 0 1 (lines_of source) nothing_read
  ended rate r
