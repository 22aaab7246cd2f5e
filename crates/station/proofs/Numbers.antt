-- The number of a refused text is not 0, so a caller may take 0 for none: each kind of line refuses with numbers of its own, and so does the end. Assumes
-- nothing.
use mathlib.Core.List.{List, [], ◌∷◌}
use mathlib.Core.Option.{Option, none, some}
use Prim.Native.Nat.{ℕ, zero, suc, ◌+◌}
use native.Mathlib.Omega.{arith}
use Rattle.lines.specs.Lines.{lines_of}
use Rattle.lines.specs.Tokens.{Named, named_of}
use Rattle.sheet.specs.Refusals.{Outcome, going, refused}
use Rattle.sheet.proofs.Outcomes.{Numbered, numbered_going, numbered_unless, numbered_if, numbered_then}
use Rattle.strict.specs.declared.mode.Mode.{Mode}
use Rattle.environment.specs.declared.environment.Environment.{Environment}
use Rattle.operators.specs.OperatorLines.{operator_lines, operators_read}
use Rattle.blocks.proofs.Reading.{line_numbered}
use Rattle.part.specs.Body.{Part, Book}
use Rattle.meaning.specs.Parts.{NamedPart, Played, part_of, part_named, line_played}
use Rattle.meaning.specs.Sheets.{Read, Kind, skipped, header_line, directive_line, macro_line, part_line, kind_of, taken_by, book_of, header_read, directive_read, macro_read, part_read, line_read, lines_read, nothing_read, ended, sheet_read}
use Rattle.parser.proofs.Bodies.{body_numbered}
use Rattle.parser.proofs.Numbers.{At, directive_numbered, macro_at_law, header_at}

at_numbered : {A : Type 0} (line : ℕ) (o : Outcome A) → At line o → Numbered o
unfolding At Numbered
at_numbered line (going x) h = tt
at_numbered line (refused n l) h = h.0

-- ---- a line of each kind

operators_numbered : (mode : Mode) (before : Option ℕ) (line above : ℕ) (ls : List (List ℕ)) → Numbered (operators_read mode before line above ls)
unfolding operators_read
operators_numbered mode before line above [] = numbered_going []
operators_numbered mode before line above (l ∷ ls) =
    numbered_then _ _ (line_numbered mode line before above l)
    (λ o. numbered_then _ _ (operators_numbered mode (some o.indent) (line + 1) (above + 1) ls) (λ os. numbered_going (o ∷ os)))

header_numbered : (mode : Mode) (line : ℕ) (name : List ℕ) (below : List (List ℕ)) (r : Read) → Numbered (header_read mode line name below r)
unfolding header_read
header_numbered mode line name below r =
    numbered_then _ _ (at_numbered line _ (header_at line name r.names))
    (λ n. numbered_then _ _ (operators_numbered mode none (line + 1) 0 (operator_lines below)) (λ os. numbered_going _))

directive_line_numbered : (mode : Mode) (line : ℕ) (l : List ℕ) (r : Read) → Numbered (directive_read mode line l r)
unfolding directive_read
directive_line_numbered mode line l r = numbered_then _ _ (directive_numbered mode line l) (λ f. numbered_going _)

macro_numbered : (line : ℕ) (l : List ℕ) (r : Read) → Numbered (macro_read line l r)
unfolding macro_read
macro_numbered line l r = numbered_then _ _ (at_numbered line _ (macro_at_law line l r.macros)) (λ m. numbered_going _)

part_of_numbered : (start : Environment) (line : ℕ) (ps : List NamedPart) (v : Option Part) → Numbered (part_of start line ps v)
unfolding part_of
part_of_numbered start line ps (some v) = numbered_going v
part_of_numbered start line ps none = numbered_unless _ _ _ _ (omega arith) (numbered_going _)

played_numbered : (book : Book) (start : Environment) (line : ℕ) (n : Option Named) (q : Played) → Numbered (line_played book start line n q)
unfolding line_played
played_numbered book start line none q = numbered_going q
played_numbered book start line (some n) q =
    numbered_then _ _ (part_of_numbered start line q.parts (part_named n.name q.parts))
    (λ v. numbered_then _ _ (body_numbered book line n.body _) (λ p. numbered_going _))

part_numbered : (rate line : ℕ) (n : Option Named) (r : Read) → Numbered (part_read rate line n r)
unfolding part_read
part_numbered rate line n r = numbered_then _ _ (played_numbered (book_of rate r) r.start line n _) (λ q. numbered_going _)

-- ---- all lines

line_read_numbered : (mode : Mode) (rate : ℕ) (k : Kind) (line : ℕ) (l : List ℕ) (below : List (List ℕ)) (r : Read) → Numbered (line_read mode rate k line l below r)
unfolding line_read
line_read_numbered mode rate skipped line l below r = numbered_going r
line_read_numbered mode rate header_line line l below r = header_numbered mode line l below r
line_read_numbered mode rate directive_line line l below r = directive_line_numbered mode line l r
line_read_numbered mode rate macro_line line l below r = macro_numbered line l r
line_read_numbered mode rate part_line line l below r = part_numbered rate line (named_of l) r

lines_numbered : (mode : Mode) (rate k line : ℕ) (ls : List (List ℕ)) (r : Read) → Numbered (lines_read mode rate k line ls r)
unfolding lines_read
lines_numbered mode rate k line [] r = numbered_going r
lines_numbered mode rate (suc k) line (l ∷ ls) r = lines_numbered mode rate k (line + 1) ls r
lines_numbered mode rate zero line (l ∷ ls) r =
    numbered_then _ _ (line_read_numbered mode rate (kind_of l) line l ls r) (λ q. lines_numbered mode rate (taken_by (kind_of l) ls) (line + 1) ls q)

ended_numbered : (rate : ℕ) (r : Read) → Numbered (ended rate r)
unfolding ended
ended_numbered rate r =
    numbered_if _ _ _ _ (omega arith) (numbered_if _ _ _ _ (omega arith) (numbered_unless _ _ _ _ (omega arith) (numbered_going r)))

pub sheet_numbered : (mode : Mode) (rate : ℕ) (source : List ℕ) → Numbered (sheet_read mode rate source)
unfolding sheet_read
sheet_numbered mode rate source =
    numbered_unless _ _ _ _ (omega arith)
    (numbered_unless _ _ _ _ (omega arith)
    (numbered_then _ _ (lines_numbered mode rate 0 1 (lines_of source) nothing_read) (λ r. ended_numbered rate r)))
