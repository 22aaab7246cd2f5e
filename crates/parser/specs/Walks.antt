-- How a walk over a source's lines goes on: what is left of the source gives the same outcome throughout. Private contracts cite this, and no public one.
-- Assumes nothing.
use Rattle.std.specs.Prelude.{◌≡◌, false, List, ℕ, ◌+◌, ◌*◌, ◌≤◌, ◌<◌, length, drop, Float}
use Rattle.lines.specs.Lines.{lines_of, line_at}
use Rattle.lines.specs.Names.{between}
use Rattle.lines.specs.Tokens.{name_at}
use Rattle.sheet.specs.Refusals.{Outcome}
use Rattle.meaning.specs.Sheets.{Read, part_line, kind_of, lines_read}
use Rattle.strict.specs.declared.mode.Mode.{Mode}
use Rattle.parser.specs.declared.sofar.Sofar.{Sofar}
use Rattle.parser.specs.Columns.{Tables, place_column, read_in, read_outcome, Fits, Tabled}

-- what comes of the rest of the source, from a reading on
unfoldable pub rest_read : Mode → ℕ → List ℕ → List ℕ → Sofar → List Float → List ℕ → List ℕ → Tables → Outcome Read
unfolding lines_read read_in
rest_read mode rate s places r fs is ls t = lines_read mode rate 0 r.line (lines_of (drop r.at s)) (read_in s places r fs is ls t)

-- the walk has come to a place, and the rest gives this outcome
pub record Walking (mode : Mode) (rate : ℕ) (s : List ℕ) (o : Outcome Read) (places : List ℕ) (r : Sofar) (fs : List Float) (is ls : List ℕ) (t : Tables) : Type 0 where
  pub goes : r.refusal ≡ 0
  pub inside : r.at ≤ length s
  pub lines : r.line ≤ 33 * r.at + 1
  pub fits : Fits places r fs is ls
  pub tabled : Tabled r t
  pub left : rest_read mode rate s places r fs is ls t ≡ o

-- a part's line at a place has no name with a body behind it
abbrev pub BareAt : List ℕ → ℕ → ℕ → Type 0
BareAt s at end = kind_of (between s at end) ≡ part_line → (name_at (between s at end)).two ≡ false

-- what a run of parts' lines makes of a reading: the rest gives the same outcome, and the next line, if there is one, names no part; or the outcome is its refusal
pub record PartsRead (mode : Mode) (rate : ℕ) (s : List ℕ) (o : Outcome Read) (r q : Sofar) (fs : List Float) (is ls : List ℕ) (t : Tables) : Type 0 where
  pub on : q.refusal ≡ 0 → Walking mode rate s o (place_column ls) q fs is ls t
  pub bare : q.refusal ≡ 0 → q.at < length s → BareAt s q.at (line_at s q.at).end
  pub onward : q.refusal ≡ 0 → r.at ≤ q.at
  pub ended : (q.refusal ≡ 0 → ⊥) → read_outcome s (place_column ls) q fs is ls t ≡ o
