-- The tables of macros and of instruments' names, which grow by a line: "Macro line: 5, 4, 21."; "Instrument header: 3, 21." A table is plain numbers, two for
-- each entry. Assumes nothing.
use Rattle.std.specs.Prelude.{Bool, true, false, ◌&&◌, List, ℕ, ◌+◌, ◌*◌, min, leb, ltb, eqb, length, take, set, Result, Ok, Err}
use Rattle.std.proofs.Math.Option.{Option, none, some}
use Rattle.lines.specs.Names.{between, names_in}
use Rattle.lines.specs.Tokens.{named_of, name_at}
use Rattle.sheet.specs.Capacities.{macros_most, instruments_most}
use Rattle.sheet.specs.declared.refusal.Refusal.{Refusal}
use Rattle.sheet.specs.Numbers.{number_of as refusal_number}
use Rattle.sheet.specs.Refusals.{Outcome, going, refused, ◌>>=◌, ◌>>◌, refuse◌on◌unless◌, refuse◌on◌without◌}
use Rattle.tables.specs.Named.{Macro, macro_named, place_of, macros_in}

-- whether nothing is there
unfoldable pub is_none : {A : Type 0} → Option A → Bool
is_none none = true
is_none (some x) = false

-- ---- what the lines say

-- "Macro line: 5, 4, 21."
unfoldable pub macro_of : ℕ → List ℕ → List Macro → Outcome Macro
unfolding named_of is_none macro_named
macro_of line l ms = do
  n ← refuse 5 on line without (named_of l)
  refuse 4 on line unless (is_none (macro_named n.name ms))
  refuse 21 on line unless (ltb (length ms) macros_most)
  going (record { name = n.name; body = n.body; line = line })

-- "`@` opens an instrument, its name the entire line, trailing blanks included."; "Instrument header: 3, 21.", where so many instruments have names
unfoldable pub header_of : ℕ → List ℕ → List (List ℕ) → Outcome (List ℕ)
unfolding is_none place_of
header_of line name names = do
  refuse 3 on line unless (is_none (place_of name 1 names))
  refuse 21 on line unless (ltb (length names + 1) instruments_most)
  going name

-- ---- the tables

-- a table with one more entry behind the first `count`
unfoldable pub with_entry : ℕ → ℕ → ℕ → List ℕ → List ℕ
with_entry count a b table = set (set table (2 * count) a) (2 * count + 1) b

-- where a line begins and ends whose places may lie past the source's end
abbrev pub line_end : List ℕ → ℕ → ℕ
line_end s end = min end (length s)

abbrev pub line_from : List ℕ → ℕ → ℕ → ℕ
line_from s from end = min from (line_end s end)

-- a macro's line, where the tables have room for 64; 21 where they are of another size, or hold more
unfoldable pub macro_line : ℕ → List ℕ → ℕ → ℕ → ℕ → List ℕ → List ℕ → Outcome Macro
unfolding macro_of macros_in
macro_line line s from end count names bodies =
    elim (leb count macros_most && (eqb (length names) (2 * macros_most) && eqb (length bodies) (2 * macros_most)))
    [ true ↦ macro_of line (between s from end) (macros_in s (take (2 * count) names) (take (2 * count) bodies)) | false ↦ refused 21 line ]

-- an instrument's header, where the table has room for 32
unfoldable pub header_line : ℕ → List ℕ → ℕ → ℕ → ℕ → List ℕ → Outcome (List ℕ)
unfolding header_of names_in
header_line line s from end count names =
    elim (leb count instruments_most && eqb (length names) (2 * instruments_most))
    [ true ↦ header_of line (between s from end) (names_in s (take (2 * count) names)) | false ↦ refused 21 line ]

-- ---- answers

-- the number of a refusal, 0 for none
unfoldable pub number_of : {A : Type 0} → Outcome A → ℕ
number_of (going x) = 0
number_of (refused n l) = n

-- the same of an answer
abbrev pub number_told : {A : Type 0} → Result A Refusal → ℕ
number_told (Ok x) = 0
number_told (Err why) = refusal_number why

-- the table of names and that of bodies after a macro's line
unfoldable pub names_after : Outcome Macro → List ℕ → ℕ → ℕ → ℕ → List ℕ → List ℕ
unfolding with_entry name_at
names_after (going m) s from end count names =
    with_entry count (line_from s from end + (name_at (between s from end)).from) (line_from s from end + (name_at (between s from end)).end) names
names_after (refused n l) s from end count names = names

unfoldable pub bodies_after : Outcome Macro → ℕ → List ℕ → ℕ → ℕ → List ℕ → List ℕ
unfolding with_entry
bodies_after (going m) line s end count bodies = with_entry count (line_end s end) line bodies
bodies_after (refused n l) line s end count bodies = bodies

-- the table of names after a header
unfoldable pub headers_after : Outcome (List ℕ) → List ℕ → ℕ → ℕ → ℕ → List ℕ → List ℕ
unfolding with_entry
headers_after (going x) s from end count names = with_entry count (line_from s from end) (line_end s end) names
headers_after (refused n l) s from end count names = names
