-- What a body does to its part. Each order of refusals of document 01 is a `do` block; "In a body 23 precedes all else", and "inside a macro the
-- macro's own line" is the one that is reported. Assumes nothing.
use Rattle.std.specs.Prelude.{Bool, ℕ, zero, suc, ◌+◌, leb, ltb, get_or, Float}
use mathlib.Core.List.{List, [], ◌∷◌, ◌++◌}
use Rattle.std.proofs.Math.Option.{Option, none, some}
use Rattle.std.proofs.Math.ListN.{length}
use Rattle.std.specs.Float.{nan}
use Rattle.sheet.specs.Capacities.{loops_most, notes_most, nesting_most, steps_most}
use Rattle.sheet.specs.Refusals.{Outcome, going, refused, ◌>>=◌, ◌>>◌, refuse◌on◌unless◌, refuse◌on◌without◌}
use Rattle.sheet.specs.declared.note.Note.{Note}
use Rattle.environment.specs.declared.environment.Environment.{Environment}
use Rattle.keys.specs.declared.key.Accidental.{Accidental}
use Rattle.environment.specs.Bounds.{values, within}
use Rattle.settings.specs.Changes.{octave_read, value_read, tempo_read, amplitude_read, key_read}
use Rattle.environment.specs.Environment.{with_instrument, octave_up, octave_down}
use Rattle.items.specs.Items.{Item, note, up, down, opening, cut, closing, octave, value, tempo, amplitude, key, instrument, call, unknown, items_of}
use Rattle.loops.specs.Loops.{Loop, played, played_count, innermost, counted}
use Rattle.sheet.specs.Lengths.{sounding_of, is_counted}
use Rattle.notes.specs.Notes.{note_of, value_of}
use Rattle.tables.specs.Named.{Macro, macro_named, place_of}

-- ---- what a body is read in

-- a part as it is read so far: its environment, its notes, and its open loops
pub record Part : Type 0 where
  pub env : Environment
  pub notes : List Note
  pub loops : List Loop

-- what a body may name: macros, and instruments by their names from 1 on; the releases of all instruments from 0 on; and the rate at which notes are
-- counted in samples
pub record Book : Type 0 where
  pub macros : List Macro
  pub names : List (List ℕ)
  pub releases : List Float
  pub rate : ℕ

-- how far a reading is: the part of the body, how many notes the other parts have, and how many steps were read
pub record Progress : Type 0 where
  pub part : Part
  pub others : ℕ
  pub steps : ℕ

-- the same with another part
abbrev pub with_part : Environment → List Note → List Loop → Progress → Progress
with_part e ns ls p = record { part = record { env = e; notes = ns; loops = ls }; others = p.others; steps = p.steps }

abbrev pub with_notes : List Note → List Loop → Progress → Progress
with_notes ns ls p = with_part p.part.env ns ls p

abbrev pub changed_to : Environment → Progress → Progress
changed_to e p = with_part e p.part.notes p.part.loops p

abbrev pub one_step : Progress → Progress
one_step p = record { part = p.part; others = p.others; steps = p.steps + 1 }

-- ---- items, on a line and with a book

-- the environment that a command reads, in place of the part's
unfoldable pub changing : Outcome Environment → Progress → Outcome Progress
changing o p = do
  e ← o
  going (changed_to e p)

module _ (book : Book) (line : ℕ) where
  -- "Note: 8, 24, 21."
  unfoldable pub noted : ℕ → Option Accidental → ℕ → Bool → Progress → Outcome Progress
  unfolding note_of sounding_of is_counted
  noted letter a v dot p = do
    refuse 8 on line unless (within values v)
    let n = note_of p.part.env letter a v dot
    refuse 24 on line unless (is_counted (sounding_of book.rate (get_or book.releases n.instrument nan) n))
    refuse 21 on line unless (ltb (p.others + length p.part.notes) notes_most)
    going (with_notes (p.part.notes ++ (n ∷ [])) p.part.loops p)

  -- "`[` opens"; "Open loops 8 per part."
  unfoldable pub opened : Progress → Outcome Progress
  opened p = do
    refuse 21 on line unless (ltb (length p.part.loops) loops_most)
    going (with_notes p.part.notes (record { from = length p.part.notes; cut = none } ∷ p.part.loops) p)

  -- "`:` sets the cut at the notes so far (the last wins)"; "`]` or `:` with no open loop" is 10
  unfoldable pub cut_here : Progress → Outcome Progress
  unfolding innermost
  cut_here p = do
    (l, ls) ← refuse 10 on line without (innermost p.part.loops)
    going (with_notes p.part.notes (record { from = l.from; cut = some (length p.part.notes) } ∷ ls) p)

  -- "`]`: 10, 11, 21."; the notes are counted "at `]`, after closing"
  unfoldable pub closed : Option ℕ → Progress → Outcome Progress
  unfolding innermost counted played played_count
  closed times p = do
    (l, ls) ← refuse 10 on line without (innermost p.part.loops)
    n ← refuse 11 on line without (counted times)
    refuse 21 on line unless (leb (p.others + played_count n l p.part.notes) notes_most)
    going (with_notes (played n l p.part.notes) ls p)

  -- "`!`: 13, 22.": what a call of a macro from a line does is given
  unfoldable pub called : (Macro → Progress → Outcome Progress) → List ℕ → Progress → Outcome Progress
  unfolding macro_named
  called inner name p = do
    m ← refuse 13 on line without (macro_named name book.macros)
    inner m p

  -- what an item does
  unfoldable pub does : (Macro → Progress → Outcome Progress) → Item → Progress → Outcome Progress
  unfolding noted value_of octave_up octave_down opened cut_here closed changing octave_read value_read tempo_read amplitude_read key_read place_of called
  does inner (note letter a v dot) p = noted letter a (value_of p.part.env v) dot p
  does inner up p = going (changed_to (octave_up p.part.env) p)
  does inner down p = going (changed_to (octave_down p.part.env) p)
  does inner opening p = opened p
  does inner cut p = cut_here p
  does inner (closing n) p = closed n p
  does inner (octave n) p = changing (octave_read line n p.part.env) p
  does inner (value n) p = changing (value_read line n p.part.env) p
  does inner (tempo n) p = changing (tempo_read line n p.part.env) p
  does inner (amplitude a) p = changing (amplitude_read line a p.part.env) p
  does inner (key k) p = changing (key_read line k p.part.env) p
  does inner (instrument name) p = do
    i ← refuse 12 on line without (place_of name 1 book.names)
    going (changed_to (with_instrument i p.part.env) p)
  does inner (call name) p = called inner name p
  does inner unknown p = refused 14 line

  -- "A reading step is one note, command, mark or macro call"; "In a body 23 precedes all else."
  unfoldable pub stepped : (Macro → Progress → Outcome Progress) → Item → Progress → Outcome Progress
  unfolding does
  stepped inner i p = do
    refuse 23 on line unless (ltb p.steps steps_most)
    does inner i (one_step p)

  -- the items one after the other
  unfoldable pub run : (Macro → Progress → Outcome Progress) → List Item → Progress → Outcome Progress
  unfolding stepped
  run inner [] p = going p
  run inner (i ∷ is) p = do
    q ← stepped inner i p
    run inner is q

-- ---- bodies and macros

-- "A body calls a macro, a macro holds a body.": what a macro does that is called from a line, where so many nested calls are still allowed
unfoldable pub inside : Book → ℕ → ℕ → Macro → Progress → Outcome Progress
unfolding run items_of
inside book zero caller m p = refused 22 caller
inside book (suc left) caller m p = run book m.line (inside book left m.line) (items_of m.body) p

-- a body on a line; "Macro calls nested 8 deep."
unfoldable pub body_read : Book → ℕ → List ℕ → Progress → Outcome Progress
unfolding run inside items_of
body_read book line body p = run book line (inside book nesting_most line) (items_of body) p
