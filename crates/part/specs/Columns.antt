-- What the code keeps while a body is read, in the terms of `Body.antt`: notes in two columns, open loops in a third, and everything else in a `State`.
-- What a column holds past its count says nothing. The contracts of the functions that read a body cite this. Assumes nothing.
use Rattle.std.specs.Prelude.{◌≡◌, List, [], ◌∷◌, ◌++◌, ℕ, zero, suc, ◌+◌, ◌*◌, ◌≤◌, ltb, length, take, get_or, Float}
use Rattle.lines.specs.Names.{names_in}
use Rattle.sheet.specs.Capacities.{loops_most, notes_most}
use Rattle.sheet.specs.Refusals.{Outcome, going, refused, ◌>>◌, refuse◌on◌unless◌}
use Rattle.sheet.specs.declared.note.Note.{Note}
use Rattle.loops.specs.Loops.{Loop, cut_of}
use Rattle.columns.specs.Columns.{notes_in}
use Rattle.tables.specs.Named.{macros_in, Macro}
use Rattle.part.specs.declared.state.State.{State}
use Rattle.part.specs.declared.state.Book.{Book as Lent}
use Rattle.part.specs.declared.state.Columns.{Columns}
use Rattle.part.specs.Body.{Progress, Book, with_notes}

-- ---- loops

-- the innermost n of a column's loops come last there and first here: each has its start and its cut
unfoldable pub loops_in : ℕ → List ℕ → List Loop
unfolding cut_of
loops_in zero ls = []
loops_in (suc n) ls = record { from = get_or ls (2 * n) 0; cut = cut_of (get_or ls (2 * n + 1) 0) } ∷ loops_in n ls

-- ---- the state

-- how far a reading is that goes on
unfoldable pub progress_of : State → List Float → List ℕ → List ℕ → Progress
unfolding notes_in loops_in
progress_of s fs is ls =
    record {
      part = record { env = s.env; notes = notes_in fs (take s.count is); loops = loops_in s.depth ls };
      others = s.others;
      steps = s.steps;
    }

-- what has come of a reading
unfoldable pub outcome_of : State → List Float → List ℕ → List ℕ → Outcome Progress
unfolding progress_of
outcome_of s fs is ls = elim s.refusal [ zero ↦ going (progress_of s fs is ls) | suc n ↦ refused (suc n) s.line ]

-- the columns of notes have room for all, and the octave is one that a semitone can be counted from
pub record Room (s : State) (fs : List Float) (is : List ℕ) : Type 0 where
  pub octave : s.env.octave ≤ 8
  pub few : s.others + s.count ≤ notes_most
  pub floats : length fs ≡ 3 * notes_most
  pub instruments : length is ≡ notes_most

-- so has that of the loops
pub record Deep (s : State) (ls : List ℕ) : Type 0 where
  pub few : s.depth ≤ loops_most
  pub places : length ls ≡ 2 * loops_most

-- a state with a refusal
abbrev pub refused_at : State → ℕ → ℕ → State
refused_at s n l =
    record { env = s.env; count = s.count; others = s.others; depth = s.depth; steps = s.steps; refusal = n; line = l }

-- a state that goes on
pub record Ready (s : State) (fs : List Float) (is ls : List ℕ) : Type 0 where
  pub goes : s.refusal ≡ 0
  pub room : Room s fs is
  pub deep : Deep s ls

-- a state and columns that this has come of
pub record Becomes (o : Outcome Progress) (s : State) (fs : List Float) (is ls : List ℕ) : Type 0 where
  pub room : Room s fs is
  pub deep : Deep s ls
  pub means : outcome_of s fs is ls ≡ o

-- ---- a note at the end of its part

-- the last step of `noted`: 21, or the note behind the others
unfoldable pub laid : ℕ → Note → Progress → Outcome Progress
laid line n p = do
  refuse 21 on line unless (ltb (p.others + length p.part.notes) notes_most)
  going (with_notes (p.part.notes ++ (n ∷ [])) p.part.loops p)

-- ---- the book

abbrev pub book_of : ℕ → List Macro → List (List ℕ) → List Float → Book
book_of rate ms ns rs = record { macros = ms; names = ns; releases = rs; rate = rate }

-- macros by their two tables, instruments by the table of their names and by their releases
abbrev pub book_in : ℕ → List ℕ → List ℕ → List ℕ → List ℕ → List Float → Book
book_in rate s ms bs ns rs = book_of rate (macros_in s ms bs) (names_in s ns) rs

-- the same of what is lent to the reader of bodies
abbrev pub held : Lent → Book
held b = book_in b.rate b.source.now b.macros.now b.bodies.now b.names.now b.releases.now

-- the columns are still the ones that were lent
abbrev pub SameColumns : Columns → Columns → Type 0
SameColumns a b =
    (b.floats.ghost_name ≡ a.floats.ghost_name)
    × ((b.instruments.ghost_name ≡ a.instruments.ghost_name) × (b.loops.ghost_name ≡ a.loops.ghost_name))
