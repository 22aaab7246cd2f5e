-- What the pieces of a part's line promise: which part the line names, the state that this part is read on from, and the regions of the columns behind a body.
-- Private contracts cite this, and no public one. Assumes nothing.
use Rattle.std.specs.Prelude.{Option, None, Some, ◌≡◌, true, false, List, ℕ, ◌+◌, ◌*◌, ◌-◌, ◌≤◌, ◌<◌, ltb, length, take, Float}
use Rattle.lines.specs.Names.{between, names_in, place_among}
use Rattle.lines.specs.Tokens.{name_at}
use Rattle.sheet.specs.Capacities.{parts_most, notes_most, loops_most}
use Rattle.sheet.specs.Refusals.{Outcome}
use Rattle.environment.specs.declared.environment.Environment.{Environment}
use Rattle.part.specs.declared.state.State.{State}
use Rattle.part.specs.Body.{Book, Progress, body_read}
use Rattle.part.specs.Columns.{progress_of, Ready}
use Rattle.part.specs.Reading.{state_after, Held}
use Rattle.tables.specs.Tables.{with_entry}
use Rattle.layout.specs.Regions.{region}
use Rattle.meaning.specs.Sheets.{kind_of, part_line}
use Rattle.parser.specs.declared.parts.Parted.{Parted}
use Rattle.parser.specs.Columns.{place_column}

-- ---- the part

-- which part a line names: it is a part's, with a name and a body, and the name's place among those of n parts
pub record OfPart (s : List ℕ) (at end n : ℕ) (p : Parted) (ls : List ℕ) : Type 0 where
  pub kind : kind_of (between s at end) ≡ part_line
  pub two : (name_at (between s at end)).two ≡ true
  pub place :
      p.place ≡ place_among (between (between s at end) (name_at (between s at end)).from (name_at (between s at end)).end) (names_in s (take (2 * n) (place_column ls)))
  pub begins : p.from ≡ at + (name_at (between s at end)).from
  pub ends : p.end ≡ at + (name_at (between s at end)).end

-- or it is none of that
abbrev pub PartNamed : (s : List ℕ) (at end n : ℕ) (ls : List ℕ) → Option Parted → Type 0
PartNamed s at end n ls (Some p) = OfPart s at end n p ls
PartNamed s at end n ls None = kind_of (between s at end) ≡ part_line → (name_at (between s at end)).two ≡ false

-- the name of the part k has its places in the column, where n parts were there before
pub record NamedAt (k n from end : ℕ) (ls ls' : List ℕ) : Type 0 where
  pub known : k < n → ls' ≡ ls
  pub new : n ≤ k → place_column ls' ≡ with_entry n from end (place_column ls)
  pub loops : (j : ℕ) → j < parts_most → region (2 * loops_most) j ls' ≡ region (2 * loops_most) j ls

-- the state of the part k from what it has, all notes but its own being those of others; or of a new part where it is not one of n parts
unfoldable pub state_from : (k n : ℕ) → Environment → (count depth : ℕ) → Environment → (all steps : ℕ) → State
state_from k n env count depth start all steps =
    elim (ltb k n) [
      | true ↦ record { env = env; count = count; others = all - count; depth = depth; steps = steps; refusal = 0; line = 0 }
      | false ↦ record { env = start; count = 0; others = all; depth = 0; steps = steps; refusal = 0; line = 0 }
    ]

-- ---- a body

-- the regions of all parts but one are kept
pub record Beside (k : ℕ) (fs : List Float) (is ls : List ℕ) (gs : List Float) (js ms : List ℕ) : Type 0 where
  pub floats : (j : ℕ) → (j ≡ k → ⊥) → region (3 * notes_most) j gs ≡ region (3 * notes_most) j fs
  pub bytes : (j : ℕ) → (j ≡ k → ⊥) → region notes_most j js ≡ region notes_most j is
  pub loops : (j : ℕ) → (j ≡ k → ⊥) → region (2 * loops_most) j ms ≡ region (2 * loops_most) j ls
  pub floats_length : length gs ≡ length fs
  pub bytes_length : length js ≡ length is
  pub loops_length : length ms ≡ length ls

-- what has come of a body that is read on from a state in the regions of the part k
pub record BodyCame (o : Outcome Progress) (k : ℕ) (st q : State) (fs : List Float) (is ls : List ℕ) (gs : List Float) (js ms : List ℕ) : Type 0 where
  pub state : q ≡ state_after st o
  pub held : Held o (region (3 * notes_most) k gs) (region notes_most k js) (region (2 * loops_most) k ms)
  pub ready : q.refusal ≡ 0 → Ready q (region (3 * notes_most) k gs) (region notes_most k js) (region (2 * loops_most) k ms)
  pub beside : Beside k fs is ls gs js ms

-- the state fits the part's regions
abbrev pub ReadyAt : ℕ → State → List Float → List ℕ → List ℕ → Type 0
ReadyAt k st fs is ls = Ready st (region (3 * notes_most) k fs) (region notes_most k is) (region (2 * loops_most) k ls)

-- the body read on from there
unfoldable pub body_at : Book → ℕ → List ℕ → ℕ → State → List Float → List ℕ → List ℕ → Outcome Progress
body_at book line text k st fs is ls =
    body_read book line text (progress_of st (region (3 * notes_most) k fs) (region notes_most k is) (region (2 * loops_most) k ls))
