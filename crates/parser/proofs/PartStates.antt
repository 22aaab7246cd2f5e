-- A part's line in the terms of a reading: the state of a part that is there or new, the reading with the state that has come of its body, and what has come of
-- the parts. Only proofs speak of this. Assumes nothing.
use mathlib.Core.Path.{◌≡◌}
use mathlib.Core.Bool.{true, false}
use mathlib.Core.List.{List, [], ◌∷◌}
use mathlib.Core.Option.{some}
use Prim.Native.Nat.{ℕ, zero, suc, ◌+◌, ◌-◌}
use lib.Dec.{ltb}
use lib.ListN.{get_or, set}
use lib.Ieee.{Float}
use Rattle.lines.specs.Names.{place_among}
use Rattle.sheet.specs.Refusals.{Outcome, going, refused}
use Rattle.environment.specs.Environment.{at_the_start}
use Rattle.part.specs.declared.state.State.{State}
use Rattle.part.specs.Body.{Book}
use Rattle.meaning.specs.Parts.{NamedPart, Played, line_played}
use Rattle.parser.specs.declared.sofar.Sofar.{Sofar}
use Rattle.parser.specs.Columns.{place_column, parts_from, Fits, refused_at, passed_to}

-- ---- a part's state

-- that of the part k; all notes but its own are those of others
unfoldable pub state_of : Sofar → ℕ → State
state_of r k =
    record {
      env = get_or r.envs k at_the_start;
      count = get_or r.counts k 0;
      others = r.all - get_or r.counts k 0;
      depth = get_or r.depths k 0;
      steps = r.steps;
      refusal = 0;
      line = 0;
    }

-- a reading with this state for the part k
abbrev pub kept_with : Sofar → ℕ → State → Sofar
kept_with r k st =
    record {
      start = r.start;
      parts = r.parts;
      envs = set r.envs k st.env;
      counts = set r.counts k st.count;
      depths = set r.depths k st.depth;
      all = st.others + st.count;
      macros = r.macros;
      instruments = r.instruments;
      steps = st.steps;
      refusal = r.refusal;
      line = r.line;
      at = r.at;
    }

-- the one or the other
unfoldable pub stored_as : Sofar → ℕ → State → Sofar
stored_as r k st = elim st.refusal [ zero ↦ kept_with r k st | suc n ↦ refused_at r (suc n) st.line ]

-- ---- one more part

-- a reading with one more part, which has nothing yet
unfoldable pub with_new : Sofar → Sofar
with_new r =
    record {
      start = r.start;
      parts = r.parts + 1;
      envs = set r.envs r.parts r.start;
      counts = set r.counts r.parts 0;
      depths = set r.depths r.parts 0;
      all = r.all;
      macros = r.macros;
      instruments = r.instruments;
      steps = r.steps;
      refusal = r.refusal;
      line = r.line;
      at = r.at;
    }

-- the reading with the part k in it, which is there or is one more
unfoldable pub with_part : Sofar → ℕ → Sofar
with_part r k = elim (ltb k r.parts) [ true ↦ r | false ↦ with_new r ]

-- a reading that goes on behind the line of another, or has its refusal
pub record Passed (next : ℕ) (q t : Sofar) : Type 0 where
  pub on : q.refusal ≡ 0 → t ≡ passed_to q q.macros q.instruments (q.line + 1) next
  pub ended : (q.refusal ≡ 0 → ⊥) → (t.refusal ≡ q.refusal) × (t.line ≡ q.line)

-- ---- the parts

module _ (s places : List ℕ) (r : Sofar) (fs : List Float) (is ls : List ℕ) where
  -- all parts, and the steps
  unfoldable pub played_in : Played
  unfolding parts_from
  played_in = record { parts = parts_from s places r fs is ls 0 r.parts; steps = r.steps }

  -- what has come of a part's line
  unfoldable pub played_outcome : Outcome Played
  unfolding played_in
  played_outcome = elim r.refusal [ zero ↦ going played_in | suc n ↦ refused (suc n) r.line ]

-- what a part's line makes of a reading: this has come of it, and nothing but the parts has changed
pub record Came (o : Outcome Played) (s places : List ℕ) (r q : Sofar) (fs : List Float) (is ls : List ℕ) : Type 0 where
  pub means : played_outcome s places q fs is ls ≡ o
  pub fits : q.refusal ≡ 0 → Fits places q fs is ls
  pub start : q.start ≡ r.start
  pub macros : q.macros ≡ r.macros
  pub instruments : q.instruments ≡ r.instruments
  pub at : q.at ≡ r.at
  pub line : q.refusal ≡ 0 → q.line ≡ r.line

-- ---- a line

-- the names of parts
unfoldable pub called_as : List NamedPart → List (List ℕ)
called_as [] = []
called_as (p ∷ ps) = p.name ∷ called_as ps

-- it has come of the line, whatever the parts are called
abbrev pub LineCame : Book → List ℕ → ℕ → Sofar → Sofar → List Float → List ℕ → List ℕ → List Float → List ℕ → List ℕ → Type 0
LineCame book text k r q fs is ls gs js ms =
    (s places name : List ℕ) → Fits places r fs is ls → k ≡ place_among name (called_as (parts_from s places r fs is ls 0 r.parts))
    → Came (line_played book r.start r.line (some (record { name = name; body = text })) (played_in s places r fs is ls)) s places r q gs js ms

-- the reading behind the line of the part k, which was there or is new: it goes on from what has come of the line
pub record LinePassed (book : Book) (text : List ℕ) (k next : ℕ) (r t : Sofar) (fs : List Float) (is ls : List ℕ) (gs : List Float) (js ms : List ℕ) : Type 0 where
  pub left : Sofar
  pub came : LineCame book text k (with_part r k) left fs is ls gs js ms
  pub passed : Passed next left t
  pub places : place_column ms ≡ place_column ls
