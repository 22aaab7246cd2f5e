-- What the reader of a part's line promises, for every state and all columns that it is handed: the state afterwards, and the notes and open loops that the
-- columns then hold. What a column holds past its count says nothing. Assumes nothing.
use Rattle.std.specs.Prelude.{◌≡◌, Bool, true, false, ◌&&◌, List, ℕ, ◌*◌, ◌-◌, leb, eqb, length, take, Float}
use Rattle.sheet.specs.Capacities.{loops_most, notes_most, instruments_most}
use Rattle.sheet.specs.Refusals.{Outcome, going, refused}
use Rattle.environment.specs.Bounds.{octaves}
use Rattle.part.specs.declared.state.State.{State}
use Rattle.part.specs.Body.{Book, Progress, body_read}
use Rattle.columns.specs.Columns.{notes_in}
use Rattle.part.specs.Columns.{loops_in, progress_of, refused_at}

-- whether a state is that of a part within the capacities, and the columns have the room for all of it
unfoldable pub is_ready : State → ℕ → ℕ → ℕ → ℕ → Bool
is_ready s floats instruments loops releases =
    eqb s.refusal 0
    && (leb s.env.octave octaves.most
    && (leb s.others notes_most
    && (leb s.count (notes_most - s.others)
    && (leb s.depth loops_most
    && (eqb floats (3 * notes_most) && (eqb instruments notes_most && (eqb loops (2 * loops_most) && leb releases instruments_most)))))))

-- what comes of a body's reading; 21 where the state is none of a part
unfoldable pub part_in : Book → ℕ → List ℕ → State → List Float → List ℕ → List ℕ → Outcome Progress
unfolding is_ready body_read progress_of
part_in book line text s fs is ls =
    elim (is_ready s (length fs) (length is) (length ls) (length book.releases))
    [ true ↦ body_read book line text (progress_of s fs is ls) | false ↦ refused 21 line ]

-- the state afterwards: a refusal leaves everything but itself and its line
unfoldable pub state_after : State → Outcome Progress → State
state_after s (going p) =
    record {
      env = p.part.env;
      count = length p.part.notes;
      others = p.others;
      depth = length p.part.loops;
      steps = p.steps;
      refusal = 0;
      line = 0;
    }
state_after s (refused n l) = refused_at s n l

-- the columns hold the notes and the open loops; after a refusal they say nothing
unfoldable pub Held : Outcome Progress → List Float → List ℕ → List ℕ → Type 0
unfolding notes_in loops_in
Held (going p) fs is ls =
    (notes_in fs (take (length p.part.notes) is) ≡ p.part.notes) × (loops_in (length p.part.loops) ls ≡ p.part.loops)
Held (refused n l) fs is ls = Unit
