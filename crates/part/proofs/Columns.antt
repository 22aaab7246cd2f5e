-- Laws of a state and its columns: how many notes and loops they hold, and what a state with a refusal, or with none, has come of. Assumes nothing.
use mathlib.Core.Path.{◌≡◌, refl, sym, ap, ◌∙◌}
use mathlib.Core.List.{List}
use Prim.Native.Nat.{ℕ, zero, suc}
use native.Mathlib.Omega.{arith}
use lib.ListN.{length, take}
use lib.Seq.{length-take-le}
use lib.Ieee.{Float}
use Rattle.sheet.specs.Refusals.{Outcome, going, refused}
use Rattle.environment.specs.declared.environment.Environment.{Environment}
use Rattle.part.specs.declared.state.State.{State}
use Rattle.part.specs.Body.{Progress}
use Rattle.columns.proofs.Columns.{notes_length}
use Rattle.part.specs.Columns.{loops_in, progress_of, outcome_of, Room, Deep, Becomes, refused_at}

-- ---- loops

pub loops_length : (n : ℕ) (ls : List ℕ) → length (loops_in n ls) ≡ n
unfolding loops_in
loops_length zero ls = refl
loops_length (suc n) ls = ap suc (loops_length n ls)

-- ---- states

-- a state with other notes and loops
abbrev pub with_counts : State → ℕ → ℕ → State
with_counts s n d =
    record { env = s.env; count = n; others = s.others; depth = d; steps = s.steps; refusal = s.refusal; line = s.line }

-- a state with another environment
abbrev pub with_env : State → Environment → State
with_env s e =
    record { env = e; count = s.count; others = s.others; depth = s.depth; steps = s.steps; refusal = s.refusal; line = s.line }

module _ (s : State) (fs : List Float) (is ls : List ℕ) where
  -- what a state comes to that goes on
  pub outcome_going : s.refusal ≡ 0 → outcome_of s fs is ls ≡ going (progress_of s fs is ls)
  unfolding outcome_of
  outcome_going e = rw (e, outcome_of)

  pub notes_count : Room s fs is → length (progress_of s fs is ls).part.notes ≡ s.count
  unfolding progress_of
  notes_count r = notes_length fs (take s.count is) ∙ length-take-le s.count is (omega (arith, r.few, r.instruments))

  pub loops_count : length (progress_of s fs is ls).part.loops ≡ s.depth
  unfolding progress_of
  loops_count = loops_length s.depth ls

  -- a refusal changes nothing else
  pub refused_becomes : Room s fs is → Deep s ls → (n l : ℕ) (o : Outcome Progress) → o ≡ refused (suc n) l → Becomes o (refused_at s (suc n) l) fs is ls
  unfolding outcome_of
  refused_becomes r d n l o e =
      record {
        room = record { octave = r.octave; few = r.few; floats = r.floats; instruments = r.instruments };
        deep = record { few = d.few; places = d.places };
        means = sym e;
      }

  -- a state that goes on has come of its progress
  pub going_becomes : Room s fs is → Deep s ls → s.refusal ≡ 0 → (o : Outcome Progress) → o ≡ going (progress_of s fs is ls) → Becomes o s fs is ls
  going_becomes r d z o e = record { room = r; deep = d; means = outcome_going z ∙ sym e }
