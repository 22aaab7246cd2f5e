-- Commands that change the environment: what a state with another environment has come of, and an instrument by its name. Assumes nothing.
use mathlib.Core.Path.{◌≡◌, ap, subst, ◌∙◌}
use mathlib.Core.List.{List}
use mathlib.Core.Option.{some}
use Prim.Native.Nat.{ℕ, zero, suc, ◌+◌, ◌≤◌, ◌<◌}
use native.Mathlib.Omega.{arith}
use lib.ListN.{length}
use lib.Ieee.{Float}
use Rattle.lines.specs.Names.{place_among}
use Rattle.sheet.specs.Refusals.{Outcome, going, refused, ◌>>=◌, refuse◌on◌without◌}
use Rattle.environment.specs.declared.environment.Environment.{Environment}
use Rattle.std.specs.Prelude.{Result, Ok, Err}
use Rattle.sheet.specs.declared.refusal.Refusal.{Refusal}
use Rattle.sheet.specs.Numbers.{number_of}
use Rattle.settings.specs.Changes.{change_outcome, Low}
use Rattle.environment.specs.Environment.{with_instrument}
use Rattle.items.specs.Items.{instrument}
use Rattle.tables.proofs.Named.{place_found, place_none}
use Rattle.part.specs.declared.state.State.{State}
use Rattle.tables.specs.Named.{Macro, place_of}
use Rattle.part.specs.Body.{Book, Progress, changed_to, changing, does}
use Rattle.part.specs.Columns.{progress_of, Ready, Becomes, refused_at}
use Rattle.part.proofs.Columns.{with_env, refused_becomes, going_becomes}

-- ---- states

module _ (s : State) (line : ℕ) (fs : List Float) (is ls : List ℕ) (r : Ready s fs is ls) where
  -- a state with a refusal, whatever its number
  refusal_becomes : (n : ℕ) (o : Outcome Progress) → 0 < n → o ≡ refused n line → Becomes o (refused_at s n line) fs is ls
  refusal_becomes zero o h e = absurd (omega arith)
  refusal_becomes (suc n) o h e = refused_becomes s fs is ls r.room r.deep n line o e

  -- a state with another environment
  changed_becomes : (e : Environment) (o : Outcome Progress) → e.octave ≤ 8 → o ≡ going (changed_to e (progress_of s fs is ls)) → Becomes o (with_env s e) fs is ls
  unfolding progress_of
  changed_becomes e o h q =
      going_becomes (with_env s e) fs is ls
      (record { octave = h; few = r.room.few; floats = r.room.floats; instruments = r.room.instruments })
      (record { few = r.deep.few; places = r.deep.places })
      r.goes o q

module _ (s : State) (line : ℕ) (c : Result Environment Refusal) (low : Low (change_outcome line c)) where
  -- what a command came to
  pub change_to : (e : Environment) → c ≡ Ok e → (fs : List Float) (is ls : List ℕ) → Ready s fs is ls
      → Becomes (changing (change_outcome line c) (progress_of s fs is ls)) (with_env s e) fs is ls
  unfolding changing Low ◌>>=◌
  change_to e q fs is ls r =
      changed_becomes s line fs is ls r e _ (subst Low (ap (change_outcome line) q) low)
      (ap (λ (x : Result Environment Refusal). changing (change_outcome line x) (progress_of s fs is ls)) q)

  pub change_refused : (why : Refusal) → c ≡ Err why → (fs : List Float) (is ls : List ℕ) → Ready s fs is ls
      → Becomes (changing (change_outcome line c) (progress_of s fs is ls)) (refused_at s (number_of why) line) fs is ls
  unfolding changing Low ◌>>=◌
  change_refused why q fs is ls r =
      refusal_becomes s line fs is ls r (number_of why) _ (subst Low (ap (change_outcome line) q) low)
      (ap (λ (x : Result Environment Refusal). changing (change_outcome line x) (progress_of s fs is ls)) q)

-- ---- instruments by name

module _ (s : State) (line : ℕ) (name : List ℕ) (book : Book) (inner : Macro → Progress → Outcome Progress) (fs : List Float) (is ls : List ℕ) (r : Ready s fs is ls) where
  module _ (place : ℕ) (e : place ≡ place_among name book.names) where
    pub instrument_none : length book.names ≤ place → Becomes (does book line inner (instrument name) (progress_of s fs is ls)) (refused_at s 12 line) fs is ls
    unfolding does ◌>>=◌ refuse◌on◌without◌
    instrument_none h = refusal_becomes s line fs is ls r 12 _ (omega arith) (let q = place_none name book.names 1 (omega (arith, h, e)) in rw q)

    pub instrument_found : place < length book.names
        → Becomes (does book line inner (instrument name) (progress_of s fs is ls)) (with_env s (with_instrument (place + 1) s.env)) fs is ls
    unfolding does ◌>>=◌ refuse◌on◌without◌ progress_of
    instrument_found h =
        changed_becomes s line fs is ls r _ _ r.room.octave
        (let q : place_of name 1 book.names ≡ some (place + 1) = place_found name book.names 1 (omega (arith, h, e)) ∙ ap some (omega (arith, e)) in rw q)
