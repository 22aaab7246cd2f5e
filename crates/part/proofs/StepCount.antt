-- "Reading steps 100,000": a body that goes on has counted no more, with all that its macros count. Each item that is read counts one, and a count that
-- has reached the limit is refused before. Assumes nothing.
use mathlib.Core.List.{List, [], ◌∷◌}
use Prim.Native.Nat.{ℕ, zero, suc, ◌≤◌}
use native.Mathlib.Omega.{arith}
use borrow.Author.Tests.{ltb-true}
use Rattle.sheet.specs.Capacities.{nesting_most, steps_most}
use Rattle.sheet.specs.Refusals.{Outcome}
use Rattle.sheet.proofs.Holds.{Holds, holds_going, holds_refused, holds_unless, holds_then, holds_after}
use Rattle.items.specs.Items.{Item, note, up, down, opening, cut, closing, octave, value, tempo, amplitude, key, instrument, call, unknown, items_of}
use Rattle.tables.specs.Named.{Macro}
use Rattle.part.specs.Body.{Book, Progress, one_step, noted, opened, cut_here, closed, changing, called, does, stepped, run, inside, body_read}

-- no more than the limit
abbrev pub Counted : Progress → Type 0
Counted p = p.steps ≤ steps_most

module _ (book : Book) (line : ℕ) (inner : Macro → Progress → Outcome Progress) (calls : (m : Macro) (p : Progress) → Counted p → Holds Counted (inner m p)) where
  -- an item counts nothing itself
  does_counted : (i : Item) (p : Progress) → Counted p → Holds Counted (does book line inner i p)
  unfolding does noted opened cut_here closed changing called
  does_counted (note letter a v dot) p g =
      holds_unless _ _ _ _ _ (λ e. holds_unless _ _ _ _ _ (λ f. holds_unless _ _ _ _ _ (λ h. holds_going Counted _ g)))
  does_counted up p g = holds_going Counted _ g
  does_counted down p g = holds_going Counted _ g
  does_counted opening p g = holds_unless _ _ _ _ _ (λ e. holds_going Counted _ g)
  does_counted cut p g = holds_after _ _ _ (λ x. holds_going Counted _ g)
  does_counted (closing n) p g = holds_after _ _ _ (λ x. holds_after _ _ _ (λ k. holds_unless _ _ _ _ _ (λ e. holds_going Counted _ g)))
  does_counted (octave n) p g = holds_after _ _ _ (λ v. holds_going Counted _ g)
  does_counted (value n) p g = holds_after _ _ _ (λ v. holds_going Counted _ g)
  does_counted (tempo n) p g = holds_after _ _ _ (λ v. holds_going Counted _ g)
  does_counted (amplitude a) p g = holds_after _ _ _ (λ x. holds_going Counted _ g)
  does_counted (key k) p g = holds_after _ _ _ (λ x. holds_going Counted _ g)
  does_counted (instrument name) p g = holds_after _ _ _ (λ i. holds_going Counted _ g)
  does_counted (call name) p g = holds_after _ _ _ (λ m. calls m p g)
  does_counted unknown p g = holds_refused _ _ _

  -- a step counts one, and only below the limit
  stepped_counted : (i : Item) (p : Progress) → Holds Counted (stepped book line inner i p)
  unfolding stepped
  stepped_counted i p = holds_unless _ _ _ _ _ (λ e. does_counted i (one_step p) (omega (arith, ltb-true)))

  run_counted : (is : List Item) (p : Progress) → Counted p → Holds Counted (run book line inner is p)
  unfolding run
  run_counted [] p g = holds_going Counted _ g
  run_counted (i ∷ is) p g = holds_then _ _ (stepped book line inner i p) _ (stepped_counted i p) (λ q h. run_counted is q h)

-- in every macro, however deep
inside_counted : (book : Book) (left caller : ℕ) (m : Macro) (p : Progress) → Counted p → Holds Counted (inside book left caller m p)
unfolding inside
inside_counted book zero caller m p g = holds_refused _ _ _
inside_counted book (suc left) caller m p g =
    run_counted book m.line (inside book left m.line) (inside_counted book left m.line) (items_of m.body) p g

-- and in every body
pub body_counted : (book : Book) (line : ℕ) (body : List ℕ) (p : Progress) → Counted p → Holds Counted (body_read book line body p)
unfolding body_read
body_counted book line body p g = run_counted book line (inside book nesting_most line) (inside_counted book nesting_most line) (items_of body) p g
