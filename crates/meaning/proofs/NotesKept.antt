-- A fact of notes goes through a body: what 24 lets pass has it, loops lay down only notes that are there, and macros hold bodies. With it goes the room:
-- the part's notes with those of the other parts are at most 2,048. Assumes nothing.
use mathlib.Core.Path.{◌≡◌, refl, sym, ◌∙◌}
use mathlib.Core.Bool.{Bool, true}
use mathlib.Core.List.{List, [], ◌∷◌, ◌++◌}
use mathlib.Core.Option.{Option, none, some}
use Prim.Native.Nat.{ℕ, zero, suc, ◌+◌, ◌-◌, ◌≤◌}
use native.Mathlib.Omega.{arith}
use lib.ListN.{length, take, drop, get_or, length-append}
use lib.Ieee.{nan}
use borrow.Author.Tests.{ltb-true, leb-true}
use Rattle.sheet.specs.Capacities.{notes_most, nesting_most}
use Rattle.sheet.specs.Lengths.{sounding_of, is_counted}
use Rattle.sheet.specs.Refusals.{Outcome}
use Rattle.sheet.specs.declared.note.Note.{Note}
use Rattle.sheet.proofs.Basics.{both}
use Rattle.sheet.proofs.Holds.{Holds, holds_going, holds_refused, holds_unless, holds_then, holds_after}
use Rattle.environment.specs.declared.environment.Environment.{Environment}
use Rattle.keys.specs.declared.key.Accidental.{Accidental}
use Rattle.items.specs.Items.{Item, note, up, down, opening, cut, closing, octave, value, tempo, amplitude, key, instrument, call, unknown, items_of}
use Rattle.notes.specs.Notes.{note_of, value_of}
use Rattle.loops.specs.Loops.{Loop, body_of, last_pass, copies, bodies, played, played_count}
use Rattle.loops.proofs.LoopCounts.{played_count_law}
use Rattle.tables.specs.Named.{Macro}
use Rattle.part.specs.Body.{Book, Progress, noted, opened, cut_here, closed, changing, called, does, stepped, run, inside, body_read, one_step}
use Rattle.handed.specs.Check.{all}
use Rattle.handed.proofs.Alls.{all_append}

-- ---- a test of all elements

module _ {A : Type 0} (test : A → Bool) where
  pub all_both : (xs ys : List A) → all test xs ≡ true → all test ys ≡ true → all test (xs ++ ys) ≡ true
  all_both xs ys e f = all_append test xs ys ∙ rw (e, f) refl

  pub all_apart : (xs ys : List A) → all test (xs ++ ys) ≡ true → (all test xs ≡ true) × (all test ys ≡ true)
  all_apart xs ys e = both (all test xs) (all test ys) (sym (all_append test xs ys) ∙ e)

  pub all_one : (x : A) → test x ≡ true → all test (x ∷ []) ≡ true
  unfolding all
  all_one x e = rw e refl

  all_take : (n : ℕ) (xs : List A) → all test xs ≡ true → all test (take n xs) ≡ true
  unfolding all
  all_take zero xs e = refl
  all_take (suc n) [] e = refl
  all_take (suc n) (x ∷ xs) e = let b = both (test x) (all test xs) e in rw b.0 (all_take n xs b.1)

  all_drop : (n : ℕ) (xs : List A) → all test xs ≡ true → all test (drop n xs) ≡ true
  unfolding all
  all_drop zero xs e = e
  all_drop (suc n) [] e = refl
  all_drop (suc n) (x ∷ xs) e = all_drop n xs (both (test x) (all test xs) e).1

  all_copies : (n : ℕ) (xs : List A) → all test xs ≡ true → all test (copies n xs) ≡ true
  unfolding all copies
  all_copies zero xs e = refl
  all_copies (suc n) xs e = all_both xs (copies n xs) e (all_copies n xs e)

-- where one test passes wherever another does
pub all_weaker : {A : Type 0} (test other : A → Bool) → ((x : A) → test x ≡ true → other x ≡ true) → (xs : List A) → all test xs ≡ true → all other xs ≡ true
unfolding all
all_weaker test other f [] e = refl
all_weaker test other f (x ∷ xs) e = let b = both (test x) (all test xs) e in rw (f x b.0) (all_weaker test other f xs b.1)

-- ---- loops

module _ (test : Note → Bool) where
  all_bodies : (n : ℕ) (ns : List Note) → all test ns ≡ true → all test (bodies n ns) ≡ true
  unfolding bodies
  all_bodies n [] e = e
  all_bodies n (x ∷ xs) e = all_copies test n (x ∷ xs) e

  all_last : (l : Loop) (ns : List Note) → all test ns ≡ true → all test (last_pass l ns) ≡ true
  unfolding last_pass body_of
  all_last l ns e = go l.cut
    where
      go : (c : Option ℕ) → all test (elim c as (λ _. List Note) [ none ↦ drop l.from ns | some k ↦ take (k - l.from) (drop l.from ns) ]) ≡ true
      go none = all_drop test l.from ns e
      go (some k) = all_take test (k - l.from) (drop l.from ns) (all_drop test l.from ns e)

  all_played : (n : ℕ) (l : Loop) (ns : List Note) → all test ns ≡ true → all test (played n l ns) ≡ true
  unfolding played body_of
  all_played n l ns e =
      all_both test (take l.from ns) (bodies (n - 1) (body_of l ns) ++ last_pass l ns) (all_take test l.from ns e)
      (all_both test (bodies (n - 1) (body_of l ns)) (last_pass l ns) (all_bodies (n - 1) (body_of l ns) (all_drop test l.from ns e)) (all_last l ns e))

-- ---- bodies

-- every note passes, and there is room for them beside those of the other parts
pub record Kept (test : Note → Bool) (beside : ℕ) (p : Progress) : Type 0 where
  pub notes : all test p.part.notes ≡ true
  pub others : p.others ≡ beside
  pub room : beside + length p.part.notes ≤ notes_most

-- what 24 lets pass has the fact
abbrev pub Lets : (Note → Bool) → Book → Type 0
Lets test book =
    (e : Environment) (letter : ℕ) (a : Option Accidental) (v : ℕ) (dot : Bool)
    → is_counted (sounding_of book.rate (get_or book.releases (note_of e letter a v dot).instrument nan) (note_of e letter a v dot)) ≡ true
    → test (note_of e letter a v dot) ≡ true

module _ (test : Note → Bool) (beside : ℕ) (book : Book) (lets : Lets test book) where
  abbrev Good : Progress → Type 0
  Good = Kept test beside

  -- whatever else becomes of the part and of the steps
  on : (p : Progress) → Good p → {e : Environment} {ls : List Loop} {k : ℕ}
      → Good (record { part = record { env = e; notes = p.part.notes; loops = ls }; others = p.others; steps = k })
  on p g = record { notes = g.notes; others = g.others; room = g.room }

  module _ (line : ℕ) (inner : Macro → Progress → Outcome Progress) (calls : (m : Macro) (p : Progress) → Good p → Holds Good (inner m p)) where
    does_kept : (i : Item) (p : Progress) → Good p → Holds Good (does book line inner i p)
    unfolding does noted opened cut_here closed changing called
    does_kept (note letter a v dot) p g =
        let n = note_of p.part.env letter a (value_of p.part.env v) dot in
        holds_unless _ _ _ _ _
        (λ e. holds_unless _ _ _ _ _
        (λ f. holds_unless _ _ _ _ _
        (λ h. holds_going Good _
        (record {
          notes = all_both test p.part.notes (n ∷ []) g.notes (all_one test n (lets p.part.env letter a (value_of p.part.env v) dot f));
          others = g.others;
          room = omega (arith, ltb-true (p.others + length p.part.notes) notes_most h, g.others, length-append p.part.notes (n ∷ []));
        }))))
    does_kept up p g = holds_going Good _ (on p g)
    does_kept down p g = holds_going Good _ (on p g)
    does_kept opening p g = holds_unless _ _ _ _ _ (λ e. holds_going Good _ (on p g))
    does_kept cut p g = holds_after _ _ _ (λ x. holds_going Good _ (on p g))
    does_kept (closing n) p g =
        holds_after _ _ _
        (λ x. holds_after _ _ _
        (λ k. holds_unless _ _ _ _ _
        (λ e. holds_going Good _
        (record {
          notes = all_played test k x.0 p.part.notes g.notes;
          others = g.others;
          room = omega (arith, leb-true (p.others + played_count k x.0 p.part.notes) notes_most e, g.others, played_count_law k x.0 p.part.notes);
        }))))
    does_kept (octave n) p g = holds_after _ _ _ (λ v. holds_going Good _ (on p g))
    does_kept (value n) p g = holds_after _ _ _ (λ v. holds_going Good _ (on p g))
    does_kept (tempo n) p g = holds_after _ _ _ (λ v. holds_going Good _ (on p g))
    does_kept (amplitude a) p g = holds_after _ _ _ (λ x. holds_going Good _ (on p g))
    does_kept (key k) p g = holds_after _ _ _ (λ x. holds_going Good _ (on p g))
    does_kept (instrument name) p g = holds_after _ _ _ (λ i. holds_going Good _ (on p g))
    does_kept (call name) p g = holds_after _ _ _ (λ m. calls m p g)
    does_kept unknown p g = holds_refused _ _ _

    stepped_kept : (i : Item) (p : Progress) → Good p → Holds Good (stepped book line inner i p)
    unfolding stepped
    stepped_kept i p g = holds_unless _ _ _ _ _ (λ e. does_kept i (one_step p) (on p g))

    run_kept : (is : List Item) (p : Progress) → Good p → Holds Good (run book line inner is p)
    unfolding run
    run_kept [] p g = holds_going Good _ g
    run_kept (i ∷ is) p g = holds_then _ _ (stepped book line inner i p) _ (stepped_kept i p g) (λ q h. run_kept is q h)

  -- in every macro, however deep
  inside_kept : (left caller : ℕ) (m : Macro) (p : Progress) → Good p → Holds Good (inside book left caller m p)
  unfolding inside
  inside_kept zero caller m p g = holds_refused _ _ _
  inside_kept (suc left) caller m p g = run_kept m.line (inside book left m.line) (inside_kept left m.line) (items_of m.body) p g

  -- and in every body
  pub body_kept : (line : ℕ) (body : List ℕ) (p : Progress) → Good p → Holds Good (body_read book line body p)
  unfolding body_read
  body_kept line body p g = run_kept line (inside book nesting_most line) (inside_kept nesting_most line) (items_of body) p g
