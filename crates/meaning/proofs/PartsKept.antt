-- A fact of notes goes through a part's line and a directive, with the room for parts and notes: a part that is replaced has its own notes taken from the
-- number of all and its new ones added, so that what its body counts, with the notes of the other parts, are all. Assumes nothing.
use mathlib.Core.Path.{◌≡◌, refl, ap}
use mathlib.Core.Bool.{Bool, true, false}
use mathlib.Core.List.{List, [], ◌∷◌, ◌++◌}
use mathlib.Core.Option.{Option, none, some}
use Prim.Native.Nat.{ℕ, suc, ◌+◌, ◌-◌, ◌≤◌}
use native.Mathlib.Omega.{arith}
use lib.ListN.{length, length-append}
use borrow.Author.Tests.{ltb-true}
use Rattle.text.specs.Characters.{same}
use Rattle.lines.specs.Tokens.{Named}
use Rattle.sheet.specs.Capacities.{parts_most, notes_most}
use Rattle.sheet.specs.Refusals.{going}
use Rattle.sheet.specs.declared.note.Note.{Note}
use Rattle.sheet.proofs.Holds.{Holds, holds_going, holds_unless, holds_then}
use Rattle.environment.specs.declared.environment.Environment.{Environment}
use Rattle.part.specs.Body.{Part, Book, body_read}
use Rattle.handed.specs.Check.{all}
use Rattle.meaning.proofs.NotesKept.{all_both, all_apart, Kept, Lets, body_kept}
use Rattle.meaning.specs.Parts.{NamedPart, Played, notes_of, every_part, part_named, with_part_named, part_of, line_played}

-- ---- a directive

pub every_notes : (f : Environment → Environment) (ps : List NamedPart) → notes_of (every_part f ps) ≡ notes_of ps
unfolding notes_of every_part
every_notes f [] = refl
every_notes f (p ∷ ps) = ap (λ (ns : List Note). p.part.notes ++ ns) (every_notes f ps)

pub every_length : (f : Environment → Environment) (ps : List NamedPart) → length (every_part f ps) ≡ length ps
unfolding every_part
every_length f [] = refl
every_length f (p ∷ ps) = ap suc (every_length f ps)

-- ---- a part in place of one, or a new one

-- how many parts and notes there are with w for the part that was there, or for none
abbrev Sized : Option Part → List NamedPart → List NamedPart → Part → Type 0
Sized none ps qs w = (length qs ≡ suc (length ps)) × (length (notes_of qs) ≡ length (notes_of ps) + length w.notes)
Sized (some u) ps qs w = (length qs ≡ length ps) × (length (notes_of qs) + length u.notes ≡ length (notes_of ps) + length w.notes)

-- the same behind one more part
sized_past : (p : NamedPart) (o : Option Part) (ps qs : List NamedPart) (w : Part) → Sized o ps qs w → Sized o (p ∷ ps) (p ∷ qs) w
unfolding notes_of
sized_past p none ps qs w s =
    (omega (arith, s.0), omega (arith, s.1, length-append p.part.notes (notes_of ps), length-append p.part.notes (notes_of qs)))
sized_past p (some u) ps qs w s =
    (omega (arith, s.0), omega (arith, s.1, length-append p.part.notes (notes_of ps), length-append p.part.notes (notes_of qs)))

module _ (name : List ℕ) where
  sized : (w : Part) (ps : List NamedPart) → Sized (part_named name ps) ps (with_part_named name w ps) w
  unfolding part_named with_part_named notes_of
  sized w [] = (refl, omega (arith, length-append w.notes []))
  sized w (p ∷ ps) = go (same name p.name) (sized w ps)
    where
      go : (b : Bool) → Sized (part_named name ps) ps (with_part_named name w ps) w
          → Sized (elim b as (λ _. Option Part) [ true ↦ some p.part | false ↦ part_named name ps ]) (p ∷ ps)
          (elim b as (λ _. List NamedPart) [ true ↦ record { name = p.name; part = w } ∷ ps | false ↦ p ∷ with_part_named name w ps ]) w
      go true s = (refl, omega (arith, length-append p.part.notes (notes_of ps), length-append w.notes (notes_of ps)))
      go false s = sized_past p (part_named name ps) ps (with_part_named name w ps) w s

  module _ (test : Note → Bool) where
    -- the notes of the part that is there pass
    abbrev Own : Option Part → Type 0
    Own none = Unit
    Own (some u) = all test u.notes ≡ true

    own : (ps : List NamedPart) → all test (notes_of ps) ≡ true → Own (part_named name ps)
    unfolding part_named notes_of
    own [] e = tt
    own (p ∷ ps) e = let a = all_apart test p.part.notes (notes_of ps) e in go (same name p.name) a.0 (own ps a.1)
      where
        go : (b : Bool) → all test p.part.notes ≡ true → Own (part_named name ps)
            → Own (elim b as (λ _. Option Part) [ true ↦ some p.part | false ↦ part_named name ps ])
        go true h s = h
        go false h s = s

    -- and with one whose notes pass, all do
    with_all : (w : Part) (ps : List NamedPart) → all test w.notes ≡ true → all test (notes_of ps) ≡ true → all test (notes_of (with_part_named name w ps)) ≡ true
    unfolding with_part_named notes_of all
    with_all w [] h e = all_both test w.notes [] h refl
    with_all w (p ∷ ps) h e =
        let a = all_apart test p.part.notes (notes_of ps) e in go (same name p.name) a.0 a.1 (with_all w ps h a.1)
      where
        go : (b : Bool) → all test p.part.notes ≡ true → all test (notes_of ps) ≡ true → all test (notes_of (with_part_named name w ps)) ≡ true
            → all test (notes_of (elim b as (λ _. List NamedPart) [ true ↦ record { name = p.name; part = w } ∷ ps | false ↦ p ∷ with_part_named name w ps ])) ≡ true
        go true i j s = all_both test w.notes (notes_of ps) h j
        go false i j s = all_both test p.part.notes (notes_of (with_part_named name w ps)) i s

-- ---- a part's line

-- the parts and all their notes
pub record Filled (test : Note → Bool) (ps : List NamedPart) : Type 0 where
  pub few : length ps ≤ parts_most
  pub notes : all test (notes_of ps) ≡ true
  pub room : length (notes_of ps) ≤ notes_most

-- a part that a line may begin with
record Begun (test : Note → Bool) (name : List ℕ) (ps : List NamedPart) (v : Part) : Type 0 where
  notes : all test v.notes ≡ true
  few : (w : Part) → length (with_part_named name w ps) ≤ parts_most
  sum : (w : Part) → length (notes_of (with_part_named name w ps)) + length v.notes ≡ length (notes_of ps) + length w.notes

begun : (test : Note → Bool) (name : List ℕ) (ps : List NamedPart) (start : Environment) (line : ℕ) → Filled test ps → (o : Option Part) → Own name test o
    → ((w : Part) → Sized o ps (with_part_named name w ps) w) → Holds (Begun test name ps) (part_of start line ps o)
unfolding part_of all
begun test name ps start line g none i s =
    holds_unless _ _ _ _ _
    (λ e. holds_going (Begun test name ps) _
    (record {
      notes = refl;
      few = λ (w : Part). omega (arith, (s w).0, ltb-true (length ps) parts_most e);
      sum = λ (w : Part). omega (arith, (s w).1);
    }))
begun test name ps start line g (some u) i s =
    holds_going (Begun test name ps) u (record { notes = i; few = λ (w : Part). omega (arith, (s w).0, g.few); sum = λ (w : Part). (s w).1 })

module _ (test : Note → Bool) (book : Book) (lets : Lets test book) where
  abbrev Good : Played → Type 0
  Good q = Filled test q.parts

  -- the notes of a part are among all
  own_few : (name : List ℕ) (ps : List NamedPart) (v : Part) → Begun test name ps v → length v.notes ≤ length (notes_of ps)
  own_few name ps v b = omega (arith, b.sum (record { env = v.env; notes = []; loops = [] }))

  pub line_kept : (start : Environment) (line : ℕ) (n : Option Named) (q : Played) → Good q → Holds Good (line_played book start line n q)
  unfolding line_played
  line_kept start line none q g = holds_going Good _ g
  line_kept start line (some n) q g =
      let ps = q.parts in
      holds_then (Begun test n.name ps) Good (part_of start line ps (part_named n.name ps)) _
      (begun test n.name ps start line g (part_named n.name ps) (own n.name test ps g.notes) (λ w. sized n.name w ps))
      (λ v b. holds_then (Kept test (length (notes_of ps) - length v.notes)) Good
      (body_read book line n.body (record { part = v; others = length (notes_of ps) - length v.notes; steps = q.steps }))
      (λ p. going (record { parts = with_part_named n.name p.part ps; steps = p.steps }))
      (body_kept test (length (notes_of ps) - length v.notes) book lets line n.body
      (record { part = v; others = length (notes_of ps) - length v.notes; steps = q.steps })
      (record { notes = b.notes; others = refl; room = omega (arith, g.room, own_few n.name ps v b) }))
      (λ p k. holds_going Good _
      (record {
        few = b.few p.part;
        notes = with_all n.name test p.part ps k.notes g.notes;
        room = omega (arith, k.room, b.sum p.part, own_few n.name ps v b);
      })))
