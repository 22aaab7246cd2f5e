-- What the reader of a part's line promises, from what the reader of bodies does: which states are ready, and the state and the columns afterwards. Assumes
-- nothing.
use mathlib.Core.Path.{◌≡◌, refl, sym, ap, ap₂, subst, ◌∙◌}
use mathlib.Core.Bool.{true, false}
use mathlib.Core.List.{List}
use Prim.Native.Nat.{ℕ, ◌*◌, ◌-◌, ◌≤◌}
use native.Mathlib.Omega.{arith}
use lib.ListN.{length, take}
use lib.Ieee.{Float}
use borrow.Author.Tests.{leb-true, eqb-true}
use Rattle.sheet.proofs.Basics.{false_true, both}
use Rattle.sheet.specs.Capacities.{loops_most, nesting_most, notes_most, instruments_most}
use Rattle.sheet.specs.Refusals.{Outcome, going, refused}
use Rattle.part.specs.declared.state.State.{State}
use Rattle.items.specs.Items.{items_of}
use Rattle.part.specs.Body.{Book, Progress, run, inside, body_read}
use Rattle.columns.specs.Columns.{notes_in}
use Rattle.part.specs.Columns.{loops_in, progress_of, Ready, Becomes, refused_at}
use Rattle.part.specs.Reading.{is_ready, part_in, state_after, Held}
use Rattle.part.proofs.Columns.{outcome_going, notes_count, loops_count}
use Rattle.part.proofs.Running.{outcome_refused}

-- ---- which states are ready

module _ (s : State) (fs : List Float) (is ls : List ℕ) (releases : ℕ) where
  pub ready_so : is_ready s (length fs) (length is) (length ls) releases ≡ true → Ready s fs is ls × (releases ≤ instruments_most)
  unfolding is_ready
  ready_so e =
      let a = both _ _ e in
      let b = both _ _ a.1 in
      let c = both _ _ b.1 in
      let d = both _ _ c.1 in
      let f = both _ _ d.1 in
      let g = both _ _ f.1 in
      let h = both _ _ g.1 in
      let i = both _ _ h.1 in
      let o = leb-true s.others notes_most c.0 in
      let n = leb-true s.count (notes_most - s.others) d.0 in (
        record {
          goes = eqb-true s.refusal 0 a.0;
          room = record {
            octave = leb-true s.env.octave 8 b.0;
            few = omega (arith, o, n);
            floats = eqb-true (length fs) (3 * notes_most) g.0;
            instruments = eqb-true (length is) notes_most h.0;
          };
          deep = record { few = leb-true s.depth loops_most f.0; places = eqb-true (length ls) (2 * loops_most) i.0 };
        },
        leb-true releases instruments_most i.1,
      )

-- ---- what comes of a line

module _ (book : Book) (line : ℕ) (text : List ℕ) (s : State) (fs : List Float) (is ls : List ℕ) where
  part_ready : is_ready s (length fs) (length is) (length ls) (length book.releases) ≡ true
      → body_read book line text (progress_of s fs is ls) ≡ part_in book line text s fs is ls
  unfolding part_in
  part_ready e = rw (e, part_in)

  part_unready : is_ready s (length fs) (length is) (length ls) (length book.releases) ≡ false → refused 21 line ≡ part_in book line text s fs is ls
  unfolding part_in
  part_unready e = rw (e, part_in)

-- ---- the state and the columns afterwards

abbrev Told : State → State → Outcome Progress → List Float → List ℕ → List ℕ → Type 0
Told s q o fs is ls = (q ≡ state_after s o) × Held o fs is ls

told_as : (s q : State) (o o' : Outcome Progress) (fs : List Float) (is ls : List ℕ) → o ≡ o' → Told s q o fs is ls → Told s q o' fs is ls
told_as s q o o' fs is ls e h = subst (λ (x : Outcome Progress). Told s q x fs is ls) e h

told_refused : (s : State) (n l : ℕ) (fs : List Float) (is ls : List ℕ) → Told s (refused_at s n l) (refused n l) fs is ls
unfolding state_after Held
told_refused s n l fs is ls = (refl, tt)

-- the same and that the state is ready again, as the three clauses of a contract
abbrev Settled : State → State → Outcome Progress → List Float → List ℕ → List ℕ → Type 0
Settled s q o fs is ls = (q ≡ state_after s o) × (Held o fs is ls × (q.refusal ≡ 0 → Ready q fs is ls))

module _ (s r : State) (o : Outcome Progress) (fs : List Float) (is ls : List ℕ) (b : Becomes o r fs is ls) where
  pub settled_refused : (r.refusal ≡ 0 → ⊥) → Settled s (refused_at s r.refusal r.line) o fs is ls
  settled_refused n =
      let t =
      told_as s _ (refused r.refusal r.line) o fs is ls (sym (outcome_refused r fs is ls n) ∙ b.means) (told_refused s r.refusal r.line fs is ls) in
      (t.0, (t.1, λ z. absurd (n z)))

  -- the state without its line
  abbrev lineless : ℕ → State
  lineless k = record { env = r.env; count = r.count; others = r.others; depth = r.depth; steps = r.steps; refusal = k; line = 0 }

  going_told : Told s (lineless 0) (going (progress_of r fs is ls)) fs is ls
  unfolding state_after Held progress_of
  going_told =
      let n = notes_count r fs is ls b.room in
      let d = loops_count r fs is ls in (
        sym (ap₂ (λ (x y : ℕ). record { env = r.env; count = x; others = r.others; depth = y; steps = r.steps; refusal = 0; line = 0 }) n d),
        (ap (λ (k : ℕ). notes_in fs (take k is)) n, ap (λ (k : ℕ). loops_in k ls) d),
      )

  pub settled_going : r.refusal ≡ 0 → Settled s (lineless r.refusal) o fs is ls
  settled_going z =
      let t =
      subst (λ (k : ℕ). Told s (lineless k) o fs is ls) (sym z)
      (told_as s _ (going (progress_of r fs is ls)) o fs is ls (sym (outcome_going r fs is ls z) ∙ b.means) going_told) in (
        t.0,
        (
          t.1,
          λ y. record {
            goes = y;
            room = record { octave = b.room.octave; few = b.room.few; floats = b.room.floats; instruments = b.room.instruments };
            deep = record { few = b.deep.few; places = b.deep.places };
          },
        ),
      )

-- ---- the four clauses for a line

module _ (book : Book) (line : ℕ) (text : List ℕ) (s q : State) (fs : List Float) (is ls : List ℕ) (fs' : List Float) (is' ls' : List ℕ) where
  abbrev Promised : Type 0
  Promised =
      (q ≡ state_after s (part_in book line text s fs is ls))
      × (Held (part_in book line text s fs is ls) fs' is' ls'
      × ((is_ready s (length fs) (length is) (length ls) (length book.releases) ≡ true
      → q.refusal ≡ 0 → Ready q fs' is' ls')
      × (is_ready s (length fs) (length is) (length ls) (length book.releases) ≡ false
      → (fs' ≡ fs) × ((is' ≡ is) × (ls' ≡ ls)))))

  promised_ready : is_ready s (length fs) (length is) (length ls) (length book.releases) ≡ true
      → Settled s q (body_read book line text (progress_of s fs is ls)) fs' is' ls' → Promised
  promised_ready e h =
      let t = told_as s q _ _ fs' is' ls' (part_ready book line text s fs is ls e) (h.0, h.1.0) in
      (t.0, (t.1, (λ x. h.1.1, λ f. false_true (sym f ∙ e))))

  -- from what the reader of bodies has come to, with all nested calls to go, and what is made of that
  pub promised_read : is_ready s (length fs) (length is) (length ls) (length book.releases) ≡ true
      → (r : State) → Becomes (run book line (inside book nesting_most line) (items_of text) (progress_of s fs is ls)) r fs' is' ls'
      → ((o : Outcome Progress) (gs : List Float) (js ms : List ℕ) → Becomes o r gs js ms → Settled s q o gs js ms)
      → Promised
  unfolding body_read
  promised_read e r b h = promised_ready e (h (body_read book line text (progress_of s fs is ls)) fs' is' ls' b)

pub promised_unready : (book : Book) (line : ℕ) (text : List ℕ) (s : State) (fs : List Float) (is ls : List ℕ)
    → is_ready s (length fs) (length is) (length ls) (length book.releases) ≡ false
    → Promised book line text s (refused_at s 21 line) fs is ls fs is ls
promised_unready book line text s fs is ls e =
    let t = told_as s _ _ _ fs is ls (part_unready book line text s fs is ls e) (told_refused s 21 line fs is ls) in
    (t.0, (t.1, (λ x z. absurd (omega (arith, z)), λ f. (refl, (refl, refl)))))

-- ---- columns that were lent and came back

module _ (fs gs : List Float) (is js ls ms : List ℕ) (e : gs ≡ fs) (f : js ≡ is) (g : ms ≡ ls) where
  pub held_back : (o : Outcome Progress) → Held o fs is ls → Held o gs js ms
  held_back o h = rw (e, f, g) h

  pub ready_back : (s : State) → Ready s fs is ls → Ready s gs js ms
  ready_back s h = rw (e, f, g) h
