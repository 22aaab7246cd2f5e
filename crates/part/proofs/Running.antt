-- How the reader of bodies goes on: what is left of a text gives the same end as all of it did from the start, through every item and every macro. The laws
-- are those of one walk over a text (start, more, refused, end), of one item and of one macro call. Assumes nothing.
use mathlib.Core.Path.{◌≡◌, refl, sym, ap, subst, ◌∙◌}
use mathlib.Core.Bool.{Bool, true, false}
use mathlib.Core.List.{List, [], ◌∷◌}
use mathlib.Core.Option.{none, some}
use Prim.Native.Nat.{ℕ, zero, suc, ◌+◌, ◌-◌, ◌≤◌, ◌<◌}
use native.Mathlib.Omega.{arith}
use lib.Dec.{eqb}
use lib.ListN.{length, drop, get_or, drop_of_length-le}
use lib.Seq.{drop-cons, drop-drop}
use lib.Ieee.{Float}
use borrow.Author.Tests.{ne_eqb, lt-ltb, le-ltb}
use Rattle.text.specs.Blanks.{is_blank}
use Rattle.text.specs.Fronts.{front, after}
use Rattle.text.proofs.Fronts.{Stops, after_is, after_stops}
use Rattle.sheet.proofs.Outcomes.{then_going, then_refused}
use Rattle.sheet.specs.Refusals.{Outcome, refused, ◌>>=◌, ◌>>◌, refuse◌on◌unless◌, refuse◌on◌without◌}
use Rattle.part.specs.declared.state.State.{State}
use Rattle.text.specs.declared.parsed.Parsed.{Parsed}
use Rattle.items.specs.declared.item.Item.{Item as Written}
use Rattle.tables.specs.Named.{Macro, macro_named}
use Rattle.part.specs.Body.{Book, Progress, called, does, stepped, run, inside}
use Rattle.part.specs.Columns.{progress_of, outcome_of, Ready, Becomes, refused_at}
use Rattle.items.specs.Items as Items
use Rattle.items.specs.Items.{item_at, items_from, items_of}
use Rattle.items.specs.Written.{item_of, found_of}
use Rattle.part.proofs.Columns.{refused_becomes, going_becomes, outcome_going}

-- ---- items

-- bytes that are passed over
items_drop : (k : ℕ) (s : List ℕ) → items_from k s ≡ items_from 0 (drop k s)
unfolding items_from
items_drop zero s = refl
items_drop (suc k) [] = refl
items_drop (suc k) (b ∷ s) = items_drop k s

blank_cons : (b : ℕ) (s : List ℕ) → items_from 0 s ≡ items_from 0 (after is_blank s) → (t : Bool) → is_blank b ≡ t → items_from 0 (b ∷ s) ≡ items_from 0 (after is_blank (b ∷ s))
unfolding items_from after
blank_cons b s ih true e = rw (e, items_from, after) ih
blank_cons b s ih false e = rw (e, after)

-- blanks do nothing
items_blank : (s : List ℕ) → items_from 0 s ≡ items_from 0 (after is_blank s)
unfolding after
items_blank [] = refl
items_blank (b ∷ s) = blank_cons b s (items_blank s) (is_blank b) refl

-- an item, and what follows it
items_item : (b : ℕ) (s : List ℕ) → is_blank b ≡ false → eqb b 59 ≡ false → items_from 0 (b ∷ s) ≡ (item_at b s).item ∷ items_from 0 (drop (item_at b s).width s)
unfolding items_from
items_item b s e f = rw (e, items_from, f, items_from) (ap (λ (is : List Items.Item). (item_at b s).item ∷ is) (items_drop (item_at b s).width s))

-- `;` ends them
items_ended : (b : ℕ) (s : List ℕ) → is_blank b ≡ false → b ≡ 59 → items_from 0 (b ∷ s) ≡ []
unfolding items_from is_blank
items_ended b s e f = rw f

module _ (text : List ℕ) (at from : ℕ) (place : from ≡ at + length (front is_blank (drop at text))) where
  -- the items behind the blanks
  items_behind : items_from 0 (drop at text) ≡ items_from 0 (drop from text)
  items_behind = items_blank (drop at text) ∙ ap (items_from 0) (after_is is_blank text at ∙ ap (λ (j : ℕ). drop j text) (sym place))

  ink_there : from < length text → is_blank (get_or text from 0) ≡ false
  ink_there h =
      subst (Stops is_blank)
      (after_is is_blank text at ∙ ap (λ (j : ℕ). drop j text) (sym place) ∙ drop-cons text from 0 h)
      (after_stops is_blank (drop at text))

  pub items_none : length text ≤ from → items_from 0 (drop at text) ≡ []
  unfolding items_from
  items_none h = items_behind ∙ ap (items_from 0) (drop_of_length-le text h)

  pub items_stop : from < length text → get_or text from 0 ≡ 59 → items_from 0 (drop at text) ≡ []
  items_stop h e =
      items_behind ∙ ap (items_from 0) (drop-cons text from 0 h) ∙ items_ended (get_or text from 0) (drop (suc from) text) (ink_there h) e

  -- the item that the code has found, and what follows it
  pub items_found : from < length text → (get_or text from 0 ≡ 59 → ⊥) → (f : Parsed Written)
      → found_of text from f ≡ item_at (get_or text from 0) (drop (from + 1) text) → from < f.next
      → items_from 0 (drop at text) ≡ item_of text from f.next f.value ∷ items_from 0 (drop f.next text)
  unfolding found_of
  items_found h n f e l =
      let b = get_or text from 0 in
      let s = drop (from + 1) text in
      let w : (item_at b s).width ≡ f.next - (from + 1) = ap (λ (x : Items.Found). x.width) (sym e) in
      items_behind ∙ ap (items_from 0) (drop-cons text from 0 h)
      ∙ (let z : items_from 0 (b ∷ drop (suc from) text) ≡ items_from 0 (b ∷ s) = ap (λ (j : ℕ). items_from 0 (b ∷ drop j text)) (let y : suc from ≡ from + 1 = omega arith in y) in z)
      ∙ items_item b s (ink_there h) (ne_eqb b 59 n)
      ∙ ap (λ (i : Items.Item). i ∷ items_from 0 (drop (item_at b s).width s)) (ap (λ (x : Items.Found). x.item) (sym e))
      ∙ ap (λ (xs : List ℕ). item_of text from f.next f.value ∷ items_from 0 xs)
      (drop-drop (item_at b s).width (from + 1) text
      ∙ ap (λ (j : ℕ). drop j text) (let z : from + 1 + (item_at b s).width ≡ f.next = omega (arith, w, l) in z))

-- ---- outcomes

-- what a state comes to that is refused
pub outcome_refused : (s : State) (fs : List Float) (is ls : List ℕ) → (s.refusal ≡ 0 → ⊥) → outcome_of s fs is ls ≡ refused s.refusal s.line
unfolding outcome_of
outcome_refused s fs is ls n = go s.refusal refl
  where
    go : (k : ℕ) → s.refusal ≡ k → outcome_of s fs is ls ≡ refused s.refusal s.line
    go zero e = absurd (n e)
    go (suc k) e = rw (e, outcome_of)

-- ---- the walk over a text

-- from the state s₀ and its columns the walk has come to a place, with another state
pub record Running (book : Book) (line : ℕ) (inner : Macro → Progress → Outcome Progress) (text : List ℕ) (s₀ : State) (fs₀ : List Float) (is₀ ls₀ : List ℕ) (at : ℕ) (s : State) (fs : List Float) (is ls : List ℕ) : Type 0 where
  pub ready : Ready s fs is ls
  pub left : run book line inner (items_from 0 (drop at text)) (progress_of s fs is ls) ≡ run book line inner (items_of text) (progress_of s₀ fs₀ is₀ ls₀)

module _ (book : Book) (line : ℕ) (inner : Macro → Progress → Outcome Progress) (text : List ℕ) (s₀ : State) (fs₀ : List Float) (is₀ ls₀ : List ℕ) where
  pub run_start : Ready s₀ fs₀ is₀ ls₀ → Running book line inner text s₀ fs₀ is₀ ls₀ 0 s₀ fs₀ is₀ ls₀
  unfolding items_of
  run_start r = record { ready = r; left = refl }

  module _ (at : ℕ) (s : State) (fs : List Float) (is ls : List ℕ) (g : Running book line inner text s₀ fs₀ is₀ ls₀ at s fs is ls) where
    -- nothing is left
    pub run_end : items_from 0 (drop at text) ≡ [] → Becomes (run book line inner (items_of text) (progress_of s₀ fs₀ is₀ ls₀)) s fs is ls
    unfolding run
    run_end e =
        going_becomes s fs is ls g.ready.room g.ready.deep g.ready.goes _
        (sym g.left ∙ ap (λ (xs : List Items.Item). run book line inner xs (progress_of s fs is ls)) e)

    module _ (i : Items.Item) (next : ℕ) (e : items_from 0 (drop at text) ≡ i ∷ items_from 0 (drop next text)) (r : State) (fs' : List Float) (is' ls' : List ℕ) (b : Becomes (stepped book line inner i (progress_of s fs is ls)) r fs' is' ls') where
      one_more : run book line inner (items_of text) (progress_of s₀ fs₀ is₀ ls₀) ≡ (stepped book line inner i (progress_of s fs is ls) >>= (λ q. run book line inner (items_from 0 (drop next text)) q))
      unfolding run
      one_more = sym g.left ∙ ap (λ (xs : List Items.Item). run book line inner xs (progress_of s fs is ls)) e

      -- the item was refused
      pub run_refused : (r.refusal ≡ 0 → ⊥) → Becomes (run book line inner (items_of text) (progress_of s₀ fs₀ is₀ ls₀)) r fs' is' ls'
      run_refused n =
          record {
            room = b.room;
            deep = b.deep;
            means = outcome_refused r fs' is' ls' n
                ∙ sym (one_more ∙ then_refused r.refusal r.line (stepped book line inner i (progress_of s fs is ls)) _ (sym b.means ∙ outcome_refused r fs' is' ls' n));
          }

      -- it was not
      pub run_more : r.refusal ≡ 0 → Running book line inner text s₀ fs₀ is₀ ls₀ next r fs' is' ls'
      run_more z =
          record {
            ready = record { goes = z; room = b.room; deep = b.deep };
            left = sym
                (one_more ∙ then_going (progress_of r fs' is' ls') (stepped book line inner i (progress_of s fs is ls)) _ (sym b.means ∙ outcome_going r fs' is' ls' z));
          }

-- ---- one item

-- a state with one step more
abbrev pub with_step : State → ℕ → State
with_step s n =
    record { env = s.env; count = s.count; others = s.others; depth = s.depth; steps = n; refusal = s.refusal; line = s.line }

pub step_ready : (s : State) (fs : List Float) (is ls : List ℕ) → Ready s fs is ls → Ready (with_step s (s.steps + 1)) fs is ls
step_ready s fs is ls g =
    record {
      goes = g.goes;
      room = record { octave = g.room.octave; few = g.room.few; floats = g.room.floats; instruments = g.room.instruments };
      deep = record { few = g.deep.few; places = g.deep.places };
    }

module _ (book : Book) (line : ℕ) (inner : Macro → Progress → Outcome Progress) (i : Items.Item) (s : State) (fs : List Float) (is ls : List ℕ) (g : Ready s fs is ls) where
  -- the steps are used up
  pub step_none : 100000 ≤ s.steps → Becomes (stepped book line inner i (progress_of s fs is ls)) (refused_at s 23 line) fs is ls
  unfolding stepped progress_of ◌>>◌ refuse◌on◌unless◌
  step_none h = refused_becomes s fs is ls g.room g.deep 22 line _ (rw (le-ltb s.steps 100000 h))

  -- one is counted
  pub step_some : s.steps < 100000 → (r : State) (fs' : List Float) (is' ls' : List ℕ)
      → Becomes (does book line inner i (progress_of (with_step s (s.steps + 1)) fs is ls)) r fs' is' ls'
      → Becomes (stepped book line inner i (progress_of s fs is ls)) r fs' is' ls'
  unfolding stepped progress_of ◌>>◌ refuse◌on◌unless◌
  step_some h r fs' is' ls' b = record { room = b.room; deep = b.deep; means = b.means ∙ (let z : does book line inner i (progress_of (with_step s (s.steps + 1)) fs is ls) ≡ stepped book line inner i (progress_of s fs is ls) = rw (lt-ltb s.steps 100000 h) in z) }

-- ---- a macro call

module _ (book : Book) (line left : ℕ) (name : List ℕ) (s : State) (fs : List Float) (is ls : List ℕ) (g : Ready s fs is ls) where
  pub call_unknown : macro_named name book.macros ≡ none → Becomes (called book line (inside book left line) name (progress_of s fs is ls)) (refused_at s 13 line) fs is ls
  unfolding called ◌>>=◌ refuse◌on◌without◌
  call_unknown e = refused_becomes s fs is ls g.room g.deep 12 line _ (rw e)

  pub call_deep : (m : Macro) → macro_named name book.macros ≡ some m → left ≡ 0
      → Becomes (called book line (inside book left line) name (progress_of s fs is ls)) (refused_at s 22 line) fs is ls
  unfolding called inside ◌>>=◌ refuse◌on◌without◌
  call_deep m e z = refused_becomes s fs is ls g.room g.deep 21 line _ (rw (e, z))

  call_inside : (m : Macro) → macro_named name book.macros ≡ some m → (l : ℕ)
      → run book m.line (inside book l m.line) (items_of m.body) (progress_of s fs is ls) ≡ called book line (inside book (suc l) line) name (progress_of s fs is ls)
  unfolding called inside ◌>>=◌ refuse◌on◌without◌
  call_inside m e l = rw e

  -- the macro's body is read with one nested call less
  pub call_known : (m : Macro) → macro_named name book.macros ≡ some m → (left ≡ 0 → ⊥) → (text : List ℕ) → text ≡ m.body
      → (r : State) (fs' : List Float) (is' ls' : List ℕ)
      → Becomes (run book m.line (inside book (left - 1) m.line) (items_of text) (progress_of s fs is ls)) r fs' is' ls'
      → Becomes (called book line (inside book left line) name (progress_of s fs is ls)) r fs' is' ls'
  call_known m e n text q r fs' is' ls' b =
      record {
        room = b.room;
        deep = b.deep;
        means = b.means
            ∙ ap (λ (xs : List ℕ). run book m.line (inside book (left - 1) m.line) (items_of xs) (progress_of s fs is ls)) q
            ∙ call_inside m e (left - 1)
            ∙ ap (λ (j : ℕ). called book line (inside book j line) name (progress_of s fs is ls)) (let z : suc (left - 1) ≡ left = omega (arith, n) in z);
      }
