-- What comes of a part's line, from what the reader of its body promises: the part's regions of the columns and its place in the arrays hold what the definition
-- has for it, and all else is as it was. Assumes nothing.
use mathlib.Core.Path.{◌≡◌, refl, sym, ap, ap₂, subst, ◌∙◌}
use mathlib.Core.Bool.{Bool, true, ◌&&◌}
use mathlib.Core.List.{List, []}
use mathlib.Core.Option.{some}
use Prim.Native.Nat.{ℕ, zero, suc, ◌+◌, ◌*◌, ◌-◌, ◌≤◌, ◌<◌}
use native.Mathlib.Omega.{arith}
use lib.ListN.{length, get_or, set, length-set}
use lib.Seq.{get_or-set_same, get_or-set_other}
use lib.Ieee.{Float}
use borrow.Author.Tests.{eq-eqb, le-leb}
use Rattle.lines.specs.Names.{place_among}
use Rattle.sheet.specs.Capacities.{parts_most, notes_most, loops_most, instruments_most}
use Rattle.sheet.specs.Refusals.{Outcome, going, refused, ◌>>=◌}
use Rattle.sheet.proofs.Holds.{Holds, holds_of}
use Rattle.sheet.proofs.Outcomes.{Numbered, numbered_of}
use Rattle.environment.specs.declared.environment.Environment.{Environment}
use Rattle.environment.specs.Environment.{at_the_start}
use Rattle.part.specs.declared.state.State.{State}
use Rattle.part.specs.Body.{Part, Book, Progress, body_read}
use Rattle.part.specs.Columns.{progress_of, Ready}
use Rattle.part.specs.Reading.{is_ready, part_in, state_after, Held}
use Rattle.layout.specs.Regions.{region}
use Rattle.layout.specs.Layout.{notes_at, notes_from}
use Rattle.layout.proofs.Regions.{lent, back, lent_region, region_wide, back_here, back_beside, back_length}
use Rattle.parser.specs.declared.sofar.Sofar.{Sofar}
use Rattle.meaning.specs.Parts.{NamedPart, Played, notes_of, with_part_named}
use Rattle.parser.specs.Columns.{place_column, part_at, parts_from, Fits, refused_at}
use Rattle.parser.specs.PartSteps.{Beside, BodyCame, ReadyAt, body_at}
use Rattle.parser.proofs.PartStates.{state_of, kept_with, stored_as, called_as, LineCame, played_in, played_outcome, Came}
use Rattle.parser.proofs.Bodies.{Others, body_numbered, body_others}
use Rattle.parser.proofs.NamedParts.{named_there, with_there, notes_set, begun, ended, line_of, line_known}
use Rattle.parser.proofs.Pieces.{after_lent}
use Rattle.parser.proofs.PartPlaces.{element_any, element_set, parts_length, part_of, notes_of_law, notes_many, parts_but}

-- ---- which states are ready

and_true : (a b : Bool) → a ≡ true → b ≡ true → a && b ≡ true
and_true a b e f = ap₂ (λ (x y : Bool). x && y) e f

module _ (s : State) (fs : List Float) (is ls : List ℕ) (releases : ℕ) where
  pub ready_is : Ready s fs is ls → releases ≤ instruments_most → is_ready s (length fs) (length is) (length ls) releases ≡ true
  unfolding is_ready
  ready_is g h =
      let n = g.room.few in
      and_true _ _ (eq-eqb s.refusal 0 g.goes)
      (and_true _ _ (le-leb s.env.octave 8 g.room.octave)
      (and_true _ _ (le-leb s.others notes_most (omega (arith, n)))
      (and_true _ _ (le-leb s.count (notes_most - s.others) (omega (arith, n)))
      (and_true _ _ (le-leb s.depth loops_most g.deep.few)
      (and_true _ _ (eq-eqb (length fs) (3 * notes_most) g.room.floats)
      (and_true _ _ (eq-eqb (length is) notes_most g.room.instruments)
      (and_true _ _ (eq-eqb (length ls) (2 * loops_most) g.deep.places) (le-leb releases instruments_most h))))))))

-- ---- a body in the regions of a part

module _ (book : Book) (line : ℕ) (text : List ℕ) (st q : State) where
  -- what its reader promises
  abbrev Promised : List Float → List ℕ → List ℕ → List Float → List ℕ → List ℕ → Type 0
  Promised fs is ls gs js ms =
      (q ≡ state_after st (part_in book line text st fs is ls))
      × (Held (part_in book line text st fs is ls) gs js ms
      × (is_ready st (length fs) (length is) (length ls) (length book.releases) ≡ true → q.refusal ≡ 0 → Ready q gs js ms))

  read_on : (fs : List Float) (is ls : List ℕ) → is_ready st (length fs) (length is) (length ls) (length book.releases) ≡ true
      → part_in book line text st fs is ls ≡ body_read book line text (progress_of st fs is ls)
  unfolding part_in
  read_on fs is ls e = rw (e, part_in)

  module _ (k : ℕ) (fs : List Float) (is ls : List ℕ) (gs : List Float) (js ms : List ℕ) where
    pub body_came : k < parts_most → length fs ≡ 3 * notes_most * parts_most → length is ≡ notes_most * parts_most → length ls ≡ 2 * loops_most * parts_most + 2 * parts_most
        → length book.releases ≤ instruments_most → ReadyAt k st fs is ls
        → length gs ≡ length (lent (3 * notes_most) k fs) → length js ≡ length (lent notes_most k is) → length ms ≡ length (lent (2 * loops_most) k ls)
        → Promised (lent (3 * notes_most) k fs) (lent notes_most k is) (lent (2 * loops_most) k ls) gs js ms
        → BodyCame (body_at book line text k st fs is ls) k st q fs is ls (back (3 * notes_most) k fs gs) (back notes_most k is js) (back (2 * loops_most) k ls ms)
    unfolding body_at
    body_came h lf li ll rs g ag aj am p =
        let lg = ag ∙ ap length (lent_region (3 * notes_most) k fs) ∙ region_wide (3 * notes_most) k fs (omega (arith, h, lf)) in
        let lj = aj ∙ ap length (lent_region notes_most k is) ∙ region_wide notes_most k is (omega (arith, h, li)) in
        let lm = am ∙ ap length (lent_region (2 * loops_most) k ls) ∙ region_wide (2 * loops_most) k ls (omega (arith, h, ll)) in
        let a = subst (λ (x : List Float). Promised x (lent notes_most k is) (lent (2 * loops_most) k ls) gs js ms) (lent_region (3 * notes_most) k fs) p in
        let b = subst (λ (x : List ℕ). Promised (region (3 * notes_most) k fs) x (lent (2 * loops_most) k ls) gs js ms) (lent_region notes_most k is) a in
        let c = subst (λ (x : List ℕ). Promised (region (3 * notes_most) k fs) (region notes_most k is) x gs js ms) (lent_region (2 * loops_most) k ls) b in
        let y = ready_is st (region (3 * notes_most) k fs) (region notes_most k is) (region (2 * loops_most) k ls) (length book.releases) g rs in
        let o = read_on (region (3 * notes_most) k fs) (region notes_most k is) (region (2 * loops_most) k ls) y in
        let u = back_here (3 * notes_most) k fs gs (omega (arith, h, lf)) lg in
        let v = back_here notes_most k is js (omega (arith, h, li)) lj in
        let w = back_here (2 * loops_most) k ls ms (omega (arith, h, ll)) lm in
        record {
          state = c.0 ∙ ap (state_after st) o;
          held = rw (u, v, w) (subst (λ (x : Outcome Progress). Held x gs js ms) o c.1.0);
          ready = λ z. rw (u, v, w) (c.1.1 y z);
          beside = record {
            floats = back_beside (3 * notes_most) k fs gs (omega (arith, h, lf)) lg;
            bytes = back_beside notes_most k is js (omega (arith, h, li)) lj;
            loops = back_beside (2 * loops_most) k ls ms (omega (arith, h, ll)) lm;
            floats_length = back_length (3 * notes_most) k fs gs (omega (arith, h, lf)) lg;
            bytes_length = back_length notes_most k is js (omega (arith, h, li)) lj;
            loops_length = back_length (2 * loops_most) k ls ms (omega (arith, h, ll)) lm;
          };
        }

-- the places of the parts' names lie behind all loops
pub body_places : (k : ℕ) (ls ms : List ℕ) → k < parts_most → length ls ≡ 2 * loops_most * parts_most + 2 * parts_most → length ms ≡ length (lent (2 * loops_most) k ls)
    → place_column (back (2 * loops_most) k ls ms) ≡ place_column ls
body_places k ls ms h l e =
    let room : 16 * k + 16 ≤ length ls = omega (arith, h, l) in
    after_lent 16 k ls ms room (e ∙ ap length (lent_region 16 k ls) ∙ region_wide 16 k ls room) 32 8 (omega (arith, h))

-- what its outcome has
module _ (book : Book) (line : ℕ) (text : List ℕ) (k : ℕ) (st : State) (fs : List Float) (is ls : List ℕ) where
  numbered_at : Numbered (body_at book line text k st fs is ls)
  unfolding body_at
  numbered_at = body_numbered book line text (progress_of st (region (3 * notes_most) k fs) (region notes_most k is) (region (2 * loops_most) k ls))

  others_at : Holds (Others st.others) (body_at book line text k st fs is ls)
  unfolding body_at progress_of
  others_at = body_others book line text (progress_of st (region (3 * notes_most) k fs) (region notes_most k is) (region (2 * loops_most) k ls))

-- ---- a reading that goes on

pub played_going : (s places : List ℕ) (r : Sofar) (fs : List Float) (is ls : List ℕ) → r.refusal ≡ 0
    → played_outcome s places r fs is ls ≡ going (played_in s places r fs is ls)
unfolding played_outcome
played_going s places r fs is ls e = rw (e, played_outcome)

-- ---- the part k

module _ (places : List ℕ) (r : Sofar) (fs : List Float) (is ls : List ℕ) (g : Fits places r fs is ls) (k : ℕ) (h : k < r.parts) where
  few : k < parts_most
  few = omega (arith, h, g.few)

  own_notes : length (notes_at r.counts fs is k) ≡ get_or r.counts k 0
  own_notes = notes_many places places r fs is ls k (g.counts k h) (omega (arith, few, g.bytes_length))

  module _ (s : List ℕ) where
    abbrev parts : List NamedPart
    parts = parts_from s places r fs is ls 0 r.parts

    abbrev this : NamedPart
    this = part_at s places r fs is ls k

    many : length parts ≡ r.parts
    many = parts_length s places r fs is ls 0 r.parts

    all : length (notes_of parts) ≡ r.all
    all = ap length (notes_of_law s places r fs is ls 0 r.parts) ∙ sym g.all

    here : get_or parts k this ≡ this
    here = part_of s places r fs is ls this 0 r.parts k h ∙ ap (part_at s places r fs is ls) (let z : 0 + k ≡ k = omega arith in z)

    own : length this.part.notes ≡ get_or r.counts k 0
    unfolding part_at
    own = own_notes

    -- another part in its place has other notes
    others : (x : NamedPart) → length (notes_of (set parts k x)) + get_or r.counts k 0 ≡ r.all + length x.part.notes
    others x =
        let a = notes_set this x parts k (omega (arith, h, many)) in
        let b = ap (λ (p : NamedPart). length p.part.notes) here in
        omega (arith, a, b, own, all)

  -- its notes are some of all
  pub own_few : get_or r.counts k 0 ≤ r.all
  own_few =
      let a = others places (record { name = []; part = record { env = at_the_start; notes = []; loops = [] } }) in
      omega (arith, a)

  -- it is read on from its state
  pub state_ready : ReadyAt k (state_of r k) fs is ls
  unfolding state_of
  state_ready =
      record {
        goes = refl;
        room = record {
          octave = g.octaves k h;
          few = omega (arith, own_few, g.notes);
          floats = region_wide (3 * notes_most) k fs (omega (arith, few, g.floats_length));
          instruments = region_wide notes_most k is (omega (arith, few, g.bytes_length));
        };
        deep = record { few = g.depths k h; places = region_wide (2 * loops_most) k ls (omega (arith, few, g.loops_length)) };
      }

  progress_is : (s : List ℕ) → progress_of (state_of r k) (region (3 * notes_most) k fs) (region notes_most k is) (region (2 * loops_most) k ls)
      ≡ begun (parts s) r.steps (this s).part
  unfolding progress_of state_of part_at
  progress_is s =
      ap (λ (n : ℕ). record { part = (this s).part; others = n; steps = r.steps })
      (let z : r.all - get_or r.counts k 0 ≡ length (notes_of (parts s)) - length (notes_at r.counts fs is k) = omega (arith, all s, own_notes) in z)

  -- the line of its name
  module _ (book : Book) (s name text : List ℕ) (named : k ≡ place_among name (called_as (parts s))) where
    found : place_among name (called_as (parts s)) < length (parts s)
    found = omega (arith, named, h, many s)

    line_is : line_of book r.start r.line name text (parts s) r.steps ≡ (body_at book r.line text k (state_of r k) fs is ls >>= ended name (parts s))
    unfolding body_at
    line_is =
        line_known book r.start r.line name text (parts s) r.steps (this s).part
        (named_there name (this s) (parts s) found ∙ ap (λ (i : ℕ). some (get_or (parts s) i (this s)).part) (sym named) ∙ ap (λ (p : NamedPart). some p.part) (here s))
        ∙ ap (λ (p : Progress). body_read book r.line text p >>= ended name (parts s)) (sym (progress_is s))

    replaced : (v : Part) → with_part_named name v (parts s) ≡ set (parts s) k (record { name = (this s).name; part = v })
    replaced v =
        with_there name v (this s) (parts s) found
        ∙ ap (λ (i : ℕ). set (parts s) i (record { name = (get_or (parts s) i (this s)).name; part = v })) (sym named)
        ∙ ap (λ (p : NamedPart). set (parts s) k (record { name = p.name; part = v })) (here s)

    -- ---- what comes of it

    module _ (gs : List Float) (js ms : List ℕ) where
      came_refused : (n l : ℕ) → 0 < n → Came (refused n l) s places r (stored_as r k (state_after (state_of r k) (refused n l))) gs js ms
      unfolding stored_as state_after played_outcome
      came_refused zero l z = absurd (omega (arith, z))
      came_refused (suc n) l z =
          record {
            means = refl;
            fits = λ e. absurd (omega (arith, e));
            start = refl;
            macros = refl;
            instruments = refl;
            at = refl;
            line = λ e. absurd (omega (arith, e));
          }

      module _ (bs : Beside k fs is ls gs js ms) (p : Progress) where
        abbrev left : State
        left =
            record {
              env = p.part.env;
              count = length p.part.notes;
              others = p.others;
              depth = length p.part.loops;
              steps = p.steps;
              refusal = 0;
              line = 0;
            }

        abbrev after : Sofar
        after = kept_with r k left

        -- the part has become this, and the others are as they were
        part_here : Held (going p) (region (3 * notes_most) k gs) (region notes_most k js) (region (2 * loops_most) k ms)
            → part_at s places after gs js ms k ≡ record { name = (this s).name; part = p.part }
        unfolding part_at Held
        part_here d =
            rw (
              get_or-set_same r.envs k p.part.env at_the_start (omega (arith, few, g.envs_length)),
              get_or-set_same r.counts k (length p.part.notes) 0 (omega (arith, few, g.counts_length)),
              get_or-set_same r.depths k (length p.part.loops) 0 (omega (arith, few, g.depths_length)),
              d.0,
              d.1,
            )
            refl

        part_beside : (j : ℕ) → (j ≡ k → ⊥) → part_at s places after gs js ms j ≡ part_at s places r fs is ls j
        unfolding part_at
        part_beside j n =
            rw (
              get_or-set_other r.envs k j p.part.env at_the_start n,
              get_or-set_other r.counts k j (length p.part.notes) 0 n,
              get_or-set_other r.depths k j (length p.part.loops) 0 n,
              bs.floats j n,
              bs.bytes j n,
              bs.loops j n,
            )
            refl

        module _
            (d : Held (going p) (region (3 * notes_most) k gs) (region notes_most k js) (region (2 * loops_most) k ms))
            (y : Ready left (region (3 * notes_most) k gs) (region notes_most k js) (region (2 * loops_most) k ms))
            (o : p.others ≡ r.all - get_or r.counts k 0) where
          parts_after : set (parts s) k (record { name = (this s).name; part = p.part }) ≡ parts_from s places after gs js ms 0 r.parts
          parts_after =
              parts_but s places r fs is ls places after gs js ms r.parts k (record { name = (this s).name; part = p.part }) h (part_here d) part_beside

          -- others and own notes are all
          all_after : p.others + length p.part.notes ≡ length (notes_from after.counts gs js 0 r.parts)
          all_after =
              let a = others s (record { name = (this s).name; part = p.part }) in
              let b = ap (λ (qs : List NamedPart). length (notes_of qs)) parts_after in
              let c = ap length (notes_of_law s places after gs js ms 0 r.parts) in
              omega (arith, a, b, c, o, own_few)

          fits_after : Fits places after gs js ms
          fits_after =
              record {
                few = g.few;
                start = g.start;
                octaves = λ j l.
                    element_set (λ (e : Environment). e.octave ≤ 8) r.envs k p.part.env at_the_start (omega (arith, few, g.envs_length)) y.room.octave j
                    (λ n. g.octaves j l);
                counts = λ j l.
                    element_set (λ (i : ℕ). i ≤ notes_most) r.counts k (length p.part.notes) 0 (omega (arith, few, g.counts_length)) (omega (arith, y.room.few)) j
                    (λ n. g.counts j l);
                depths = λ j l.
                    element_set (λ (i : ℕ). i ≤ loops_most) r.depths k (length p.part.loops) 0 (omega (arith, few, g.depths_length)) y.deep.few j
                    (λ n. g.depths j l);
                all = all_after;
                notes = y.room.few;
                envs_length = length-set r.envs k p.part.env ∙ g.envs_length;
                counts_length = length-set r.counts k (length p.part.notes) ∙ g.counts_length;
                depths_length = length-set r.depths k (length p.part.loops) ∙ g.depths_length;
                places_length = g.places_length;
                floats_length = bs.floats_length ∙ g.floats_length;
                bytes_length = bs.bytes_length ∙ g.bytes_length;
                loops_length = bs.loops_length ∙ g.loops_length;
              }

          means_after : going (played_in s places after gs js ms) ≡ ended name (parts s) p
          unfolding played_in
          means_after = ap (λ (qs : List NamedPart). going (record { parts = qs; steps = p.steps })) (sym parts_after ∙ sym (replaced p.part))

          came_going : r.refusal ≡ 0 → Came (ended name (parts s) p) s places r after gs js ms
          came_going z =
              record {
                means = played_going s places after gs js ms z ∙ means_after;
                fits = λ e. fits_after;
                start = refl;
                macros = refl;
                instruments = refl;
                at = refl;
                line = λ e. refl;
              }

      -- the state that the body's reader leaves is stored
      pub line_came : r.refusal ≡ 0 → (q : State) → BodyCame (body_at book r.line text k (state_of r k) fs is ls) k (state_of r k) q fs is ls gs js ms
          → Came (line_of book r.start r.line name text (parts s) r.steps) s places r (stored_as r k q) gs js ms
      unfolding ◌>>=◌ state_after stored_as state_of
      line_came z q b =
          subst (λ (o : Outcome Played). Came o s places r (stored_as r k q) gs js ms) (sym line_is) (go (body_at book r.line text k (state_of r k) fs is ls) refl b)
        where
          go : (o : Outcome Progress) → body_at book r.line text k (state_of r k) fs is ls ≡ o → BodyCame o k (state_of r k) q fs is ls gs js ms
              → Came (o >>= ended name (parts s)) s places r (stored_as r k q) gs js ms
          go (refused n l) e c =
              subst (λ (x : State). Came (refused n l) s places r (stored_as r k x) gs js ms) (sym c.state)
              (came_refused n l (numbered_of (body_at book r.line text k (state_of r k) fs is ls) n l (sym e) (numbered_at book r.line text k (state_of r k) fs is ls)))
          go (going p) e c =
              subst (λ (x : State). Came (ended name (parts s) p) s places r (stored_as r k x) gs js ms) (sym c.state)
              (came_going c.beside p c.held
              (subst (λ (x : State). x.refusal ≡ 0 → Ready x (region (3 * notes_most) k gs) (region notes_most k js) (region (2 * loops_most) k ms)) c.state c.ready refl)
              (holds_of (Others (r.all - get_or r.counts k 0)) p
              (subst (Holds (Others (r.all - get_or r.counts k 0))) e (others_at book r.line text k (state_of r k) fs is ls)))
              z)

-- ---- what is stored

module _ (r : Sofar) (k : ℕ) (st : State) where
  pub stored_kept : st.refusal ≡ 0 → kept_with r k st ≡ stored_as r k st
  unfolding stored_as
  stored_kept e = rw (e, stored_as)

  pub stored_refused : (st.refusal ≡ 0 → ⊥) → refused_at r st.refusal st.line ≡ stored_as r k st
  unfolding stored_as
  stored_refused n = go st.refusal refl
    where
      go : (m : ℕ) → st.refusal ≡ m → refused_at r st.refusal st.line ≡ stored_as r k st
      go zero e = absurd (n e)
      go (suc m) e = ap (λ (i : ℕ). refused_at r i st.line) e ∙ rw (e, stored_as)

-- ---- what it is read on from

pub state_is : (r : Sofar) (k : ℕ) (d : Environment) → k < length r.envs
    → ◌≡◌ {A = State}
    (record {
      env = get_or r.envs k d;
      count = get_or r.counts k 0;
      others = r.all - get_or r.counts k 0;
      depth = get_or r.depths k 0;
      steps = r.steps;
      refusal = 0;
      line = 0;
    })
    (state_of r k)
unfolding state_of
state_is r k d h = rw (element_any r.envs k d at_the_start h) refl

-- ---- the whole

pub line_whole : (book : Book) (text : List ℕ) (k : ℕ) (r : Sofar) (fs : List Float) (is ls : List ℕ) (gs : List Float) (js ms : List ℕ) → k < r.parts → r.refusal ≡ 0
    → (b : State) → b ≡ state_of r k → (q : State) → BodyCame (body_at book r.line text k b fs is ls) k b q fs is ls gs js ms
    → LineCame book text k r (stored_as r k q) fs is ls gs js ms
unfolding played_in
line_whole book text k r fs is ls gs js ms h z b e q c s places name g n =
    line_came places r fs is ls g k h book s name text n gs js ms z q
    (subst (λ (x : State). BodyCame (body_at book r.line text k x fs is ls) k x q fs is ls gs js ms) e c)
