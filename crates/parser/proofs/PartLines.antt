-- A part's line by its ways out: one law for each, from the places of the line's name and the place of that name among the parts. Assumes nothing.
use mathlib.Core.Path.{◌≡◌, refl, sym, ap, subst, ◌∙◌}
use mathlib.Core.Bool.{Bool, true, false}
use mathlib.Core.List.{List}
use mathlib.Core.Option.{Option, none, some}
use Prim.Native.Nat.{ℕ, ◌+◌, ◌*◌, ◌-◌, ◌≤◌, ◌<◌}
use native.Mathlib.Nat.{le_of_eq}
use native.Mathlib.Omega.{arith}
use lib.Dec.{ltb}
use lib.ListN.{length, take, drop, length-drop}
use lib.Seq.{take_all}
use lib.Ieee.{Float}
use borrow.Author.Tests.{ltb-true, ltb-false}
use Rattle.lines.specs.declared.names.NameAt.{NameAt}
use Rattle.lines.specs.Names.{between, names_in, place_among}
use Rattle.lines.specs.Tokens.{Named, named_of, name_at, named_by}
use Rattle.lines.proofs.Places.{between_part}
use Rattle.lines.proofs.Named.{named_is}
use Rattle.sheet.specs.Capacities.{parts_most, loops_most}
use Rattle.part.specs.Body.{Book}
use Rattle.tables.specs.Tables.{with_entry}
use Rattle.tables.proofs.MacroLines.{name_ends}
use Rattle.layout.specs.Regions.{region}
use Rattle.parser.specs.declared.sofar.Sofar.{Sofar}
use Rattle.meaning.specs.Parts.{NamedPart, line_played}
use Rattle.parser.specs.Columns.{place_column, part_at, parts_from, Fits, refused_at}
use Rattle.parser.specs.PartSteps.{NamedAt}
use Rattle.parser.proofs.PartStates.{with_new, with_part, called_as, LineCame, played_in, Came}
use Rattle.parser.proofs.Playing.{played_going}
use Rattle.parser.proofs.PartPlaces.{parts_same}
use Rattle.parser.proofs.Storing.{with_known, with_new_law}
use Rattle.parser.proofs.Adding.{place_is, place_new, fits_new, came_new, came_full}

-- ---- what the line says

module _ (l : List ℕ) (p : NameAt) (e : p ≡ name_at l) where
  told_by : named_by l p ≡ named_of l
  told_by = ap (named_by l) e ∙ named_is l

  line_bare : p.two ≡ false → named_of l ≡ none
  unfolding named_by
  line_bare t = sym told_by ∙ rw t refl

  -- its name, and the rest as a part that is lent
  line_named : p.two ≡ true → named_of l ≡ some (record { name = between l p.from p.end; body = take (length l - p.end) (drop p.end l) })
  unfolding named_by
  line_named t =
      sym told_by ∙ rw t
      (ap (λ (b : List ℕ). some (record { name = between l p.from p.end; body = b })) (sym (take_all (length l - p.end) (drop p.end l) (le_of_eq (length-drop p.end l)))))

-- ---- its ways out

module _ (book : Book) (s places : List ℕ) (from end : ℕ) (r : Sofar) (fs : List Float) (is ls : List ℕ) (p : NameAt) (e : p ≡ name_at (between s from end)) where
  abbrev l : List ℕ
  l = between s from end

  abbrev name : List ℕ
  name = between l p.from p.end

  abbrev text : List ℕ
  text = take (length l - p.end) (drop p.end l)

  -- what the line is to come to
  abbrev pub StepCame : Option Named → List ℕ → Sofar → List Float → List ℕ → List ℕ → Type 0
  StepCame n places' q gs js ms = Came (line_played book r.start r.line n (played_in s places r fs is ls)) s places' r q gs js ms

  pub step_bare : p.two ≡ false → r.refusal ≡ 0 → Fits places r fs is ls → StepCame (named_of l) places r fs is ls
  unfolding line_played
  step_bare t z g =
      subst (λ (n : Option Named). StepCame n places r fs is ls) (sym (line_bare l p e t))
      (record {
        means = played_going s places r fs is ls z;
        fits = λ y. g;
        start = refl;
        macros = refl;
        instruments = refl;
        at = refl;
        line = λ y. refl;
      })

  module _ (t : p.two ≡ true) (g : Fits places r fs is ls) (k : ℕ) (found : k ≡ place_among name (names_in s (take (2 * r.parts) places))) where
    named : (places' : List ℕ) (q : Sofar) (gs : List Float) (js ms : List ℕ) → StepCame (some (record { name = name; body = text })) places' q gs js ms
        → StepCame (named_of l) places' q gs js ms
    named places' q gs js ms h = subst (λ (n : Option Named). StepCame n places' q gs js ms) (sym (line_named l p e t)) h

    -- a part that is there
    step_there : (q : Sofar) (gs : List Float) (js ms : List ℕ) → LineCame book text k r q fs is ls gs js ms → StepCame (named_of l) places q gs js ms
    step_there q gs js ms h = named places q gs js ms (h s places name g (found ∙ place_is s places r fs is ls g name))

    module _ (past : r.parts ≤ k) where
      absent : (k ≡ r.parts) × (place_among name (called_as (parts_from s places r fs is ls 0 r.parts)) ≡ length (parts_from s places r fs is ls 0 r.parts))
      absent = place_new s places r fs is ls g name k (found ∙ place_is s places r fs is ls g name) past

      -- a new one
      module _ (few : r.parts < parts_most) (inside : from ≤ end) where
        called : between s (from + p.from) (from + p.end) ≡ name
        called = sym (between_part s from end p.from p.end (name_ends s from end p e inside))

        fits_more : Fits (with_entry r.parts (from + p.from) (from + p.end) places) (with_new r) fs is ls
        fits_more = fits_new s places r fs is ls g few (from + p.from) (from + p.end) name called

        step_new : (q : Sofar) (gs : List Float) (js ms : List ℕ) → LineCame book text k (with_new r) q fs is ls gs js ms
            → StepCame (named_of l) (with_entry r.parts (from + p.from) (from + p.end) places) q gs js ms
        step_new q gs js ms h =
            named (with_entry r.parts (from + p.from) (from + p.end) places) q gs js ms
            (came_new s places r fs is ls g few (from + p.from) (from + p.end) name called book text absent.1 q gs js ms
            (subst (λ (i : ℕ). LineCame book text i (with_new r) q fs is ls gs js ms) absent.0 h))

    -- no room for a new one
    pub step_full : parts_most ≤ k → StepCame (named_of l) places (refused_at r 21 r.line) fs is ls
    step_full h =
        let past : r.parts ≤ k = omega (arith, h, g.few) in
        named places (refused_at r 21 r.line) fs is ls
        (came_full s places r fs is ls g name book text (omega (arith, h, (absent past).0)) (absent past).1)

-- ---- loops that are as they were

module _ (fs : List Float) (is ls ls' : List ℕ) (same : (j : ℕ) → j < parts_most → region (2 * loops_most) j ls' ≡ region (2 * loops_most) j ls) (long : length ls' ≡ length ls) where
  fits_loops : (places : List ℕ) (r : Sofar) → Fits places r fs is ls → Fits places r fs is ls'
  fits_loops places r g =
      record {
        few = g.few;
        start = g.start;
        octaves = g.octaves;
        counts = g.counts;
        depths = g.depths;
        all = g.all;
        notes = g.notes;
        envs_length = g.envs_length;
        counts_length = g.counts_length;
        depths_length = g.depths_length;
        places_length = g.places_length;
        floats_length = g.floats_length;
        bytes_length = g.bytes_length;
        loops_length = long ∙ g.loops_length;
      }

  parts_loops : (s places : List ℕ) (r : Sofar) → Fits places r fs is ls → parts_from s places r fs is ls' 0 r.parts ≡ parts_from s places r fs is ls 0 r.parts
  unfolding part_at
  parts_loops s places r g =
      parts_same s places r fs is ls places r fs is ls' 0 r.parts (λ j h. rw (same j (omega (arith, h, g.few))) refl)

  line_loops : (book : Book) (text : List ℕ) (k : ℕ) (r q : Sofar) (gs : List Float) (js ms : List ℕ) → LineCame book text k r q fs is ls' gs js ms
      → LineCame book text k r q fs is ls gs js ms
  unfolding played_in
  line_loops book text k r q gs js ms h s places name g n =
      let e = parts_loops s places r g in
      subst
      (λ (ps : List NamedPart). Came (line_played book r.start r.line (some (record { name = name; body = text })) (record { parts = ps; steps = r.steps })) s places r q gs js ms)
      e
      (h s places name (fits_loops places r g) (n ∙ ap (λ (ps : List NamedPart). place_among name (called_as ps)) (sym e)))

-- ---- the part is there, or there now

module _ (book : Book) (s : List ℕ) (from end : ℕ) (r : Sofar) (fs : List Float) (is ls : List ℕ) (p : NameAt) (e : p ≡ name_at (between s from end)) (t : p.two ≡ true)
    (g : Fits (place_column ls) r fs is ls) (k : ℕ) (found : k ≡ place_among (name book s (place_column ls) from end r fs is ls p e) (names_in s (take (2 * r.parts) (place_column ls))))
    (room : k < parts_most) (inside : from ≤ end) (ls' : List ℕ) (w : NamedAt k r.parts (from + p.from) (from + p.end) ls ls') (long : length ls' ≡ length ls) where
  abbrev Stepped : List ℕ → Sofar → List Float → List ℕ → List ℕ → Type 0
  Stepped = StepCame book s (place_column ls) from end r fs is ls p e (named_of (between s from end))

  abbrev Known : List ℕ → Sofar → Type 0
  Known ps u =
      (k ≤ r.parts)
      × ((k < u.parts)
      × ((u.refusal ≡ r.refusal)
      × ((u.line ≡ r.line)
      × (Fits ps u fs is ls'
      × ((q : Sofar) (gs : List Float) (js ms : List ℕ)
      → LineCame book (text book s (place_column ls) from end r fs is ls p e) k u q fs is ls' gs js ms → Stepped ps q gs js ms)))))

  pub step_known : Known (place_column ls') (with_part r k)
  unfolding with_new
  step_known = go (ltb k r.parts) refl
    where
      go : (b : Bool) → ltb k r.parts ≡ b → Known (place_column ls') (with_part r k)
      go true q =
          let h = ltb-true k r.parts q in
          let same = w.known h in
          subst (Known (place_column ls')) (sym (with_known r k h)) (
            omega (arith, h),
            (
              h,
              (
                refl,
                (
                  refl,
                  (
                    subst (λ (l : List ℕ). Fits (place_column l) r fs is ls') (sym same) (fits_loops fs is ls ls' w.loops long (place_column ls) r g),
                    λ q gs js ms c. subst (λ (l : List ℕ). Stepped (place_column l) q gs js ms) (sym same)
                        (step_there book s (place_column ls) from end r fs is ls p e t g k found q gs js ms (line_loops fs is ls ls' w.loops long book _ k r q gs js ms c)),
                  ),
                ),
              ),
            ),
          )
      go false q =
          let h = ltb-false k r.parts q in
          let few : r.parts < parts_most = omega (arith, h, room) in
          let a = absent book s (place_column ls) from end r fs is ls p e t g k found h in
          subst (Known (place_column ls')) (sym (with_new_law r k h))
          (subst (λ (ps : List ℕ). Known ps (with_new r)) (sym (w.new h)) (
            omega (arith, a.0),
            (
              omega (arith, a.0),
              (
                refl,
                (
                  refl,
                  (
                    fits_loops fs is ls ls' w.loops long _ (with_new r) (fits_more book s (place_column ls) from end r fs is ls p e t g k found h few inside),
                    λ q gs js ms c. step_new book s (place_column ls) from end r fs is ls p e t g k found h few inside q gs js ms (line_loops fs is ls ls' w.loops long book _ k (with_new r) q gs js ms c),
                  ),
                ),
              ),
            ),
          ))
