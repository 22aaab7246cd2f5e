-- One more part, with the starting environment and nothing else: the parts are those from before and it, and a line for its name is a line for the part that
-- is there. Assumes nothing.
use mathlib.Core.Path.{◌≡◌, refl, sym, ap, ap₂, ◌∙◌}
use mathlib.Core.List.{List, [], ◌∷◌, ◌++◌}
use mathlib.Core.Option.{some}
use Prim.Native.Nat.{ℕ, ◌+◌, ◌*◌, ◌≤◌, ◌<◌}
use native.Mathlib.Omega.{arith}
use lib.ListN.{length, take, set, length-set}
use lib.Seq.{get_or-set_same, get_or-set_other}
use lib.Ieee.{Float}
use borrow.Author.Tests.{le-ltb}
use Rattle.lines.specs.Names.{between, names_in, place_among}
use Rattle.sheet.specs.Capacities.{parts_most, notes_most, loops_most}
use Rattle.environment.specs.declared.environment.Environment.{Environment}
use Rattle.environment.specs.Environment.{at_the_start}
use Rattle.part.specs.Body.{Book}
use Rattle.tables.specs.Tables.{with_entry}
use Rattle.parser.specs.declared.sofar.Sofar.{Sofar}
use Rattle.meaning.specs.Parts.{NamedPart, notes_of, line_played}
use Rattle.parser.specs.Columns.{part_at, parts_from, Fits, refused_at}
use Rattle.parser.proofs.PartStates.{with_new, called_as, LineCame, played_in, played_outcome, Came}
use Rattle.parser.proofs.NamedParts.{called_length, called_last, same_self, among_most, among_last, named_none, notes_last, fresh, line_of, line_new, line_full}
use Rattle.parser.proofs.PartPlaces.{element_set, parts_length, parts_last, parts_same, parts_called, notes_of_law}

-- ---- the place of a name among the parts

module _ (s places : List ℕ) (r : Sofar) (fs : List Float) (is ls : List ℕ) (g : Fits places r fs is ls) (name : List ℕ) where
  abbrev parts : List NamedPart
  parts = parts_from s places r fs is ls 0 r.parts

  pub place_is : place_among name (names_in s (take (2 * r.parts) places)) ≡ place_among name (called_as parts)
  place_is = ap (place_among name) (sym (parts_called s places r fs is ls 0 r.parts (omega (arith, g.few, g.places_length))))

  many : length parts ≡ r.parts
  many = parts_length s places r fs is ls 0 r.parts

  -- a name that is not found there is a new one
  pub place_new : (k : ℕ) → k ≡ place_among name (called_as parts) → r.parts ≤ k → (k ≡ r.parts) × (place_among name (called_as parts) ≡ length parts)
  place_new k e h =
      let m = among_most name (called_as parts) in
      let l = called_length parts in
      (omega (arith, e, h, m, l, many), omega (arith, e, h, m, l, many))

-- ---- one more

module _ (s places : List ℕ) (r : Sofar) (fs : List Float) (is ls : List ℕ) (g : Fits places r fs is ls) (few : r.parts < parts_most) (a b : ℕ) (name : List ℕ)
    (called : between s a b ≡ name) where
  abbrev more : List ℕ
  more = with_entry r.parts a b places

  abbrev old : List NamedPart
  old = parts_from s places r fs is ls 0 r.parts

  part_new : part_at s more (with_new r) fs is ls r.parts ≡ fresh r.start name
  unfolding part_at with_new with_entry
  part_new =
      rw (
        get_or-set_other (set places (2 * r.parts) a) (2 * r.parts + 1) (2 * r.parts) b 0 (omega arith),
        get_or-set_same places (2 * r.parts) a 0 (omega (arith, few, g.places_length)),
        get_or-set_same (set places (2 * r.parts) a) (2 * r.parts + 1) b 0 (omega (arith, few, g.places_length, length-set places (2 * r.parts) a)),
        get_or-set_same r.envs r.parts r.start at_the_start (omega (arith, few, g.envs_length)),
        get_or-set_same r.counts r.parts 0 0 (omega (arith, few, g.counts_length)),
        get_or-set_same r.depths r.parts 0 0 (omega (arith, few, g.depths_length)),
      )
      (ap (fresh r.start) called)

  part_old : (j : ℕ) → j < 0 + r.parts → part_at s more (with_new r) fs is ls j ≡ part_at s places r fs is ls j
  unfolding part_at with_new with_entry
  part_old j l =
      rw (
        get_or-set_other (set places (2 * r.parts) a) (2 * r.parts + 1) (2 * j) b 0 (omega (arith, l)),
        get_or-set_other places (2 * r.parts) (2 * j) a 0 (omega (arith, l)),
        get_or-set_other (set places (2 * r.parts) a) (2 * r.parts + 1) (2 * j + 1) b 0 (omega (arith, l)),
        get_or-set_other places (2 * r.parts) (2 * j + 1) a 0 (omega (arith, l)),
        get_or-set_other r.envs r.parts j r.start at_the_start (omega (arith, l)),
        get_or-set_other r.counts r.parts j 0 0 (omega (arith, l)),
        get_or-set_other r.depths r.parts j 0 0 (omega (arith, l)),
      )
      refl

  parts_new : parts_from s more (with_new r) fs is ls 0 (r.parts + 1) ≡ old ++ (fresh r.start name ∷ [])
  parts_new =
      parts_last s more (with_new r) fs is ls r.parts
      ∙ ap₂ (λ (ps : List NamedPart) (p : NamedPart). ps ++ (p ∷ [])) (parts_same s places r fs is ls more (with_new r) fs is ls 0 r.parts part_old) part_new

  pub fits_new : Fits more (with_new r) fs is ls
  unfolding with_new with_entry
  fits_new =
      let t = ap length (notes_of_law s places r fs is ls 0 r.parts) in
      let u = ap length (notes_of_law s more (with_new r) fs is ls 0 (r.parts + 1)) in
      let v = ap (λ (ps : List NamedPart). length (notes_of ps)) parts_new in
      let w = ap length (notes_last old (fresh r.start name) refl) in
      record {
        few = omega (arith, few);
        start = g.start;
        octaves = λ j l.
            element_set (λ (e : Environment). e.octave ≤ 8) r.envs r.parts r.start at_the_start (omega (arith, few, g.envs_length)) g.start j
            (λ n. g.octaves j (omega (arith, l, n)));
        counts = λ j l.
            element_set (λ (i : ℕ). i ≤ notes_most) r.counts r.parts 0 0 (omega (arith, few, g.counts_length)) (omega arith) j
            (λ n. g.counts j (omega (arith, l, n)));
        depths = λ j l.
            element_set (λ (i : ℕ). i ≤ loops_most) r.depths r.parts 0 0 (omega (arith, few, g.depths_length)) (omega arith) j
            (λ n. g.depths j (omega (arith, l, n)));
        all = g.all ∙ sym t ∙ sym w ∙ sym v ∙ u;
        notes = g.notes;
        envs_length = length-set r.envs r.parts r.start ∙ g.envs_length;
        counts_length = length-set r.counts r.parts 0 ∙ g.counts_length;
        depths_length = length-set r.depths r.parts 0 ∙ g.depths_length;
        places_length = length-set (set places (2 * r.parts) a) (2 * r.parts + 1) b ∙ length-set places (2 * r.parts) a ∙ g.places_length;
        floats_length = g.floats_length;
        bytes_length = g.bytes_length;
        loops_length = g.loops_length;
      }

  -- ---- the line of its name

  module _ (book : Book) (text : List ℕ) (absent : place_among name (called_as old) ≡ length old) where
    named_new : r.parts ≡ place_among name (called_as (parts_from s more (with_new r) fs is ls 0 (r.parts + 1)))
    named_new =
        let l = called_length old in
        let m = parts_length s places r fs is ls 0 r.parts in
        let z = among_last name name (called_as old) (same_self name) (absent ∙ sym l) in
        sym (ap (λ (ps : List NamedPart). place_among name (called_as ps)) parts_new ∙ ap (place_among name) (called_last old (fresh r.start name)) ∙ z ∙ l ∙ m)

    line_is : line_of book r.start r.line name text old r.steps
        ≡ line_of book r.start r.line name text (parts_from s more (with_new r) fs is ls 0 (r.parts + 1)) r.steps
    line_is =
        line_new book r.start r.line name text old r.steps absent (omega (arith, few, parts_length s places r fs is ls 0 r.parts))
        ∙ ap (λ (ps : List NamedPart). line_of book r.start r.line name text ps r.steps) (sym parts_new)

    pub came_new : (q : Sofar) (gs : List Float) (js ms : List ℕ) → LineCame book text r.parts (with_new r) q fs is ls gs js ms
        → Came (line_played book r.start r.line (some (record { name = name; body = text })) (played_in s places r fs is ls)) s more r q gs js ms
    unfolding played_in with_new
    came_new q gs js ms f =
        let c = f s more name fits_new named_new in
        record {
          means = c.means ∙ sym line_is;
          fits = c.fits;
          start = c.start;
          macros = c.macros;
          instruments = c.instruments;
          at = c.at;
          line = c.line;
        }

-- ---- no more

module _ (s places : List ℕ) (r : Sofar) (fs : List Float) (is ls : List ℕ) (g : Fits places r fs is ls) (name : List ℕ) (book : Book) (text : List ℕ) where
  pub came_full : parts_most ≤ r.parts → place_among name (called_as (parts s places r fs is ls g name)) ≡ length (parts s places r fs is ls g name)
      → Came (line_played book r.start r.line (some (record { name = name; body = text })) (played_in s places r fs is ls)) s places r (refused_at r 21 r.line) fs is ls
  unfolding played_in played_outcome
  came_full h absent =
      let ps = parts_from s places r fs is ls 0 r.parts in
      record {
        means = sym
            (line_full book r.start r.line name text ps r.steps (named_none name (fresh r.start name) (same_self name) ps absent).0
            (le-ltb (length ps) parts_most (omega (arith, h, parts_length s places r fs is ls 0 r.parts))));
        fits = λ e. absurd (omega (arith, e));
        start = refl;
        macros = refl;
        instruments = refl;
        at = refl;
        line = λ e. absurd (omega (arith, e));
      }
