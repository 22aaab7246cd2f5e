-- A part's line as the walk reads it: what its steps ask, and the reading behind it, which is changed in its place. Assumes nothing.
use mathlib.Core.Path.{◌≡◌, refl, sym, ap, subst, ◌∙◌}
use mathlib.Core.Bool.{Bool, true, false}
use mathlib.Core.List.{List}
use Prim.Native.Nat.{ℕ, ◌+◌, ◌*◌, ◌-◌, ◌≤◌, ◌<◌, max}
use native.Mathlib.Nat.{le_of_eq}
use native.Mathlib.Omega.{arith}
use lib.Dec.{ltb}
use lib.ListN.{length, take, drop, get_or, set, length-drop}
use lib.Seq.{take_all}
use lib.Ieee.{Float}
use borrow.Author.Tests.{ltb-true, ltb-false}
use Rattle.lines.specs.declared.names.NameAt.{NameAt}
use Rattle.lines.specs.Lines.{lines_of, line_of}
use Rattle.lines.specs.Names.{between}
use Rattle.lines.specs.Tokens.{name_at}
use Rattle.lines.proofs.Places.{between_rest}
use Rattle.environment.specs.declared.environment.Environment.{Environment}
use Rattle.part.specs.declared.state.State.{State}
use Rattle.part.specs.Body.{Book}
use Rattle.part.specs.Columns.{book_in}
use Rattle.meaning.specs.Sheets.{kind_of, taken_by, line_read}
use Rattle.strict.specs.declared.mode.Mode.{Mode}
use Rattle.parser.specs.declared.parts.Parted.{Parted}
use Rattle.parser.specs.declared.sofar.Sofar.{Sofar}
use Rattle.parser.specs.Columns.{Tables, macro_column, name_column, release_column, place_column, tables_in, read_in, Fits, Tabled, Begins, Goes, refused_at}
use Rattle.parser.specs.PartSteps.{state_from, OfPart, NamedAt, ReadyAt, body_at, BodyCame}
use Rattle.parser.proofs.PartStates.{state_of, stored_as, with_part, Passed}
use Rattle.parser.proofs.Going.{lined}
use Rattle.parser.proofs.LineKinds.{part_stepped}
use Rattle.parser.proofs.PartWays.{Gone, way_full, way_asks, way_played}
use Rattle.parser.proofs.Playing.{state_ready}
use Rattle.parser.proofs.Storing.{state_asks, state_known, state_new, from_known, from_new, stored_refuses, stored_known, stored_new, line_passes}

-- ---- the state

module _ (r : Sofar) (k : ℕ) (d : Environment) (m : k ≤ r.parts) (few : k < 16) (le : length r.envs ≡ 16) (lc : length r.counts ≡ 16) (ld : length r.depths ≡ 16) where
  -- what the walk hands to `state_of` is the part's state
  pub state_from_law : state_from k r.parts (get_or r.envs k d) (get_or r.counts k 0) (get_or r.depths k 0) r.start r.all r.steps ≡ state_of (with_part r k) k
  state_from_law = go (ltb k r.parts) refl
    where
      go : (b : Bool) → ltb k r.parts ≡ b
          → state_from k r.parts (get_or r.envs k d) (get_or r.counts k 0) (get_or r.depths k 0) r.start r.all r.steps ≡ state_of (with_part r k) k
      go true e =
          let h = ltb-true k r.parts e in
          sym (from_known k r.parts (get_or r.envs k d) (get_or r.counts k 0) (get_or r.depths k 0) r.start r.all r.steps h)
          ∙ state_known r k d h (omega (arith, few, le))
      go false e =
          let h = ltb-false k r.parts e in
          sym (from_new k r.parts (get_or r.envs k d) (get_or r.counts k 0) (get_or r.depths k 0) r.start r.all r.steps h)
          ∙ state_new r k h m few le lc ld

-- ---- what is stored

module _ (next : ℕ) (r : Sofar) (k : ℕ) (st : State) where
  abbrev pub stored : ℕ → Sofar
  stored parts =
      record {
        start = r.start;
        parts = parts;
        envs = set r.envs k st.env;
        counts = set r.counts k st.count;
        depths = set r.depths k st.depth;
        all = st.others + st.count;
        macros = r.macros;
        instruments = r.instruments;
        steps = st.steps;
        refusal = r.refusal;
        line = r.line + 1;
        at = next;
      }

  module _ (goes : r.refusal ≡ 0) (z : st.refusal ≡ 0) (m : k ≤ r.parts) where
    -- the parts are as many as before, or one more
    pub stored_grown : Passed next (stored_as (with_part r k) k st) (stored (max r.parts (k + 1)))
    stored_grown = go (ltb k r.parts) refl
      where
        grown : (n : ℕ) → n ≡ max r.parts (k + 1) → Passed next (stored_as (with_part r k) k st) (stored n) → Passed next (stored_as (with_part r k) k st) (stored (max r.parts (k + 1)))
        grown n e h = subst (λ (x : ℕ). Passed next (stored_as (with_part r k) k st) (stored x)) e h

        go : (b : Bool) → ltb k r.parts ≡ b → Passed next (stored_as (with_part r k) k st) (stored (max r.parts (k + 1)))
        go true e =
            let h = ltb-true k r.parts e in
            grown r.parts (omega (arith, h)) (stored_known next r k st goes z h)
        go false e =
            let h = ltb-false k r.parts e in
            grown (k + 1) (omega (arith, h)) (stored_new next r k st goes z h m)

-- ---- the line

module _ (rate : ℕ) (s bs : List ℕ) (xs : List Float) (ss : List ℕ) (r : Sofar) (fs : List Float) (is ls : List ℕ) (end next : ℕ) (b : Begins s r end next) (g : Fits (place_column ls) r fs is ls) (t : Tabled r (tables_in bs xs ss)) (p : Parted) (o : OfPart s r.at end r.parts p ls) where
  abbrev l : List ℕ
  l = between s r.at end

  abbrev name : NameAt
  name = name_at l

  abbrev k : ℕ
  k = p.place

  abbrev tables : Tables
  tables = tables_in bs xs ss

  abbrev book : Book
  book = book_in rate s (take (2 * r.macros) (macro_column ss)) (take (2 * r.macros) bs) (take (2 * r.instruments) (name_column ss)) (take (r.instruments + 1) (release_column xs))

  -- in either mode, since nothing in a body is strict
  abbrev pub Walked : Mode → Sofar → List Float → List ℕ → List ℕ → Type 0
  Walked mode q fs' is' ls' =
      Goes (line_read mode rate (kind_of (line_of (drop r.at s))) r.line (line_of (drop r.at s)) (lines_of (drop next s)) (read_in s (place_column ls) r fs is ls tables)) (1 + taken_by (kind_of (line_of (drop r.at s))) (lines_of (drop next s))) s (place_column ls') r q fs' is' ls' tables

  walked : (mode : Mode) (q : Sofar) (fs' : List Float) (is' ls' : List ℕ) → Gone rate s bs xs ss r fs is ls end next b g t name refl (place_column ls') q fs' is' ls' → Walked mode q fs' is' ls'
  walked mode q fs' is' ls' =
      part_stepped mode rate s (place_column ls) r fs is ls tables next (place_column ls') q fs' is' ls' tables (ap kind_of (sym (lined s r end next b).line) ∙ o.kind)

  -- there is no room for the part
  pub full_walked : 16 ≤ k → (q : Sofar) → q ≡ refused_at r 21 r.line → (mode : Mode) → Walked mode q fs is ls
  full_walked h q e mode = walked mode q fs is ls (way_full rate s bs xs ss r fs is ls end next b g t name refl o.two k o.place h q e)

  module _ (room : k < 16) (ls' : List ℕ) (w : NamedAt k r.parts p.from p.end ls ls') (long : length ls' ≡ length ls) where
    named_at : NamedAt k r.parts (r.at + name.from) (r.at + name.end) ls ls'
    named_at =
        subst (λ (i : ℕ). NamedAt k r.parts (r.at + name.from) i ls ls') o.ends
        (subst (λ (i : ℕ). NamedAt k r.parts i p.end ls ls') o.begins w)

    asked : (k ≤ r.parts)
        × ((r.refusal ≡ 0)
        × ((r.line ≤ 2000000)
        × ((k < (with_part r k).parts) × (Fits (place_column ls') (with_part r k) fs is ls' × Tabled r tables))))
    asked = way_asks rate s bs xs ss r fs is ls end next b g t name refl o.two k o.place room ls' named_at long

    -- the part is there, or is the next one; what it has fits its place in the arrays, and its notes are among all
    pub part_there : (k ≤ r.parts) × ((k < 16) × ((length r.envs ≡ 16) × ((length r.counts ≡ 16) × ((length r.depths ≡ 16) × (k < r.parts → get_or r.counts k 0 ≤ r.all)))))
    part_there = state_asks r k (place_column ls') fs is ls' asked.0 asked.1.1.1.0 asked.1.1.1.1.0

    module _ (d : Environment) (st : State) (e : st ≡ state_from k r.parts (get_or r.envs k d) (get_or r.counts k 0) (get_or r.depths k 0) r.start r.all r.steps) where
      its_state : st ≡ state_of (with_part r k) k
      its_state =
          let q = part_there in
          e ∙ state_from_law r k d q.0 q.1.0 q.1.1.0 q.1.1.1.0 q.1.1.1.1.0

      pub state_fits : ReadyAt k st fs is ls'
      state_fits =
          subst (λ (x : State). ReadyAt k x fs is ls') (sym its_state)
          (state_ready (place_column ls') (with_part r k) fs is ls' asked.1.1.1.1.0 k asked.1.1.1.0)

      -- the body is what follows the name
      body_is : between s p.end end ≡ take (length l - name.end) (drop name.end l)
      body_is =
          ap (λ (i : ℕ). between s i end) o.ends ∙ sym (between_rest s r.at end name.end)
          ∙ sym (take_all (length l - name.end) (drop name.end l) (le_of_eq (length-drop name.end l)))

      module _ (q : State) (gs : List Float) (js ms : List ℕ) (c : BodyCame (body_at book r.line (between s p.end end) k st fs is ls') k st q fs is ls' gs js ms) (kept : place_column ms ≡ place_column ls') where
        behind : (u : Sofar) → Passed next (stored_as (with_part r k) k q) u → (mode : Mode) → Walked mode u gs js ms
        behind u h mode =
            walked mode u gs js ms
            (way_played rate s bs xs ss r fs is ls end next b g t name refl o.two k o.place room ls' named_at long u gs js ms
            (line_passes r k book (take (length l - name.end) (drop name.end l)) next fs is ls' gs js ms asked.1.1.1.0 asked.1.0 st its_state q
            (subst (λ (x : List ℕ). BodyCame (body_at book r.line x k st fs is ls') k st q fs is ls' gs js ms) body_is c) u h kept))

        -- its refusal
        pub refused_walked : (q.refusal ≡ 0 → ⊥) → (u : Sofar) → u ≡ refused_at r q.refusal q.line → (mode : Mode) → Walked mode u gs js ms
        refused_walked n u f = behind u (subst (λ (x : Sofar). Passed next (stored_as (with_part r k) k q) x) (sym f) (stored_refuses next r k q n))

        -- the reading with what has come of it
        pub stored_walked : (z : q.refusal ≡ 0) (n : ℕ) → n ≡ max r.parts (k + 1) → (mode : Mode) → Walked mode (stored next r k q n) gs js ms
        stored_walked z n f mode =
            subst (λ (x : ℕ). Walked mode (stored next r k q x) gs js ms) (sym f)
            (behind (stored next r k q (max r.parts (k + 1))) (stored_grown next r k q asked.1.0 z asked.0) mode)
