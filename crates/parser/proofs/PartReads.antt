-- A part's line as a step of the walk: what it makes of the parts, told of the whole reading. Assumes nothing.
use mathlib.Core.Path.{◌≡◌, refl, sym, ap, ap₂, subst, ◌∙◌}
use mathlib.Core.List.{List}
use Prim.Native.Nat.{ℕ, zero, suc, ◌+◌, ◌*◌, ◌-◌, ◌≤◌}
use native.Mathlib.Omega.{arith}
use lib.ListN.{length, take, drop, length-take}
use lib.Ieee.{Float}
use Rattle.lines.specs.Lines.{line_of}
use Rattle.lines.specs.Names.{between, names_in, place_among}
use Rattle.lines.specs.Tokens.{named_of}
use Rattle.sheet.specs.Refusals.{Outcome, going, refused}
use Rattle.sheet.proofs.Outcomes.{then_going, then_refused}
use Rattle.environment.specs.declared.environment.Environment.{Environment}
use Rattle.part.specs.Body.{Book}
use Rattle.part.specs.declared.state.State.{State}
use Rattle.tables.specs.Named.{macros_in}
use Rattle.part.specs.Columns.{book_in}
use Rattle.bank.specs.Bank.{lines_from}
use Rattle.parser.specs.declared.sofar.Sofar.{Sofar}
use Rattle.meaning.specs.Parts.{Played, line_played}
use Rattle.meaning.specs.Sheets.{Read, read_of, book_of, part_read}
use Rattle.parser.specs.Columns.{macro_column, name_column, release_column, place_column, Tables, tables_of, parts_from, read_in, Fits, Tabled, Begins, Goes, passed_to}
use Rattle.parser.specs.PartSteps.{body_at, BodyCame}
use Rattle.parser.proofs.PartStates.{Passed, played_in, played_outcome, Came}
use Rattle.parser.proofs.Pieces.{region_front}
use Rattle.parser.proofs.Going.{lined, goes_as, goes_ended, goes_on, fits_passed, tabled_as}

module _ (s places : List ℕ) (q : Sofar) (fs : List Float) (is ls : List ℕ) where
  played_going : q.refusal ≡ 0 → played_outcome s places q fs is ls ≡ going (played_in s places q fs is ls)
  unfolding played_outcome
  played_going e = rw (e, played_outcome)

  played_refused : (q.refusal ≡ 0 → ⊥) → played_outcome s places q fs is ls ≡ refused q.refusal q.line
  unfolding played_outcome
  played_refused n = go q.refusal refl
    where
      go : (k : ℕ) → q.refusal ≡ k → played_outcome s places q fs is ls ≡ refused q.refusal q.line
      go zero e = absurd (n e)
      go (suc k) e = rw (e, played_outcome)

-- ---- the tables as far as they are filled, as parts of their columns

-- the first releases
pub few_as : (xs : List Float) (n : ℕ) → n ≤ 32 → length (take (6144 + n - 6144) (drop 6144 xs)) ≤ 32
few_as xs n h = omega (arith, h, length-take (6144 + n - 6144) (drop 6144 xs))

-- the first places of names
pub first_places : (s name ls : List ℕ) (n k : ℕ) → n ≤ 16 → k ≡ place_among name (names_in s (take (256 + 2 * n - 256) (drop 256 ls)))
    → k ≡ place_among name (names_in s (take (2 * n) (place_column ls)))
first_places s name ls n k h e = e ∙ ap (λ (ps : List ℕ). place_among name (names_in s ps)) (region_front 32 8 ls 256 (2 * n) refl (omega (arith, h)))

-- a body that is read with what is lent of the columns
module _ (rate : ℕ) (s bs : List ℕ) (xs : List Float) (ss : List ℕ) (macros instruments : ℕ) (most : macros ≤ 64) (few : instruments + 1 ≤ 32) (line : ℕ) (text : List ℕ) (k : ℕ) (st q : State) (fs : List Float) (is ls : List ℕ) (gs : List Float) (js ns : List ℕ) where
  abbrev ReadBy : List ℕ → List ℕ → List Float → Type 0
  ReadBy ms names releases =
      BodyCame (body_at (book_in rate s ms (take (2 * macros) bs) names releases) line text k st fs is ls) k st q fs is ls gs js ns

  pub body_as : ReadBy (take (2048 + 2 * macros - 2048) (drop 2048 ss)) (take (2176 + 2 * instruments - 2176) (drop 2176 ss)) (take (6144 + (instruments + 1) - 6144) (drop 6144 xs))
      → ReadBy (take (2 * macros) (macro_column ss)) (take (2 * instruments) (name_column ss)) (take (instruments + 1) (release_column xs))
  body_as h =
      subst (λ (v : List Float). ReadBy (take (2 * macros) (macro_column ss)) (take (2 * instruments) (name_column ss)) v) (region_front 32 192 xs 6144 (instruments + 1) refl (omega (arith, few)))
      (subst (λ (v : List ℕ). ReadBy (take (2 * macros) (macro_column ss)) v (take (6144 + (instruments + 1) - 6144) (drop 6144 xs))) (region_front 64 34 ss 2176 (2 * instruments) refl (omega (arith, few)))
      (subst (λ (v : List ℕ). ReadBy v (take (2176 + 2 * instruments - 2176) (drop 2176 ss)) (take (6144 + (instruments + 1) - 6144) (drop 6144 xs))) (region_front 128 16 ss 2048 (2 * macros) refl (omega (arith, most))) h))

-- ---- the line

module _ (rate : ℕ) (s places : List ℕ) (r : Sofar) (fs : List Float) (is ls ms bs ns zs : List ℕ) (xs : List Float) (ss : List ℕ) (rs : List Float) (end next : ℕ) (b : Begins s r end next) (g : Tabled r (tables_of ms bs ns zs xs ss rs)) where
  abbrev tables : Tables
  tables = tables_of ms bs ns zs xs ss rs

  abbrev before : Read
  before = read_in s places r fs is ls tables

  abbrev text : List ℕ
  text = line_of (drop r.at s)

  abbrev book : Book
  book = book_in rate s (take (2 * r.macros) ms) (take (2 * r.macros) bs) (take (2 * r.instruments) ns) (take (r.instruments + 1) rs)

  abbrev said : Outcome Played
  said = line_played book r.start r.line (named_of (between s r.at end)) (played_in s places r fs is ls)

  same_book : book ≡ book_of rate before
  unfolding book_of read_in
  same_book =
      ap (λ (v : List Float). record { macros = macros_in s (take (2 * r.macros) ms) (take (2 * r.macros) bs); names = names_in s (take (2 * r.instruments) ns); releases = v; rate = rate }) g.releases

  says : said ≡ line_played (book_of rate before) r.start r.line (named_of text) (record { parts = before.parts; steps = before.steps })
  unfolding played_in read_in
  says =
      ap₂ (λ (k : Book) (l : List ℕ). line_played k r.start r.line (named_of l) (played_in s places r fs is ls)) same_book (lined s r end next b).line

  module _ (places' : List ℕ) (q : Sofar) (fs' : List Float) (is' ls' : List ℕ) (c : Came said s places' r q fs' is' ls') where
    abbrev after : Sofar
    after = passed_to q q.macros q.instruments (q.line + 1) next

    module _ (z : q.refusal ≡ 0) where
      now_fits : Fits places' after fs' is' ls'
      now_fits =
          let w = c.fits z in
          fits_passed _ _ _ _ _ _ _ _ _ w

      -- what has been read beside the parts is as before
      reading : Environment → ℕ → ℕ → Read
      reading e m i =
          read_of
          e
          (parts_from s places' q fs' is' ls' 0 q.parts)
          (macros_in s (take (2 * m) ms) (take (2 * m) bs))
          (names_in s (take (2 * i) ns))
          (lines_from zs xs ss 0 (i + 1))
          q.steps

      kept : reading r.start r.macros r.instruments ≡ reading q.start q.macros q.instruments
      kept =
          ap (λ (e : Environment). reading e r.macros r.instruments) (sym c.start)
          ∙ ap₂ (λ (m i : ℕ). reading q.start m i) (sym c.macros) (sym c.instruments)

      part_goes : Goes (part_read rate r.line (named_of text) before) 1 s places' r after fs' is' ls' tables
      unfolding part_read read_in played_in reading
      part_goes =
          goes_on s places' r fs' is' ls' tables after end next _ b z refl (ap (λ (l : ℕ). l + 1) (c.line z)) now_fits
          (tabled_as r after tables c.macros c.instruments g)
          (then_going (played_in s places' q fs' is' ls') _ _ (sym says ∙ sym c.means ∙ played_going s places' q fs' is' ls' z)
          ∙ ap going kept)

    -- a reading that goes on behind what has come of the line, or has its refusal
    pub part_passed : (t : Sofar) → Passed next q t → Goes (part_read rate r.line (named_of text) before) 1 s places' r t fs' is' ls' tables
    unfolding part_read read_in
    part_passed t p = go q.refusal refl
      where
        go : (n : ℕ) → q.refusal ≡ n → Goes (part_read rate r.line (named_of text) before) 1 s places' r t fs' is' ls' tables
        go zero e = goes_as _ _ s places' r t after fs' is' ls' tables (p.on e) (part_goes e)
        go (suc n) e =
            let no : q.refusal ≡ 0 → ⊥ = λ z. omega (arith, z, e) in
            let same = p.ended no in
            goes_ended s places' r fs' is' ls' tables t _ 1 (λ z. no (sym same.0 ∙ z))
            (then_refused t.refusal t.line _ _
            (sym says ∙ sym c.means ∙ played_refused s places' q fs' is' ls' no ∙ ap₂ (λ (a l : ℕ). refused a l) (sym same.0) (sym same.1)))
