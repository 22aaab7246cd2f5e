-- A macro's line: "Macro line: 5, 4, 21.", and one macro more in the tables. Assumes nothing.
use mathlib.Core.Path.{◌≡◌, refl, sym, ap, ap₂, subst, ◌∙◌}
use mathlib.Core.List.{List, map}
use Prim.Native.Nat.{ℕ, ◌+◌, ◌*◌, ◌≤◌, ◌<◌}
use native.Mathlib.Omega.{arith}
use lib.ListN.{length, take, drop, get_or}
use lib.Ieee.{Float}
use borrow.Author.Tests.{le-leb, eq-eqb, ltb-true}
use Rattle.lines.specs.Lines.{line_of}
use Rattle.lines.specs.Names.{names_in}
use Rattle.tree.specs.Lines.{Line, release_of}
use Rattle.commands.specs.Commands.{lines_held}
use Rattle.layout.specs.Regions.{region}
use Rattle.bank.specs.Bank.{lines_at, lines_from}
use Rattle.layout.proofs.Regions.{lent, back, lent_region, region_wide, back_here}
use Rattle.sheet.specs.Capacities.{macros_most}
use Rattle.sheet.specs.Refusals.{Outcome, going, refused}
use Rattle.sheet.proofs.Holds.{Holds, holds_going, holds_of, holds_unless, holds_after}
use Rattle.sheet.proofs.Outcomes.{then_going, then_refused}
use Rattle.tables.specs.Named.{Macro, macros_in}
use Rattle.tables.specs.Tables.{macro_of, macro_line, number_of, names_after, bodies_after}
use Rattle.tables.proofs.MacrosGrown.{macros_grown}
use Rattle.tables.proofs.Taken.{macros_many}
use Rattle.parser.specs.declared.sofar.Sofar.{Sofar}
use Rattle.meaning.specs.Sheets.{Read, read_of, macro_read}
use Rattle.parser.specs.Columns.{tables_of, macro_column, name_column, size_column, release_column, tables_in, parts_from, read_in, Fits, Tabled, Begins, Goes, refused_at, passed_to}
use Rattle.parser.proofs.Numbers.{At, macro_at_law, at_refused, at_number, number_of_law}
use Rattle.parser.proofs.Going.{lined, read_going, goes_refused, goes_on, fits_passed}
use Rattle.parser.proofs.Headers.{lines_same}
use Rattle.parser.proofs.Pieces.{before_lent, after_lent, back_long}

-- the line is one of fewer than 64
few_macros : (line : ℕ) (l : List ℕ) (ms : List Macro) → Holds (λ (m : Macro). length ms < macros_most) (macro_of line l ms)
unfolding macro_of
few_macros line l ms =
    holds_after _ _ _ (λ n. holds_unless _ _ _ _ _ (λ a. holds_unless _ _ _ _ _ (λ b. holds_going (λ (m : Macro). length ms < macros_most) _ (ltb-true _ _ b))))

module _ (s places : List ℕ) (r : Sofar) (fs : List Float) (is ls ms bs ns zs : List ℕ) (xs : List Float) (ss : List ℕ) (rs : List Float) (end next n : ℕ) (b : Begins s r end next) (w : Fits places r fs is ls) (g : Tabled r (tables_of ms bs ns zs xs ss rs)) where
  abbrev line : ℕ
  line = r.line

  abbrev outcome : Outcome Macro
  outcome = macro_line line s r.at end r.macros ms bs

  abbrev known : List Macro
  known = macros_in s (take (2 * r.macros) ms) (take (2 * r.macros) bs)

  abbrev before : Read
  before = read_in s places r fs is ls (tables_of ms bs ns zs xs ss rs)

  abbrev text : List ℕ
  text = line_of (drop r.at s)

  says : outcome ≡ macro_of line text known
  unfolding macro_line
  says =
      rw (le-leb r.macros 64 g.macros_few, eq-eqb (length ms) 128 g.macros_length, eq-eqb (length bs) 128 g.bodies_length, macro_line)
      (ap (λ (l : List ℕ). macro_of line l known) (lined s r end next b).line)

  macro_refused : n ≡ number_of outcome → (n ≡ 0 → ⊥) → macro_read line text before ≡ refused n line
  unfolding macro_read read_in
  macro_refused e z =
      let e' : n ≡ number_of (macro_of line text known) = e ∙ ap number_of says in
      then_refused n line (macro_of line text known) _
      (at_refused line (macro_of line text known) (macro_at_law line text known) (λ y. z (e' ∙ y)) ∙ ap (λ (k : ℕ). refused k line) (sym e'))

  module _ (ms' bs' : List ℕ) (lm : length ms' ≡ length ms) (lb : length bs' ≡ length bs) (e : n ≡ number_of outcome) (z : n ≡ 0) (em : ms' ≡ names_after outcome s r.at end r.macros ms) (eb : bs' ≡ bodies_after outcome line s end r.macros bs) where
    abbrev after : Sofar
    after = passed_to r (r.macros + 1) r.instruments (line + 1) next

    abbrev Goal : Type 0
    Goal = Goes (macro_read line text before) 1 s places r after fs is ls (tables_of ms' bs' ns zs xs ss rs)

    goes_with : (m : Macro) → macro_of line text known ≡ going m → Goal
    unfolding macro_read read_in
    goes_with m q =
        let few : r.macros < 64 = omega (arith, macros_many s ms bs r.macros (omega (arith, g.macros_few, g.macros_length)) (omega (arith, g.macros_few, g.bodies_length)), holds_of _ m (subst (Holds (λ (x : Macro). length known < macros_most)) q (few_macros line text known))) in
        let grown =
        ap₂ (λ (x y : List ℕ). macros_in s (take (2 * (r.macros + 1)) x) (take (2 * (r.macros + 1)) y)) em eb
        ∙ macros_grown line s r.at end r.macros ms bs m (says ∙ q) in
        goes_on s places r fs is ls _ after end next _ b b.goes refl refl
        (fits_passed _ _ _ _ _ _ _ _ _ w)
        (record {
          macros_few = omega (arith, few);
          instruments_few = g.instruments_few;
          macros_length = lm ∙ g.macros_length;
          bodies_length = lb ∙ g.bodies_length;
          names_length = g.names_length;
          sizes_length = g.sizes_length;
          numbers_length = g.numbers_length;
          shape_length = g.shape_length;
          releases_length = g.releases_length;
          releases = g.releases;
        })
        (then_going m (macro_of line text known) _ q
        ∙ ap (λ (ks : List Macro). going (read_of r.start before.parts ks before.names before.instruments r.steps)) (sym grown))

    pick : (o : Outcome Macro) → macro_of line text known ≡ o → Goal
    pick (going m) q = goes_with m q
    pick (refused k l) q =
        let k0 : number_of outcome ≡ k = number_of_law outcome k l (says ∙ q) in
        absurd (omega (arith, at_number Macro line k l (subst (At line) q (macro_at_law line text known)), z, e, k0))

    macro_goes : Goal
    macro_goes = pick (macro_of line text known) refl

-- ---- the macros' names in their column

-- a column of shapes that is the same where operator lines stand serves as well
module _ (s places : List ℕ) (r q : Sofar) (fs : List Float) (is ls ms bs ns zs : List ℕ) (xs : List Float) (ss : List ℕ) (rs : List Float) (ss' : List ℕ)
    (same : (j : ℕ) → j < 32 → region 64 j ss' ≡ region 64 j ss) (long : length ss' ≡ length ss) where
  lines_as : q.instruments + 1 ≤ 32 → lines_from zs xs ss 0 (q.instruments + 1) ≡ lines_from zs xs ss' 0 (q.instruments + 1)
  unfolding lines_at
  lines_as h =
      lines_same zs xs ss zs xs ss' (q.instruments + 1) 0
      (λ j l. ap (λ (c : List ℕ). lines_held (get_or zs j 0) (region 192 j xs) c) (sym (same j (omega (arith, l, h)))))

  tabled_shape : Tabled q (tables_of ms bs ns zs xs ss rs) → Tabled q (tables_of ms bs ns zs xs ss' rs)
  tabled_shape g =
      record {
        macros_few = g.macros_few;
        instruments_few = g.instruments_few;
        macros_length = g.macros_length;
        bodies_length = g.bodies_length;
        names_length = g.names_length;
        sizes_length = g.sizes_length;
        numbers_length = g.numbers_length;
        shape_length = long ∙ g.shape_length;
        releases_length = g.releases_length;
        releases = g.releases ∙ ap (map release_of) (lines_as g.instruments_few);
      }

  pub goes_shape : (o : Outcome Read) → q.refusal ≡ 0 → Goes o 1 s places r q fs is ls (tables_of ms bs ns zs xs ss rs) → Goes o 1 s places r q fs is ls (tables_of ms bs ns zs xs ss' rs)
  unfolding read_in
  goes_shape o z g =
      record {
        means =
            read_going s places q fs is ls (tables_of ms bs ns zs xs ss' rs) z
            ∙ ap (λ (l : List (List Line)). going (read_of q.start (parts_from s places q fs is ls 0 q.parts) (macros_in s (take (2 * q.macros) ms) (take (2 * q.macros) bs)) (names_in s (take (2 * q.instruments) ns)) l q.steps))
            (sym (lines_as (g.tabled z).instruments_few))
            ∙ sym (read_going s places q fs is ls (tables_of ms bs ns zs xs ss rs) z)
            ∙ g.means;
        fits = g.fits;
        tabled = λ y. tabled_shape (g.tabled y);
        lines = g.lines;
        line = g.line;
        few = g.few;
        onward = g.onward;
      }

-- the names are lent, and what comes back is as long
module _ (ss : List ℕ) (ls : length ss ≡ 2272) where
  room : 128 * 16 + 128 ≤ length ss
  room = omega (arith, ls)

  pub macros_back : (ys : List ℕ) → length ys ≡ length (lent 128 16 ss) → length (back 128 16 ss ys) ≡ length ss
  macros_back ys h = back_long 128 16 ss ys room h

module _ (s places : List ℕ) (r : Sofar) (fs : List Float) (is ls bs : List ℕ) (xs : List Float) (ss : List ℕ) (end next n : ℕ) (b : Begins s r end next) (w : Fits places r fs is ls) (g : Tabled r (tables_in bs xs ss))
    (ys cs : List ℕ) (e : n ≡ number_of (macro_line r.line s r.at end r.macros (lent 128 16 ss) bs)) where
  abbrev said : Outcome Read
  said = macro_read r.line (line_of (drop r.at s)) (read_in s places r fs is ls (tables_in bs xs ss))

  abbrev Came : Sofar → List ℕ → List ℕ → Type 0
  Came q us ts = Goes said 1 s places r q fs is ls (tables_in us xs ts)

  told : n ≡ number_of (macro_line r.line s r.at end r.macros (macro_column ss) bs)
  unfolding region
  told = e

  pub column_refuses : (ts : List ℕ) → (n ≡ 0 → ⊥) → Came (refused_at r n r.line) cs ts
  column_refuses ts z =
      goes_refused s places r fs is ls _ _ 1 n r.line z (macro_refused s places r fs is ls (macro_column ss) bs (name_column ss) (size_column ss) xs ss (release_column xs) end next n b w g told z)

  module _ (long : length ys ≡ length (lent 128 16 ss)) (lb : length cs ≡ length bs) (z : n ≡ 0)
      (em : ys ≡ names_after (macro_line r.line s r.at end r.macros (lent 128 16 ss) bs) s r.at end r.macros (lent 128 16 ss))
      (eb : cs ≡ bodies_after (macro_line r.line s r.at end r.macros (lent 128 16 ss) bs) r.line s end r.macros bs) where
    wide : 128 * 16 + 128 ≤ length ss
    wide = room ss g.shape_length

    as_long : length ys ≡ 128
    as_long = long ∙ ap length (lent_region 128 16 ss) ∙ region_wide 128 16 ss wide

    abbrev ts : List ℕ
    ts = back 128 16 ss ys

    here : macro_column ts ≡ ys
    here = back_here 128 16 ss ys wide as_long

    em' : macro_column ts ≡ names_after (macro_line r.line s r.at end r.macros (macro_column ss) bs) s r.at end r.macros (macro_column ss)
    unfolding region
    em' = here ∙ em

    eb' : cs ≡ bodies_after (macro_line r.line s r.at end r.macros (macro_column ss) bs) r.line s end r.macros bs
    unfolding region
    eb' = eb

    pub column_goes : Came (passed_to r (r.macros + 1) r.instruments (r.line + 1) next) cs ts
    column_goes =
        subst (λ (v : List ℕ). Goes said 1 s places r (passed_to r (r.macros + 1) r.instruments (r.line + 1) next) fs is ls (tables_of (macro_column ts) cs (name_column ts) v xs ts (release_column xs)))
        (sym (after_lent 128 16 ss ys wide as_long 32 70 (omega arith)))
        (subst (λ (v : List ℕ). Goes said 1 s places r (passed_to r (r.macros + 1) r.instruments (r.line + 1) next) fs is ls (tables_of (macro_column ts) cs v (size_column ss) xs ts (release_column xs)))
        (sym (after_lent 128 16 ss ys wide as_long 64 34 (omega arith)))
        (goes_shape s places r (passed_to r (r.macros + 1) r.instruments (r.line + 1) next) fs is ls (macro_column ts) cs (name_column ss) (size_column ss) xs ss (release_column xs) ts
        (λ j l. before_lent 128 16 ss ys wide as_long 64 j (omega (arith, l))) (macros_back ss g.shape_length ys long)
        said b.goes
        (macro_goes s places r fs is ls (macro_column ss) bs (name_column ss) (size_column ss) xs ss (release_column xs) end next n b w g (macro_column ts) cs
        (ap length here ∙ long ∙ ap length (lent_region 128 16 ss)) lb told z em' eb')))
