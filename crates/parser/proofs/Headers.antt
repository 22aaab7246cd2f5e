-- An instrument's header: "Instrument header: 3, 21.", then the refusals of its operator lines, and one instrument more in the tables and columns. Assumes
-- nothing.
use mathlib.Core.Path.{◌≡◌, refl, sym, ap, ap₂, subst, ◌∙◌}
use mathlib.Core.List.{List, [], ◌∷◌, ◌++◌, map}
use mathlib.Core.Option.{none}
use Prim.Native.Nat.{ℕ, zero, suc, ◌+◌, ◌*◌, ◌≤◌, ◌<◌}
use native.Mathlib.Nat.{add-zero}
use native.Mathlib.Numerals.{add-one}
use native.Mathlib.Omega.{arith}
use lib.ListN.{length, take, drop, set, get_or, length-set}
use lib.Seq.{take-suc, take-set-le, get_or-set_same, get_or-set_other}
use lib.Ieee.{Float, nan}
use borrow.Author.Tests.{le-leb, eq-eqb, ltb-true}
use Rattle.lines.specs.Lines.{lines_of, line_of}
use Rattle.tree.specs.Lines.{Line, release_of}
use Rattle.sheet.specs.Capacities.{instruments_most}
use Rattle.sheet.specs.Refusals.{Outcome, going, refused}
use Rattle.sheet.proofs.Holds.{Holds, holds_going, holds_of, holds_unless}
use Rattle.sheet.proofs.Outcomes.{then_going, then_refused}
use Rattle.blocks.specs.declared.block.Block.{Block}
use Rattle.operators.specs.OperatorLines.{operator_lines, operators_read}
use Rattle.blocks.specs.Blocks.{lines_in, block_outcome}
use Rattle.commands.specs.Commands.{lines_held}
use Rattle.layout.specs.Regions.{region}
use Rattle.bank.specs.Bank.{lines_at, lines_from}
use Rattle.blocks.proofs.Kept.{lines_length}
use Rattle.layout.proofs.Regions.{lent, back, lent_region, region_wide, back_length, back_here, back_beside}
use Rattle.lines.specs.Names.{names_in}
use Rattle.std.specs.Prelude.{None, Some}
use Rattle.sheet.specs.declared.refusal.Refusal.{Refusal}
use Rattle.sheet.specs.Numbers.{number_of as refusal_number}
use Rattle.tables.specs.Tables.{header_of, header_line, number_of, headers_after}
use Rattle.tables.proofs.NamesGrown.{names_grown}
use Rattle.tables.proofs.Taken.{names_many}
use Rattle.strict.specs.declared.mode.Mode.{Mode}
use Rattle.parser.specs.declared.sofar.Sofar.{Sofar}
use Rattle.meaning.specs.Sheets.{Read, read_of, header_read}
use Rattle.parser.specs.Columns.{Tables, tables_of, macro_column, name_column, size_column, release_column, tables_in, read_in, Fits, Tabled, Begins, Goes, Blocked, Kept, refused_at, passed_to}
use Rattle.parser.proofs.Numbers.{At, refusal_some, header_at, at_refused, at_number, number_of_law}
use Rattle.parser.proofs.Going.{lined, read_going, goes_refused, fits_passed}
use Rattle.parser.proofs.Pieces.{before_lent, after_lent}
use Rattle.parser.proofs.ReadLines.{OfLines, all_of_lines, held_whole}

-- ---- instruments in their regions

-- the last of some instruments behind the others
lines_snoc : (zs : List ℕ) (fs : List Float) (ss : List ℕ) (n k : ℕ) → lines_from zs fs ss k (suc n) ≡ lines_from zs fs ss k n ++ (lines_at zs fs ss (k + n) ∷ [])
unfolding lines_from
lines_snoc zs fs ss zero k = ap (λ (j : ℕ). lines_at zs fs ss j ∷ []) (sym (add-zero k))
lines_snoc zs fs ss (suc n) k =
    ap (λ (ls : List (List Line)). lines_at zs fs ss k ∷ ls)
    (lines_snoc zs fs ss n (k + 1)
    ∙ ap (λ (j : ℕ). lines_from zs fs ss (k + 1) n ++ (lines_at zs fs ss j ∷ [])) (let z : k + 1 + n ≡ k + suc n = omega arith in z))

-- only the lines of these instruments matter
pub lines_same : (zs : List ℕ) (fs : List Float) (ss zs' : List ℕ) (fs' : List Float) (ss' : List ℕ) (n k : ℕ)
    → ((j : ℕ) → j < k + n → lines_at zs fs ss j ≡ lines_at zs' fs' ss' j) → lines_from zs fs ss k n ≡ lines_from zs' fs' ss' k n
unfolding lines_from
lines_same zs fs ss zs' fs' ss' zero k h = refl
lines_same zs fs ss zs' fs' ss' (suc n) k h =
    ap₂ (λ (l : List Line) (ls : List (List Line)). l ∷ ls) (h k (omega arith)) (lines_same zs fs ss zs' fs' ss' n (k + 1) (λ j l. h j (omega (arith, l))))

-- a release behind the others
release_last : (rs : List Float) (i : ℕ) (x : Float) → i < length rs → take (i + 1) (set rs i x) ≡ take i rs ++ (x ∷ [])
release_last rs i x h =
    ap (λ (n : ℕ). take n (set rs i x)) (add-one i)
    ∙ take-suc (set rs i x) i nan (omega (arith, h, length-set rs i x))
    ∙ ap₂ (λ (ys : List Float) (y : Float). ys ++ (y ∷ [])) (take-set-le i rs i x (omega arith)) (get_or-set_same rs i x nan h)

map_last : (ls : List (List Line)) (l : List Line) → map release_of (ls ++ (l ∷ [])) ≡ map release_of ls ++ (release_of l ∷ [])
map_last [] l = refl
map_last (k ∷ ls) l = ap (λ (xs : List Float). release_of k ∷ xs) (map_last ls l)

-- the header is one of fewer than 31
few_names : (line : ℕ) (name : List ℕ) (names : List (List ℕ)) → Holds (λ (x : List ℕ). (x ≡ name) × (length names + 1 < instruments_most)) (header_of line name names)
unfolding header_of
few_names line name names =
    holds_unless _ _ _ _ _
    (λ a. holds_unless _ _ _ _ _ (λ b. holds_going (λ (x : List ℕ). (x ≡ name) × (length names + 1 < instruments_most)) name (refl, ltb-true _ _ b)))

-- what the columns say of the lines
pub block_going : (line : ℕ) (b : Block) (fs : List Float) (ss : List ℕ) → b.refusal ≡ None → block_outcome line b fs ss ≡ going (lines_in b.count fs ss)
unfolding block_outcome
block_going line b fs ss e = rw (e, block_outcome)

pub block_refused : (line : ℕ) (b : Block) (fs : List Float) (ss : List ℕ) → (why : Refusal) → b.refusal ≡ Some why → block_outcome line b fs ss ≡ refused (refusal_number why) (line + b.count)
unfolding block_outcome
block_refused line b fs ss why e = rw (e, block_outcome)

-- ---- the header

module _ (s : List ℕ) (r : Sofar) (ns : List ℕ) (end next n : ℕ) (b : Begins s r end next) (room : r.instruments + 1 ≤ 32) (long : length ns ≡ 64) where
  abbrev number : ℕ
  number = number_of (header_line r.line s r.at end r.instruments ns)

  abbrev names : List (List ℕ)
  names = names_in s (take (2 * r.instruments) ns)

  abbrev name : List ℕ
  name = line_of (drop r.at s)

  header_says : header_line r.line s r.at end r.instruments ns ≡ header_of r.line name names
  unfolding header_line
  header_says =
      rw (le-leb r.instruments 32 (omega (arith, room)), eq-eqb (length ns) 64 long, header_line)
      (ap (λ (l : List ℕ). header_of r.line l names) (lined s r end next b).line)

  -- it is accepted with its name, and there is room for it
  module _ (e : n ≡ number) (z : n ≡ 0) where
    header_accepted : header_of r.line name names ≡ going name
    header_accepted = pick (header_of r.line name names) refl
      where
        pick : (o : Outcome (List ℕ)) → header_of r.line name names ≡ o → header_of r.line name names ≡ going name
        pick (going x) q =
            q ∙ ap going (holds_of _ x (subst (Holds (λ (y : List ℕ). (y ≡ name) × (length names + 1 < instruments_most))) q (few_names r.line name names))).0
        pick (refused k l) q =
            absurd
            (omega
            (arith, at_number (List ℕ) r.line k l (subst (At r.line) q (header_at r.line name names)), z, e, number_of_law (header_line r.line s r.at end r.instruments ns) k l (header_says ∙ q)))

    pub header_few : r.instruments + 1 < 32
    header_few =
        let k = names_many s ns r.instruments (omega (arith, room, long)) in
        let h =
        (holds_of _ name (subst (Holds (λ (y : List ℕ). (y ≡ name) × (length names + 1 < instruments_most))) header_accepted (few_names r.line name names))).1 in
        omega (arith, k, h)

module _ (mode : Mode) (s places : List ℕ) (r : Sofar) (fs : List Float) (is ls ms bs ns zs : List ℕ) (xs : List Float) (ss : List ℕ) (rs : List Float) (end next n : ℕ) (b : Begins s r end next) (w : Fits places r fs is ls) (g : Tabled r (tables_of ms bs ns zs xs ss rs)) where
  abbrev line : ℕ
  line = r.line

  abbrev outcome : Outcome (List ℕ)
  outcome = header_line line s r.at end r.instruments ns

  abbrev known : List (List ℕ)
  known = names_in s (take (2 * r.instruments) ns)

  abbrev before : Read
  before = read_in s places r fs is ls (tables_of ms bs ns zs xs ss rs)

  abbrev text : List ℕ
  text = line_of (drop r.at s)

  abbrev below : List (List ℕ)
  below = lines_of (drop next s)

  says : outcome ≡ header_of line text known
  says = header_says s r ns end next n b g.instruments_few g.names_length

  pub header_refuses : (u : Tables) → n ≡ number_of outcome → (n ≡ 0 → ⊥)
      → Goes (header_read mode line text below before) (1 + length (operator_lines below)) s places r (refused_at r n line) fs is ls u
  unfolding header_read read_in
  header_refuses u e z =
      let e' : n ≡ number_of (header_of line text known) = e ∙ ap number_of says in
      goes_refused s places r fs is ls u _ _ n line z
      (then_refused n line (header_of line text known) _
      (at_refused line (header_of line text known) (header_at line text known) (λ y. z (e' ∙ y)) ∙ ap (λ (k : ℕ). refused k line) (sym e')))

  module _ (e : n ≡ number_of outcome) (z : n ≡ 0) where
    accepted : header_of line text known ≡ going text
    accepted = header_accepted s r ns end next n b g.instruments_few g.names_length e z

    few : r.instruments + 1 < 32
    few = header_few s r ns end next n b g.instruments_few g.names_length e z

    abbrev i : ℕ
    i = r.instruments + 1

    module _ (k : Block) (xs' : List Float) (ss' : List ℕ) (q : Blocked mode s next i k xs ss xs' ss') where
      abbrev own : List Line
      own = lines_in k.count (region 192 i xs') (region 64 i ss')

      pub block_refuses : (u : Tables) (why : Refusal) → k.refusal ≡ Some why
          → Goes (header_read mode line text below before) (1 + length (operator_lines below)) s places r (refused_at r (refusal_number why) (line + 1 + k.count)) fs is ls u
      unfolding header_read read_in
      block_refuses u why y =
          goes_refused s places r fs is ls u _ _ (refusal_number why) (line + 1 + k.count) (refusal_some why)
          (then_going text (header_of line text known) _ accepted
          ∙ then_refused (refusal_number why) (line + 1 + k.count) (operators_read mode none (line + 1) 0 (operator_lines below)) _
          (sym (q.read (line + 1)) ∙ block_refused (line + 1) k _ _ why y))

      module _ (y : k.refusal ≡ None) (lx : length xs' ≡ length xs) (ly : length ss' ≡ length ss) where
        read : operators_read mode none (line + 1) 0 (operator_lines below) ≡ going own
        read = sym (q.read (line + 1)) ∙ block_going (line + 1) k _ _ y

        of_lines : OfLines (operator_lines below) own
        of_lines = holds_of (OfLines (operator_lines below)) own (subst (Holds (OfLines (operator_lines below))) read (all_of_lines mode none (line + 1) 0 (operator_lines below)))

        many : k.count ≡ length (operator_lines below)
        many = sym (lines_length k.count (region 192 i xs') (region 64 i ss')) ∙ of_lines.many

        held : lines_held k.count (region 192 i xs') (region 64 i ss') ≡ own
        held =
            held_whole k.count (region 192 i xs') (region 64 i ss') q.few
            (region_wide 192 i xs' (omega (arith, few, lx, g.numbers_length)))
            (region_wide 64 i ss' (omega (arith, few, ly, g.shape_length)))
            of_lines.whole

        abbrev zs' : List ℕ
        zs' = set zs i k.count

        -- the instruments that were there, and the new one
        beside : (j : ℕ) → j < 0 + i → lines_at zs xs ss j ≡ lines_at zs' xs' ss' j
        unfolding lines_at
        beside j h =
            let no : j ≡ i → ⊥ = λ v. absurd (omega (arith, v, h)) in
            let l : j < 32 = omega (arith, h, few) in
            ap₂ (λ (a : List Float) (c : List ℕ). lines_held (get_or zs j 0) a c) (sym (q.numbers j l no)) (sym (q.shape j l no))
            ∙ ap (λ (c : ℕ). lines_held c (region 192 j xs') (region 64 j ss')) (sym (get_or-set_other zs i j k.count 0 no))

        here : lines_at zs' xs' ss' (0 + i) ≡ own
        unfolding lines_at
        here =
            ap (lines_at zs' xs' ss') (let z : 0 + i ≡ i = omega arith in z)
            ∙ ap (λ (c : ℕ). lines_held c (region 192 i xs') (region 64 i ss')) (get_or-set_same zs i k.count 0 (omega (arith, few, g.sizes_length))) ∙ held

        grown : lines_from zs' xs' ss' 0 (i + 1) ≡ lines_from zs xs ss 0 i ++ (own ∷ [])
        grown =
            ap (lines_from zs' xs' ss' 0) (add-one i)
            ∙ lines_snoc zs' xs' ss' i 0
            ∙ ap₂ (λ (l : List (List Line)) (x : List Line). l ++ (x ∷ [])) (sym (lines_same zs xs ss zs' xs' ss' i 0 beside)) here

        module _ (ns' : List ℕ) (rs' : List Float) (ln : length ns' ≡ length ns) (en : ns' ≡ headers_after outcome s r.at end r.instruments ns) (er : rs' ≡ set rs i (release_of (lines_held k.count (region 192 i xs') (region 64 i ss')))) where
          abbrev after : Sofar
          after = passed_to r r.macros i (line + 1 + k.count) k.next

          abbrev tables : Tables
          tables = tables_of ms bs ns' zs' xs' ss' rs'

          named : names_in s (take (2 * i) ns') ≡ known ++ (text ∷ [])
          named =
              ap (λ (x : List ℕ). names_in s (take (2 * i) x)) en ∙ names_grown line s r.at end r.instruments ns text (says ∙ accepted)

          released : take (i + 1) rs' ≡ map release_of (lines_from zs' xs' ss' 0 (i + 1))
          released =
              ap (take (i + 1)) er
              ∙ release_last rs i (release_of (lines_held k.count (region 192 i xs') (region 64 i ss'))) (omega (arith, few, g.releases_length))
              ∙ ap₂ (λ (a : List Float) (c : List Line). a ++ (release_of c ∷ [])) g.releases held
              ∙ sym (map_last (lines_from zs xs ss 0 i) own)
              ∙ ap (map release_of) (sym grown)

          now_fits : Fits places after fs is ls
          now_fits =
              fits_passed _ _ _ _ _ _ _ _ _ w

          now_tabled : Tabled after tables
          now_tabled =
              record {
                macros_few = g.macros_few;
                instruments_few = omega (arith, few);
                macros_length = g.macros_length;
                bodies_length = g.bodies_length;
                names_length = ln ∙ g.names_length;
                sizes_length = length-set zs i k.count ∙ g.sizes_length;
                numbers_length = lx ∙ g.numbers_length;
                shape_length = ly ∙ g.shape_length;
                releases_length = ap length er ∙ length-set rs i _ ∙ g.releases_length;
                releases = released;
              }

          read_now : header_read mode line text below before ≡ going (read_in s places after fs is ls tables)
          unfolding header_read read_in
          read_now =
              then_going text (header_of line text known) _ accepted
              ∙ then_going own (operators_read mode none (line + 1) 0 (operator_lines below)) _ read
              ∙ ap₂ (λ (a : List (List ℕ)) (c : List (List Line)). going (read_of r.start before.parts before.macros a c r.steps)) (sym named) (sym grown)

          goes_with : Goes (header_read mode line text below before) (1 + length (operator_lines below)) s places r after fs is ls tables
          goes_with =
              let l = lined s r end next b in
              record {
                means = read_going s places after fs is ls tables b.goes ∙ sym read_now;
                fits = λ v. now_fits;
                tabled = λ v. now_tabled;
                lines = λ v. q.lines y ∙ ap (λ (c : ℕ). drop c below) many ∙ sym (ap (λ (c : ℕ). drop c (lines_of (drop r.at s))) (let z : 1 + length (operator_lines below) ≡ suc (length (operator_lines below)) = omega arith in z) ∙ ap (drop (suc (length (operator_lines below)))) l.lines);
                line = λ v. (let z : line + 1 + k.count ≡ line + (1 + length (operator_lines below)) = omega (arith, many) in z);
                few = λ v. omega (arith, many, q.few);
                onward = λ v. (omega (arith, l.onward, q.onward), q.inside l.inside);
              }

          pub header_goes : (us : List ℕ) → us ≡ zs'
              → Goes (header_read mode line text below before) (1 + length (operator_lines below)) s places r after fs is ls (tables_of ms bs ns' us xs' ss' rs')
          header_goes us e =
              subst
              (λ (v : List ℕ). Goes (header_read mode line text below before) (1 + length (operator_lines below)) s places r after fs is ls (tables_of ms bs ns' v xs' ss' rs'))
              (sym e)
              goes_with

-- ---- the header in the columns

-- the names are lent, and what comes back is as long
module _ (ss : List ℕ) (ls : length ss ≡ 2272) where
  room : 64 * 34 + 64 ≤ length ss
  room = omega (arith, ls)

  pub names_long : length (lent 64 34 ss) ≡ 64
  names_long = ap length (lent_region 64 34 ss) ∙ region_wide 64 34 ss room

  pub names_back : (ys : List ℕ) → length ys ≡ length (lent 64 34 ss) → length (back 64 34 ss ys) ≡ length ss
  names_back ys h = back_length 64 34 ss ys room (h ∙ names_long)

module _ (mode : Mode) (s places : List ℕ) (r : Sofar) (fs : List Float) (is ls bs : List ℕ) (xs : List Float) (ss : List ℕ) (end next n : ℕ) (b : Begins s r end next) (w : Fits places r fs is ls) (g : Tabled r (tables_in bs xs ss)) (e : n ≡ number_of (header_line r.line s r.at end r.instruments (lent 64 34 ss))) where
  abbrev Came : Sofar → Tables → Type 0
  Came q u =
      Goes (header_read mode r.line (line_of (drop r.at s)) (lines_of (drop next s)) (read_in s places r fs is ls (tables_in bs xs ss))) (1 + length (operator_lines (lines_of (drop next s)))) s places r q fs is ls u

  told : n ≡ number_of (header_line r.line s r.at end r.instruments (name_column ss))
  unfolding region
  told = e

  pub column_refuses : (u : Tables) → (n ≡ 0 → ⊥) → Came (refused_at r n r.line) u
  column_refuses u z = header_refuses mode s places r fs is ls (macro_column ss) bs (name_column ss) (size_column ss) xs ss (release_column xs) end next n b w g u told z

  headers : (ys : List ℕ) → ys ≡ headers_after (header_line r.line s r.at end r.instruments (lent 64 34 ss)) s r.at end r.instruments (lent 64 34 ss)
      → ys ≡ headers_after (header_line r.line s r.at end r.instruments (name_column ss)) s r.at end r.instruments (name_column ss)
  unfolding region
  headers ys h = h

  module _ (z : n ≡ 0) (ys : List ℕ) (long : length ys ≡ length (lent 64 34 ss)) (k : Block) (xs' : List Float) (ss' : List ℕ) (q : Kept mode s next (r.instruments + 1) k xs (back 64 34 ss ys) xs' ss') where
    wide : 64 * 34 + 64 ≤ length ss
    wide = room ss g.shape_length

    as_long : length ys ≡ 64
    as_long = long ∙ names_long ss g.shape_length

    blocked : Blocked mode s next (r.instruments + 1) k xs ss xs' ss'
    blocked =
        let c = q.block in
        record {
          read = c.read;
          lines = c.lines;
          few = c.few;
          onward = c.onward;
          inside = c.inside;
          numbers = c.numbers;
          shape = λ j l no. c.shape j l no ∙ back_beside 64 34 ss ys wide as_long j (λ v. omega (arith, l, v));
        }

    pub column_block_refuses : (u : Tables) (why : Refusal) → k.refusal ≡ Some why → Came (refused_at r (refusal_number why) (r.line + 1 + k.count)) u
    column_block_refuses u why y = block_refuses mode s places r fs is ls (macro_column ss) bs (name_column ss) (size_column ss) xs ss (release_column xs) end next n b w g told z k xs' ss' blocked u why y

    pub column_goes : k.refusal ≡ None → length xs' ≡ length xs → length ss' ≡ length ss → ys ≡ headers_after (header_line r.line s r.at end r.instruments (lent 64 34 ss)) s r.at end r.instruments (lent 64 34 ss)
        → Came (passed_to r r.macros (r.instruments + 1) (r.line + 1 + k.count) k.next) (tables_in bs xs' ss')
    column_goes y lx ly en =
        let named : name_column ss' ≡ ys = q.names ∙ back_here 64 34 ss ys wide as_long in
        let macros : macro_column ss ≡ macro_column ss' = sym (q.macros ∙ before_lent 64 34 ss ys wide as_long 128 16 (omega arith)) in
        subst
        (λ (ms : List ℕ). Came (passed_to r r.macros (r.instruments + 1) (r.line + 1 + k.count) k.next) (tables_of ms bs (name_column ss') (size_column ss') xs' ss' (release_column xs')))
        macros
        (header_goes mode s places r fs is ls (macro_column ss) bs (name_column ss) (size_column ss) xs ss (release_column xs) end next n b w g told z k xs' ss' blocked y lx ly
        (name_column ss') (release_column xs') (ap length named ∙ long ∙ ap length (lent_region 64 34 ss)) (named ∙ headers ys en) (q.releases y)
        (size_column ss') (q.sizes y ∙ ap (λ (zs : List ℕ). set zs (r.instruments + 1) k.count) (after_lent 64 34 ss ys wide as_long 32 70 (omega arith))))
