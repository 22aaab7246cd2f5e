-- Where a reading begins: with the default instrument `1 1 0 0 1 0`, which the reader of operator lines reads too, and with nothing else. Assumes nothing.
use mathlib.Core.Path.{◌≡◌, refl, sym, ap, subst, ◌∙◌}
use mathlib.Core.List.{List, [], ◌∷◌, map}
use mathlib.Core.Option.{none}
use Prim.Native.Nat.{ℕ, ◌+◌}
use native.Mathlib.Omega.{arith}
use lib.ListN.{length, take, set, get_or}
use lib.Seq.{get_or-set_same}
use lib.Ieee.{Float, round, add, sub, mul, div, lt, of_bits, of_int}
use Rattle.std.specs.Prelude.{Option, None, Some}
use Rattle.sheet.specs.declared.refusal.Refusal.{Refusal}
use Rattle.sheet.specs.Numbers.{number_of as refusal_number}
use Rattle.text.specs.Quoted.{bytes}
use Rattle.lines.specs.Lines.{lines_of}
use Rattle.tree.specs.Lines.{Line, release_of}
use Rattle.sheet.specs.Refusals.{Outcome, going, refused, ◌>>=◌, ◌>>◌, refuse◌on◌unless◌, refuse◌on◌if◌}
use Rattle.environment.specs.Environment.{at_the_start}
use Rattle.blocks.specs.declared.block.Block.{Block}
use Rattle.operators.specs.OperatorLines.{operator_lines, operators_read}
use Rattle.blocks.specs.Blocks.{lines_in, block_outcome}
use Rattle.commands.specs.Commands.{clipped, lines_held}
use Rattle.tables.specs.Named.{macros_in}
use Rattle.lines.specs.Names.{names_in}
use Rattle.layout.specs.Regions.{region}
use Rattle.bank.specs.Bank.{lines_at, lines_from}
use Rattle.layout.specs.Layout.{notes_from}
use Rattle.layout.proofs.Regions.{region_wide}
use Rattle.strict.specs.declared.mode.Mode.{Mode}
use Rattle.strict.specs.declared.mode.Mode.TheVariants.{Plain}
use Rattle.parser.specs.declared.sofar.Sofar.{Sofar}
use Rattle.meaning.specs.Sheets.{Read, plain, nothing_read, lines_read}
use Rattle.parser.specs.Columns.{size_column, release_column, place_column, tables_in, parts_from, read_in, Fits, Tabled, Blocked, Kept, nothing_sofar}
use Rattle.parser.proofs.Headers.{block_going, block_refused}
use Rattle.parser.specs.Walks.{Walking}
use Rattle.parser.proofs.Walking.{walking_start}
use Rattle.parser.proofs.ReadLines.{held_whole}
use Rattle.tables.proofs.Entries.{same_given}

-- ---- the default instrument

abbrev pub written : List ℕ
written = bytes "1 1 0 0 1 0"

plain_read : operators_read Plain none 1 0 (operator_lines (lines_of written)) ≡ going plain
unfolding operators_read operator_lines lines_of bytes ◌>>=◌ ◌>>◌ refuse◌on◌unless◌ refuse◌on◌if◌ round add sub mul div lt of_bits of_int
plain_read = refl

plain_whole : map clipped plain ≡ plain
unfolding clipped
plain_whole = refl

module _ (b : Block) (fs : List Float) (ss : List ℕ) (e : block_outcome 1 b fs ss ≡ going plain) where
  plain_accepted : b.refusal ≡ None
  plain_accepted = go b.refusal refl
    where
      never : (n l : ℕ) → refused n l ≡ going plain → ⊥
      never n l q = let z : ◌≡◌ {A = ℕ} 0 1 = ap (λ (o : Outcome (List Line)). elim o [ going x ↦ 1 | refused i j ↦ 0 ]) q in absurd (omega (arith, z))

      go : (k : Option Refusal) → b.refusal ≡ k → b.refusal ≡ None
      go None q = q
      go (Some why) q = absurd (never (refusal_number why) (1 + b.count) (sym (block_refused 1 b fs ss why q) ∙ e))

  plain_lines : lines_in b.count fs ss ≡ plain
  plain_lines = same_given _ _ (sym (block_going 1 b fs ss plain_accepted) ∙ e)

module _ (zs : List ℕ) (xs : List Float) (ss zs' : List ℕ) (xs' : List Float) (ss' : List ℕ) (rs rs' : List Float) (b : Block)
    (lz : length zs ≡ 32) (lx : length xs' ≡ 6176) (ls : length ss' ≡ 2272) (lr : length rs ≡ 32) (q : Blocked Plain written 0 0 b xs ss xs' ss') where
  abbrev fs : List Float
  fs = region 192 0 xs'

  abbrev ts : List ℕ
  ts = region 64 0 ss'

  read : block_outcome 1 b fs ts ≡ going plain
  read = q.read 1 ∙ plain_read

  default_accepted : b.refusal ≡ None
  default_accepted = plain_accepted b fs ts read

  held : lines_held b.count fs ts ≡ plain
  held =
      let l = plain_lines b fs ts read in
      held_whole b.count fs ts q.few (region_wide 192 0 xs' (omega (arith, lx))) (region_wide 64 0 ss' (omega (arith, ls)))
      (ap (map clipped) l ∙ plain_whole ∙ sym l)
      ∙ l

  default_lines : zs' ≡ set zs 0 b.count → lines_from zs' xs' ss' 0 1 ≡ plain ∷ []
  unfolding lines_from lines_at
  default_lines e =
      ap (λ (n : ℕ). lines_held n fs ts ∷ []) (ap (λ (x : List ℕ). get_or x 0 0) e ∙ get_or-set_same zs 0 b.count 0 (omega (arith, lz)))
      ∙ ap (λ (l : List Line). l ∷ []) held

  default_release : rs' ≡ set rs 0 (release_of (lines_held b.count fs ts)) → take 1 rs' ≡ release_of plain ∷ []
  default_release e = ap (take 1) e ∙ first rs lr (release_of (lines_held b.count fs ts)) ∙ ap (λ (l : List Line). release_of l ∷ []) held
    where
      first : (ys : List Float) → length ys ≡ 32 → (x : Float) → take 1 (set ys 0 x) ≡ x ∷ []
      first [] l x = absurd (omega (arith, l))
      first (y ∷ ys) l x = refl

  default_kept : (b.refusal ≡ None → zs' ≡ set zs 0 b.count) → (b.refusal ≡ None → rs' ≡ set rs 0 (release_of (lines_held b.count fs ts)))
      → (lines_from zs' xs' ss' 0 1 ≡ plain ∷ []) × (take 1 rs' ≡ release_of plain ∷ [])
  default_kept e f = (default_lines (e default_accepted), default_release (f default_accepted))

-- in the columns
pub default_columns : (b : Block) (xs : List Float) (ss : List ℕ) (xs' : List Float) (ss' : List ℕ) → length xs ≡ 6176 → length ss ≡ 2272 → length xs' ≡ 6176 → length ss' ≡ 2272
    → Kept Plain written 0 0 b xs ss xs' ss'
    → (lines_from (size_column ss') xs' ss' 0 1 ≡ plain ∷ []) × (take 1 (release_column xs') ≡ release_of plain ∷ [])
default_columns b xs ss xs' ss' lx lss kx ks q =
    default_kept (size_column ss) xs ss (size_column ss') xs' ss' (release_column xs) (release_column xs') b
    (region_wide 32 70 ss (omega (arith, lss))) kx ks (region_wide 32 192 xs (omega (arith, lx))) q.block q.sizes q.releases

-- ---- nothing else

module _ (s : List ℕ) (fs : List Float) (is ls : List ℕ) where
  nothing_fits : length fs ≡ 98304 → length is ≡ 32768 → length ls ≡ 288 → Fits (place_column ls) nothing_sofar fs is ls
  unfolding nothing_sofar at_the_start notes_from
  nothing_fits lf li ll =
      record {
        few = omega arith;
        start = omega arith;
        octaves = λ k h. absurd (omega (arith, h));
        counts = λ k h. absurd (omega (arith, h));
        depths = λ k h. absurd (omega (arith, h));
        all = refl;
        notes = omega arith;
        envs_length = refl;
        counts_length = refl;
        depths_length = refl;
        places_length = region_wide 32 8 ls (omega (arith, ll));
        floats_length = lf;
        bytes_length = li;
        loops_length = ll;
      }

  module _ (bs : List ℕ) (xs : List Float) (ss : List ℕ) (d : lines_from (size_column ss) xs ss 0 1 ≡ plain ∷ []) where
    nothing_tabled : length bs ≡ 128 → length xs ≡ 6176 → length ss ≡ 2272 → take 1 (release_column xs) ≡ release_of plain ∷ []
        → Tabled nothing_sofar (tables_in bs xs ss)
    unfolding nothing_sofar
    nothing_tabled lb lx lss e =
        record {
          macros_few = omega arith;
          instruments_few = omega arith;
          macros_length = region_wide 128 16 ss (omega (arith, lss));
          bodies_length = lb;
          names_length = region_wide 64 34 ss (omega (arith, lss));
          sizes_length = region_wide 32 70 ss (omega (arith, lss));
          numbers_length = lx;
          shape_length = lss;
          releases_length = region_wide 32 192 xs (omega (arith, lx));
          releases = e ∙ sym (ap (map release_of) d);
        }

    nothing_read_law : read_in s (place_column ls) nothing_sofar fs is ls (tables_in bs xs ss) ≡ nothing_read
    unfolding nothing_sofar read_in nothing_read parts_from macros_in names_in
    nothing_read_law = ap (λ (l : List (List Line)). record { start = at_the_start; parts = []; macros = []; names = []; instruments = l; steps = 0 }) d

    begun_read : (r : Sofar) → r ≡ nothing_sofar → read_in s (place_column ls) r fs is ls (tables_in bs xs ss) ≡ nothing_read
    begun_read r e = ap (λ (x : Sofar). read_in s (place_column ls) x fs is ls (tables_in bs xs ss)) e ∙ nothing_read_law

    -- the walk begins
    pub walking_begun : (mode : Mode) (rate : ℕ) (r : Sofar) → r ≡ nothing_sofar → length fs ≡ 98304 → length is ≡ 32768 → length ls ≡ 288
        → length bs ≡ 128 → length xs ≡ 6176 → length ss ≡ 2272 → take 1 (release_column xs) ≡ release_of plain ∷ []
        → Walking mode rate s (lines_read mode rate 0 1 (lines_of s) nothing_read) (place_column ls) r fs is ls (tables_in bs xs ss)
    unfolding nothing_sofar
    walking_begun mode rate r e lf li ll lb lx lss t =
        subst (λ (x : Read). Walking mode rate s (lines_read mode rate 0 1 (lines_of s) x) (place_column ls) r fs is ls (tables_in bs xs ss)) (begun_read r e)
        (walking_start mode rate s (place_column ls) r fs is ls (tables_in bs xs ss)
        (ap (λ (x : Sofar). x.refusal) e)
        (ap (λ (x : Sofar). x.at) e)
        (ap (λ (x : Sofar). x.line) e)
        (subst (λ (x : Sofar). Fits (place_column ls) x fs is ls) (sym e) (nothing_fits lf li ll))
        (subst (λ (x : Sofar). Tabled x (tables_in bs xs ss)) (sym e) (nothing_tabled lb lx lss t)))
