-- The operator lines below a header, read into the regions of one instrument: what the reader of operator lines promises of two lent parts, told of the
-- columns. Assumes nothing.
use mathlib.Core.Path.{◌≡◌, sym, ap, ap₂, ◌∙◌}
use mathlib.Core.Option.{none}
use mathlib.Core.List.{List}
use Rattle.std.specs.Prelude.{None, Some}
use Rattle.sheet.specs.declared.refusal.Refusal.{Refusal}
use Prim.Native.Nat.{ℕ, ◌+◌, ◌≤◌, ◌<◌}
use native.Mathlib.Omega.{arith}
use lib.ListN.{length, drop, set}
use lib.Ieee.{Float}
use borrow.Author.Tests.{le-leb}
use Rattle.lines.specs.Lines.{lines_of}
use Rattle.tree.specs.Lines.{release_of}
use Rattle.blocks.specs.declared.block.Block.{Block}
use Rattle.operators.specs.OperatorLines.{operator_lines, operators_read}
use Rattle.blocks.specs.Blocks.{block_read, block_outcome}
use Rattle.commands.specs.Commands.{lines_held}
use Rattle.layout.specs.Regions.{region}
use Rattle.layout.proofs.Regions.{lent, back, lent_region, region_wide, back_here, back_beside}
use Rattle.strict.specs.declared.mode.Mode.{Mode}
use Rattle.parser.specs.Columns.{Blocked, Aside, Kept}
use Rattle.parser.proofs.Pieces.{region_before, region_set, after_lent}

-- where the columns have room, the lines are all that counts
room_read : (mode : Mode) (line : ℕ) (below : List ℕ) (m n : ℕ) → m ≡ 192 → n ≡ 64 → block_read mode line below m n ≡ operators_read mode none line 0 (operator_lines (lines_of below))
unfolding block_read
room_read mode line below m n e f = rw (le-leb 192 m (omega (arith, e)), le-leb 64 n (omega (arith, f)), block_read)

module _ (mode : Mode) (s : List ℕ) (at i : ℕ) (b : Block) (fs : List Float) (ss : List ℕ) (ys : List Float) (zs : List ℕ) (h : i < 32) (lf : length fs ≡ 6176) (ls : length ss ≡ 2272) (ky : length ys ≡ length (lent 192 i fs)) (kz : length zs ≡ length (lent 64 i ss)) where
  wide : length (lent 192 i fs) ≡ 192
  wide = ap length (lent_region 192 i fs) ∙ region_wide 192 i fs (omega (arith, h, lf))

  high : length (lent 64 i ss) ≡ 64
  high = ap length (lent_region 64 i ss) ∙ region_wide 64 i ss (omega (arith, h, ls))

  ly : length ys ≡ 192
  ly = ky ∙ wide

  lz : length zs ≡ 64
  lz = kz ∙ high

  pub blocked : ((line : ℕ) → block_outcome line b ys zs ≡ block_read mode line (drop at s) (length (lent 192 i fs)) (length (lent 64 i ss)))
      → (b.refusal ≡ None → lines_of (drop b.next s) ≡ drop b.count (lines_of (drop at s)))
      → at ≤ b.next → (at ≤ length s → b.next ≤ length s) → b.count ≤ 32
      → Blocked mode s at i b fs ss (back 192 i fs ys) (back 64 i ss zs)
  blocked read lines onward inside few =
      record {
        read = λ line.
            ap₂ (λ (x : List Float) (y : List ℕ). block_outcome line b x y) (back_here 192 i fs ys (omega (arith, h, lf)) ly) (back_here 64 i ss zs (omega (arith, h, ls)) lz)
            ∙ read line
            ∙ room_read mode line (drop at s) (length (lent 192 i fs)) (length (lent 64 i ss)) wide high;
        lines = lines;
        few = few;
        onward = onward;
        inside = inside;
        numbers = λ j l n. back_beside 192 i fs ys (omega (arith, h, lf)) ly j n;
        shape = λ j l n. back_beside 64 i ss zs (omega (arith, h, ls)) lz j n;
      }

  -- what stands behind the regions of all instruments is as before
  pub blocked_beside : Aside ss (back 64 i ss zs) fs (back 192 i fs ys)
  blocked_beside = (
    after_lent 64 i ss zs (omega (arith, h, ls)) lz 128 16 (omega (arith, h)),
    (
      after_lent 64 i ss zs (omega (arith, h, ls)) lz 64 34 (omega (arith, h)),
      (after_lent 64 i ss zs (omega (arith, h, ls)) lz 32 70 (omega (arith, h)), after_lent 192 i fs ys (omega (arith, h, lf)) ly 32 192 (omega (arith, h))),
    ),
  )

-- ---- the instrument that they are kept as

module _ (mode : Mode) (s : List ℕ) (at i : ℕ) (b : Block) (fs : List Float) (ss : List ℕ) (fs' : List Float) (ss' : List ℕ) (q : Blocked mode s at i b fs ss fs' ss') (c : Aside ss ss' fs fs') where
  pub kept_refused : (why : Refusal) → b.refusal ≡ Some why → Kept mode s at i b fs ss fs' ss'
  kept_refused why e = record { block = q; macros = c.0; names = c.1.0; sizes = λ z. cc; releases = λ z. cc }

  module _ (h : i < 32) (x : Float) (e : x ≡ release_of (lines_held b.count (region 192 i fs') (region 64 i ss'))) where
    abbrev gs : List Float
    gs = set fs' (6144 + i) x

    abbrev ts : List ℕ
    ts = set ss' (2240 + i) b.count

    numbers_same : (j : ℕ) → j < 32 → region 192 j gs ≡ region 192 j fs'
    numbers_same j l = region_before 192 j fs' (6144 + i) x (omega (arith, l))

    shape_same : (j : ℕ) → j < 32 → region 64 j ts ≡ region 64 j ss'
    shape_same j l = region_before 64 j ss' (2240 + i) b.count (omega (arith, l))

    pub kept_stored : Kept mode s at i b fs ss gs ts
    kept_stored =
        record {
          block = record {
            read = λ line. ap₂ (λ (y : List Float) (z : List ℕ). block_outcome line b y z) (numbers_same i h) (shape_same i h) ∙ q.read line;
            lines = q.lines;
            few = q.few;
            onward = q.onward;
            inside = q.inside;
            numbers = λ j l n. numbers_same j l ∙ q.numbers j l n;
            shape = λ j l n. shape_same j l ∙ q.shape j l n;
          };
          macros = region_before 128 16 ss' (2240 + i) b.count (omega arith) ∙ c.0;
          names = region_before 64 34 ss' (2240 + i) b.count (omega arith) ∙ c.1.0;
          sizes = λ z. region_set 32 70 ss' i b.count h ∙ ap (λ (zs : List ℕ). set zs i b.count) c.1.1.0;
          releases = λ z.
              region_set 32 192 fs' i x h
              ∙ ap₂ (λ (ys : List Float) (y : Float). set ys i y) c.1.1.1
              (e ∙ ap₂ (λ (y : List Float) (l : List ℕ). release_of (lines_held b.count y l)) (sym (numbers_same i h)) (sym (shape_same i h)));
        }
