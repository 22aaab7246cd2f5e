-- A look at every byte of a source, where those that are left say what all of them do; and the refusals 1 and 2, which come before the lines. Assumes
-- nothing.
use mathlib.Core.Path.{◌≡◌, refl, sym, ap, ◌∙◌}
use mathlib.Core.Bool.{Bool, true, false, ◌&&◌}
use mathlib.Core.List.{List}
use Prim.Native.Nat.{ℕ, ◌+◌, ◌≤◌, ◌<◌, max}
use native.Mathlib.Numerals.{add-one}
use native.Mathlib.Omega.{arith}
use lib.Dec.{ltb}
use lib.ListN.{length, drop, get_or, drop_of_length-le}
use lib.Seq.{drop-cons}
use borrow.Author.Tests.{ltb-true, ltb-false, lt-ltb, le-ltb, lt-leb, le-leb}
use Rattle.lines.specs.Lines.{lines_of}
use Rattle.sheet.specs.Refusals.{refused, ◌>>=◌, ◌>>◌, refuse◌on◌unless◌}
use Rattle.strict.specs.declared.mode.Mode.{Mode}
use Rattle.meaning.specs.Layout.{laid_out, reading_of}
use Rattle.meaning.specs.Sheets.{nothing_read, lines_read, ended, all_below128, sheet_read}

-- the larger of two bytes is below 128 where both are
larger_below : (a b : ℕ) (p q : Bool) → ltb a 128 ≡ p → ltb b 128 ≡ q → ltb (max a b) 128 ≡ p && q
larger_below a b true true e f = lt-ltb (max a b) 128 (omega (arith, ltb-true a 128 e, ltb-true b 128 f))
larger_below a b true false e f = le-ltb (max a b) 128 (omega (arith, ltb-false b 128 f))
larger_below a b false q e f = le-ltb (max a b) 128 (omega (arith, ltb-false a 128 e))

and_joins : (p q r : Bool) → (p && q) && r ≡ p && (q && r)
and_joins true q r = refl
and_joins false q r = refl

and_nothing : (p : Bool) → p && true ≡ p
and_nothing true = refl
and_nothing false = refl

-- the largest byte so far and the bytes that are left say what all of them do
module _ (s : List ℕ) (i most : ℕ) where
  pub below_end : length s ≤ i → ltb most 128 && all_below128 (drop i s) ≡ ltb most 128
  unfolding all_below128
  below_end h = ap (λ (t : List ℕ). ltb most 128 && all_below128 t) (drop_of_length-le s h) ∙ and_nothing (ltb most 128)

  pub below_more : i < length s → ltb (max most (get_or s i 0)) 128 && all_below128 (drop (i + 1) s) ≡ ltb most 128 && all_below128 (drop i s)
  unfolding all_below128
  below_more h =
      let b = get_or s i 0 in
      ap (λ (p : Bool). p && all_below128 (drop (i + 1) s)) (larger_below most b (ltb most 128) (ltb b 128) refl refl)
      ∙ and_joins (ltb most 128) (ltb b 128) (all_below128 (drop (i + 1) s))
      ∙ ap (λ (n : ℕ). ltb most 128 && (ltb b 128 && all_below128 (drop n s))) (add-one i)
      ∙ sym (ap (λ (t : List ℕ). ltb most 128 && all_below128 t) (drop-cons s i 0 h))

-- ---- what comes before the lines

module _ (mode : Mode) (rate : ℕ) (s : List ℕ) where
  pub source_long : 32768 < length s → laid_out (refused 1 0) ≡ reading_of mode rate s
  unfolding reading_of sheet_read ◌>>◌ refuse◌on◌unless◌
  source_long h = rw (lt-leb (length s) 32768 h)

  pub source_high : length s ≤ 32768 → all_below128 s ≡ false → laid_out (refused 2 0) ≡ reading_of mode rate s
  unfolding reading_of sheet_read ◌>>◌ refuse◌on◌unless◌
  source_high h e = rw (le-leb (length s) 32768 h, e)

  pub source_read : length s ≤ 32768 → all_below128 s ≡ true → laid_out (lines_read mode rate 0 1 (lines_of s) nothing_read >>= (λ x. ended rate x)) ≡ reading_of mode rate s
  unfolding reading_of sheet_read ◌>>◌ refuse◌on◌unless◌
  source_read h e = rw (le-leb (length s) 32768 h, e)
