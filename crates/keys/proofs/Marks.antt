-- Laws of accidentals at a place of a text, by the byte that stands there. Assumes nothing.
use mathlib.Core.Path.{◌≡◌, refl, ap}
use mathlib.Core.Bool.{Bool, true, false}
use mathlib.Core.List.{List, ◌∷◌}
use mathlib.Core.Option.{Option, none, some}
use Prim.Native.Nat.{ℕ, ◌+◌, ◌≤◌, ◌<◌}
use native.Mathlib.Nat.{lt_of_not-le}
use native.Mathlib.Numerals.{add-one}
use borrow.Author.Tests.{ne_eqb}
use lib.Dec.{eqb}
use lib.ListN.{length, drop, get_or, drop_of_length-le}
use lib.Seq.{drop-cons}
use Rattle.std.specs.Prelude.{Some, None}
use Rattle.text.specs.Characters.{starts_with, row_of}
use Rattle.text.specs.Parsed.{parsed}
use Rattle.text.specs.declared.parsed.Parsed.{Parsed}
use Rattle.text.proofs.Rows.{row_none}
use Rattle.keys.specs.declared.key.Accidental.{Accidental}
use Rattle.keys.specs.declared.key.Accidental.TheVariants.{DoubleFlat, Flat, Natural, Sharp, DoubleSharp}
use Rattle.keys.specs.Keys.{accidental_rows, accidental_of, key_accidental, note_accidental, accidental_width, mark_of, mark_at, note_mark_at}

-- ---- what a byte stands for

-- an accidental of one character
pub single : (b : ℕ) (a : Accidental) → accidental_of b ≡ some a → accidental_width a ≡ 1
unfolding accidental_of row_of accidental_width
single b a e = go (eqb b 43) (eqb b 45) (eqb b 61) e
  where
    go : (p m q : Bool)
        → (elim p as (λ _. Option Accidental) [
          | true ↦ some Sharp
          | false ↦ elim m as (λ _. Option Accidental) [ true ↦ some Flat | false ↦ elim q as (λ _. Option Accidental) [ true ↦ some Natural | false ↦ none ] ]
        ]) ≡ some a
        → accidental_width a ≡ 1
    go true m q e = ap accidental_width (let h : a ≡ Sharp = cc in h)
    go false true q e = ap accidental_width (let h : a ≡ Flat = cc in h)
    go false false true e = ap accidental_width (let h : a ≡ Natural = cc in h)
    go false false false e = cc

-- no other byte does
pub no_row : (b : ℕ) → (b ≡ 43 → ⊥) → (b ≡ 45 → ⊥) → (b ≡ 61 → ⊥) → accidental_of b ≡ none
unfolding accidental_of
no_row b p m q = row_none b none accidental_rows (p, (m, (q, tt)))

-- ---- at a place

at_place : (s : List ℕ) (i b : ℕ) → i < length s → b ≡ get_or s i 0 → drop i s ≡ b ∷ drop (i + 1) s
at_place s i b h e = rw (e, add-one) (drop-cons s i 0 h)

pub mark_past : (s : List ℕ) (i : ℕ) → length s ≤ i → None ≡ mark_at s i
unfolding mark_at key_accidental mark_of
mark_past s i h = rw (drop_of_length-le s h)

pub note_past : (s : List ℕ) (i : ℕ) → length s ≤ i → None ≡ note_mark_at s i
unfolding note_mark_at note_accidental mark_of
note_past s i h = rw (drop_of_length-le s h)

-- where there is an accidental the place is within the text
pub mark_inside : (s : List ℕ) (i : ℕ) (mark : Parsed Accidental) → mark_at s i ≡ Some mark → i < length s
mark_inside s i mark e = lt_of_not-le (λ (h : length s ≤ i). let p = mark_past s i h in cc)

module _ (s : List ℕ) (i b : ℕ) (h : i < length s) (is : b ≡ get_or s i 0) where
  pub mark_none : accidental_of b ≡ none → None ≡ mark_at s i
  unfolding mark_at key_accidental mark_of
  mark_none e = rw (at_place s i b h is, e)

  pub mark_some : (a : Accidental) → accidental_of b ≡ some a → Some (parsed a (i + 1)) ≡ mark_at s i
  unfolding mark_at key_accidental mark_of
  mark_some a e = rw (at_place s i b h is, e, single b a e)

  pub note_none : note_accidental (b ∷ drop (i + 1) s) ≡ none → None ≡ note_mark_at s i
  unfolding note_mark_at mark_of
  note_none e = rw (at_place s i b h is, e)

  pub note_some : (a : Accidental) → note_accidental (b ∷ drop (i + 1) s) ≡ some a → Some (parsed a (i + accidental_width a)) ≡ note_mark_at s i
  unfolding note_mark_at mark_of
  note_some a e = rw (at_place s i b h is, e)

-- ---- a note's, by the byte and whether the same one follows

module _ (b : ℕ) (d : List ℕ) where
  pub double_sharp : b ≡ 43 → starts_with b d ≡ true → note_accidental (b ∷ d) ≡ some DoubleSharp
  unfolding note_accidental
  double_sharp e t = rw e (rw (rw e at t, note_accidental))

  pub sharp : b ≡ 43 → starts_with b d ≡ false → note_accidental (b ∷ d) ≡ some Sharp
  unfolding note_accidental
  sharp e t = rw e (rw (rw e at t, note_accidental))

  pub double_flat : b ≡ 45 → starts_with b d ≡ true → note_accidental (b ∷ d) ≡ some DoubleFlat
  unfolding note_accidental
  double_flat e t = rw e (rw (rw e at t, note_accidental))

  pub flat : b ≡ 45 → starts_with b d ≡ false → note_accidental (b ∷ d) ≡ some Flat
  unfolding note_accidental
  flat e t = rw e (rw (rw e at t, note_accidental))

  pub natural : b ≡ 61 → note_accidental (b ∷ d) ≡ some Natural
  unfolding note_accidental
  natural e = rw e refl

  pub no_sign : (b ≡ 43 → ⊥) → (b ≡ 45 → ⊥) → (b ≡ 61 → ⊥) → note_accidental (b ∷ d) ≡ none
  unfolding note_accidental
  no_sign p m q = rw (ne_eqb b 43 p, note_accidental, ne_eqb b 45 m, note_accidental) (no_row b p m q)
