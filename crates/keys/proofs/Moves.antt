-- A mark or a key at a place of a text is the one that the text from there on begins with, moved: both are read from what stands behind the place
-- alone. What is found ends within the text. Assumes nothing.
use mathlib.Core.Path.{◌≡◌, refl, sym, ap, subst, ◌∙◌}
use mathlib.Core.Bool.{Bool, true, false, ◌&&◌}
use mathlib.Core.List.{List, [], ◌∷◌}
use mathlib.Core.Option.{Option, none, some}
use Rattle.std.specs.Prelude.{Option as Answer, Some, None}
use Prim.Native.Nat.{ℕ, ◌+◌, ◌≤◌}
use native.Mathlib.Nat.{zero-add}
use native.Mathlib.Omega.{arith}
use lib.Dec.{eqb}
use lib.ListN.{length, drop, length-drop}
use lib.Seq.{drop-drop}
use Rattle.text.specs.Characters.{starts_with}
use Rattle.text.specs.Fronts.{front}
use Rattle.text.specs.Parsed.{parsed}
use Rattle.text.specs.declared.parsed.Parsed.{Parsed}
use Rattle.text.proofs.Fronts.{front_within}
use Rattle.keys.proofs.Marks.{single}
use Rattle.keys.specs.declared.key.Accidental.{Accidental}
use Rattle.keys.specs.declared.key.Accidental.TheVariants.{DoubleFlat, Flat, Natural, Sharp, DoubleSharp}
use Rattle.keys.specs.declared.key.Key.{Key}
use Rattle.keys.specs.Keys.{accidental_of, key_accidental, note_accidental, accidental_width, mark_of, mark_at, note_mark_at, is_key_letter, key_of, key_from, key_at}

-- ---- the same text further on

-- an answer for a text that stands k bytes further on
abbrev pub moved : {T : Type 0} → ℕ → Answer (Parsed T) → Answer (Parsed T)
moved k (Some found) = Some (parsed found.value (k + found.next))
moved k None = None

mark_of_moved : (k at : ℕ) (a : Option Accidental) → mark_of (k + at) a ≡ moved k (mark_of at a)
unfolding mark_of
mark_of_moved k at none = refl
mark_of_moved k at (some a) = ap (λ (n : ℕ). Some (parsed a n)) (omega arith)

pub note_mark_moved : (s : List ℕ) (at : ℕ) → note_mark_at s at ≡ moved at (note_mark_at (drop at s) 0)
unfolding note_mark_at
note_mark_moved s at = ap (λ (n : ℕ). mark_of n (note_accidental (drop at s))) (omega arith) ∙ mark_of_moved at 0 (note_accidental (drop at s))

mark_later : (s : List ℕ) (k at : ℕ) → mark_at s (k + at) ≡ moved k (mark_at (drop k s) at)
unfolding mark_at
mark_later s k at = ap (λ (d : List ℕ). mark_of (k + at) (key_accidental d)) (sym (drop-drop at k s)) ∙ mark_of_moved k at (key_accidental (drop at (drop k s)))

key_from_moved : (k : ℕ) (letters : List ℕ) (m : Answer (Parsed Accidental)) → key_from letters (moved k m) ≡ moved k (key_from letters m)
unfolding key_from
key_from_moved k letters (Some mark) = refl
key_from_moved k letters None = refl

pub key_moved_law : (s : List ℕ) (at : ℕ) → key_at s at ≡ moved at (key_at (drop at s) 0)
unfolding key_at
key_moved_law s at =
    let ls = front is_key_letter (drop at s) in
    ap (key_from ls) (mark_later s at (length ls) ∙ ap (λ (n : ℕ). moved at (mark_at (drop at s) n)) (sym (zero-add (length ls))))
    ∙ key_from_moved at ls (mark_at (drop at s) (0 + length ls))

-- ---- where it ends

key_accidental_within : (d : List ℕ) (a : Accidental) → key_accidental d ≡ some a → accidental_width a ≤ length d
unfolding key_accidental
key_accidental_within [] a e = let z : ◌≡◌ {A = ℕ} 0 1 = cc in absurd (omega arith)
key_accidental_within (b ∷ d) a e = omega (arith, single b a e)

double_within : (x : Bool) (c : ℕ) (d : List ℕ) → (x && starts_with c d) ≡ true → 1 ≤ length d
unfolding starts_with
double_within true c [] e = let z : ◌≡◌ {A = ℕ} 0 1 = cc in absurd (omega arith)
double_within true c (b ∷ d) e = omega arith
double_within false c d e = let z : ◌≡◌ {A = ℕ} 0 1 = cc in absurd (omega arith)

width_most : (a : Accidental) → accidental_width a ≤ 2
unfolding accidental_width
width_most DoubleFlat = omega arith
width_most Flat = omega arith
width_most Natural = omega arith
width_most Sharp = omega arith
width_most DoubleSharp = omega arith

note_accidental_within : (d : List ℕ) (a : Accidental) → note_accidental d ≡ some a → accidental_width a ≤ length d
unfolding note_accidental
note_accidental_within [] a e = let z : ◌≡◌ {A = ℕ} 0 1 = cc in absurd (omega arith)
note_accidental_within (b ∷ d) a e = go (eqb b 43 && starts_with 43 d) refl (eqb b 45 && starts_with 45 d) refl e
  where
    go : (p : Bool) → (eqb b 43 && starts_with 43 d) ≡ p → (m : Bool) → (eqb b 45 && starts_with 45 d) ≡ m
        → (elim p as (λ _. Option Accidental) [
          | true ↦ some DoubleSharp
          | false ↦ elim m as (λ _. Option Accidental) [ true ↦ some DoubleFlat | false ↦ accidental_of b ]
        ]) ≡ some a
        → accidental_width a ≤ length (b ∷ d)
    go true p m q e = omega (arith, width_most a, double_within (eqb b 43) 43 d p)
    go false p true q e = omega (arith, width_most a, double_within (eqb b 45) 45 d q)
    go false p false q e = omega (arith, single b a e)

mark_of_law : (at : ℕ) (o : Option Accidental) (mark : Parsed Accidental) → mark_of at o ≡ Some mark
    → (o ≡ some mark.value) × (mark.next ≡ at + accidental_width mark.value)
unfolding mark_of
mark_of_law at none mark e = cc
mark_of_law at (some a) mark e =
    let h : parsed a (at + accidental_width a) ≡ mark = cc in
    (ap (λ (m : Parsed Accidental). some m.value) h, subst (λ (m : Parsed Accidental). m.next ≡ at + accidental_width m.value) h refl)

-- a note's accidental, at a place within the text
pub note_mark_within : (s : List ℕ) (at : ℕ) (mark : Parsed Accidental) → at ≤ length s → note_mark_at s at ≡ Some mark
    → (at ≤ mark.next) × (mark.next ≤ length s)
unfolding note_mark_at
note_mark_within s at mark h e =
    let m = mark_of_law at (note_accidental (drop at s)) mark e in
    let w = note_accidental_within (drop at s) mark.value m.0 in
    (omega (arith, m.1), omega (arith, m.1, length-drop at s))

mark_within : (s : List ℕ) (at : ℕ) (mark : Parsed Accidental) → at ≤ length s → mark_at s at ≡ Some mark
    → (at ≤ mark.next) × (mark.next ≤ length s)
unfolding mark_at
mark_within s at mark h e =
    let m = mark_of_law at (key_accidental (drop at s)) mark e in
    let w = key_accidental_within (drop at s) mark.value m.0 in
    (omega (arith, m.1), omega (arith, m.1, length-drop at s))

key_from_law : (letters : List ℕ) (m : Answer (Parsed Accidental)) (key : Parsed Key) → key_from letters m ≡ Some key
    → m ≡ Some (parsed key.value.accidental key.next)
unfolding key_from key_of
key_from_law letters (Some mark) key e =
    let h : parsed (key_of letters mark.value) mark.next ≡ key = cc in
    ap (λ (k : Parsed Key). Some (parsed k.value.accidental k.next)) h
key_from_law letters None key e = cc

-- a key, at a place within the text
pub key_within : (s : List ℕ) (at : ℕ) (key : Parsed Key) → at ≤ length s → key_at s at ≡ Some key → (at ≤ key.next) × (key.next ≤ length s)
unfolding key_at
key_within s at key h e =
    let ls = front is_key_letter (drop at s) in
    let w = front_within is_key_letter (drop at s) in
    let l = length-drop at s in
    let r = mark_within s (at + length ls) (parsed key.value.accidental key.next) (omega arith) (key_from_law ls (mark_at s (at + length ls)) key e) in
    (omega (arith, r.0), r.1)
