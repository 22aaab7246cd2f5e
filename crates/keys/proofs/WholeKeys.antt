-- What it means that a key is read to the end of its text, in document 01's words, both ways: "any run of letters a to
-- g, empty or repeating, then `+`, `-` or `=`", and nothing more. And that a key ends within its text. Assumes nothing.
use mathlib.Core.Path.{◌≡◌, refl, sym, ap, ap₂, subst, ◌∙◌}
use mathlib.Core.Bool.{Bool, true, false}
use mathlib.Core.Logic.{◌⊎◌, inl, inr}
use mathlib.Core.List.{List, [], ◌∷◌, ◌++◌}
use mathlib.Core.Option.{Option, none, some}
use Prim.Native.Nat.{ℕ, ◌+◌, ◌≤◌, ◌<◌}
use native.Mathlib.Omega.{arith}
use lib.Dec.{eqb}
use lib.ListN.{length, drop, length-append}
use borrow.Author.Tests.{eqb-true}
use Rattle.text.specs.Fronts.{front, after}
use Rattle.text.proofs.Fronts.{after_drop}
use Rattle.text.proofs.Passes.{Passes, front_passes, front_after, piece_front, piece_after}
use Rattle.keys.specs.declared.key.Accidental.{Accidental}
use Rattle.keys.specs.declared.key.Accidental.TheVariants.{Flat, Natural, Sharp}
use Rattle.keys.specs.Keys.{accidental_of, key_accidental, accidental_width, mark_of, mark_at}
use Rattle.keys.specs.Keys.{is_key_letter, key_from, key_at, key_width}
pub use Rattle.keys.proofs.OneOfThree.{KeysAccidental}

-- "any run of letters a to g", then an accidental
pub record WholeKey (t : List ℕ) : Type 0 where
  pub letters : List ℕ
  pub accidental : ℕ
  pub split : t ≡ letters ++ (accidental ∷ [])
  pub letters_alone : Passes is_key_letter letters
  pub one_of_three : KeysAccidental accidental

-- ---- accidentals

-- a byte that is an accidental is one of the three, which take a byte each
of_three : (b : ℕ) (a : Accidental) → accidental_of b ≡ some a → KeysAccidental b × (accidental_width a ≡ 1)
unfolding accidental_of accidental_width
of_three b a e = go (eqb b 43) (eqb b 45) (eqb b 61) refl refl refl e
  where
    wide : (c : Accidental) → some c ≡ some a → accidental_width c ≡ 1 → accidental_width a ≡ 1
    wide c q w = let z : c ≡ a = cc in subst (λ (x : Accidental). accidental_width x ≡ 1) z w

    go : (x y z : Bool) → eqb b 43 ≡ x → eqb b 45 ≡ y → eqb b 61 ≡ z
        → elim x as (λ _. Option Accidental) [
          | true ↦ some Sharp
          | false ↦
              elim y as (λ _. Option Accidental) [
                | true ↦ some Flat
                | false ↦ elim z as (λ _. Option Accidental) [ true ↦ some Natural | false ↦ none ]
              ]
        ] ≡ some a
        → KeysAccidental b × (accidental_width a ≡ 1)
    go true y z p q r k = (inl (eqb-true b 43 p), wide Sharp k refl)
    go false true z p q r k = (inr (inl (eqb-true b 45 q)), wide Flat k refl)
    go false false true p q r k = (inr (inr (eqb-true b 61 r)), wide Natural k refl)
    go false false false p q r k = let z : ◌≡◌ {A = ℕ} 0 1 = cc in absurd (omega arith)

three_are : (b : ℕ) → KeysAccidental b → (a : Accidental) × ((accidental_of b ≡ some a) × (accidental_width a ≡ 1))
unfolding accidental_of accidental_width
three_are b (inl e) = (Sharp, (ap accidental_of e, refl))
three_are b (inr (inl e)) = (Flat, (ap accidental_of e, refl))
three_are b (inr (inr e)) = (Natural, (ap accidental_of e, refl))

no_letter : (b : ℕ) → KeysAccidental b → is_key_letter b ≡ false
unfolding is_key_letter
no_letter b (inl e) = ap is_key_letter e
no_letter b (inr (inl e)) = ap is_key_letter e
no_letter b (inr (inr e)) = ap is_key_letter e

-- ---- where a key ends

-- behind letters that end at n, with the rest r
abbrev end_of : List ℕ → ℕ → List ℕ → ℕ
end_of letters n r = key_width (key_from letters (mark_of n (key_accidental r)))

end_is : (t : List ℕ)
    → key_width (key_at t 0) ≡ end_of (front is_key_letter t) (length (front is_key_letter t)) (after is_key_letter t)
unfolding key_at mark_at
end_is t =
    let ls = front is_key_letter t in
    ap (λ (n : ℕ). end_of ls n (drop n t)) (let z : 0 + length ls ≡ length ls = omega arith in z)
    ∙ ap (λ (r : List ℕ). end_of ls (length ls) r) (sym (after_drop is_key_letter t))

-- the rest begins with an accidental, and the key ends behind that
record Marked (letters : List ℕ) (n : ℕ) (r : List ℕ) : Type 0 where
  first : ℕ
  later : List ℕ
  split : r ≡ first ∷ later
  mark : KeysAccidental first
  end : end_of letters n r ≡ n + 1

-- there is no key, and its reading stopped at the start; or there is an accidental
end_read : (letters : List ℕ) (n : ℕ) (r : List ℕ) → (end_of letters n r ≡ 0) ⊎ Marked letters n r
unfolding key_accidental mark_of key_from key_width
end_read letters n [] = inl refl
end_read letters n (b ∷ s) = go (accidental_of b) refl
  where
    go : (o : Option Accidental) → accidental_of b ≡ o → (end_of letters n (b ∷ s) ≡ 0) ⊎ Marked letters n (b ∷ s)
    go none e = inl (ap (λ (o : Option Accidental). key_width (key_from letters (mark_of n o))) e)
    go (some a) e =
        let k = of_three b a e in
        let w = ap (λ (o : Option Accidental). key_width (key_from letters (mark_of n o))) e in
        inr (record { first = b; later = s; split = refl; mark = k.0; end = w ∙ ap (λ (i : ℕ). n + i) k.1 })

nothing : (s : List ℕ) → length s ≡ 0 → s ≡ []
nothing [] e = refl
nothing (c ∷ u) e = absurd (omega (arith, e))

module _ (t : List ℕ) where
  abbrev ls : List ℕ
  ls = front is_key_letter t

  abbrev rest : List ℕ
  rest = after is_key_letter t

  cut : ls ++ rest ≡ t
  cut = front_after is_key_letter t

  long : length ls + length rest ≡ length t
  long = sym (length-append ls rest) ∙ ap length cut

  pub key_within : key_width (key_at t 0) ≤ length t
  key_within =
      elim (end_read ls (length ls) rest) [
        | inl z ↦ omega (arith, end_is t, z)
        | inr k ↦ omega (arith, end_is t, long, ap length k.split, k.end)
      ]

  pub key_in_words : 0 < length t → key_width (key_at t 0) ≡ length t → WholeKey t
  key_in_words there w = go (end_read ls (length ls) rest)
    where
      go : (end_of ls (length ls) rest ≡ 0) ⊎ Marked ls (length ls) rest → WholeKey t
      go (inl z) = absurd (omega (arith, there, w, end_is t, z))
      go (inr k) =
          let none-later = nothing k.later (omega (arith, w, end_is t, long, ap length k.split, k.end)) in
          let last : rest ≡ k.first ∷ [] = k.split ∙ ap (λ (s : List ℕ). k.first ∷ s) none-later in
          record {
            letters = ls;
            accidental = k.first;
            split = sym cut ∙ ap (λ (r : List ℕ). ls ++ r) last;
            letters_alone = front_passes is_key_letter t;
            one_of_three = k.mark;
          }

pub words_key : (t : List ℕ) → WholeKey t → key_width (key_at t 0) ≡ length t
unfolding key_accidental mark_of key_from key_width
words_key t w =
    let b = w.accidental in
    let a = three_are b w.one_of_three in
    let stop = no_letter b w.one_of_three in
    end_is t
    ∙ ap (λ (s : List ℕ). end_of (front is_key_letter s) (length (front is_key_letter s)) (after is_key_letter s)) w.split
    ∙ ap₂ (λ (l r : List ℕ). end_of l (length l) r)
    (piece_front is_key_letter w.letters (b ∷ []) w.letters_alone stop)
    (piece_after is_key_letter w.letters (b ∷ []) w.letters_alone stop)
    ∙ ap (λ (o : Option Accidental). key_width (key_from w.letters (mark_of (length w.letters) o))) a.1.0
    ∙ omega (arith, a.1.1, ap length w.split ∙ length-append w.letters (b ∷ []))
