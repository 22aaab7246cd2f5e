-- A number read at a place of a text is the number that the part from there up to any later blank, or up to the text's end, begins with.
-- So a token may be read where it stands, and "read to its end" says the same of both. Assumes nothing.
use mathlib.Core.Path.{◌≡◌, refl, sym, ap, ap₂, ◌∙◌}
use mathlib.Core.Bool.{Bool, true, false}
use mathlib.Core.List.{List, [], ◌∷◌, ◌++◌}
use Prim.Native.Nat.{ℕ, ◌+◌, ◌-◌, ◌≤◌}
use native.Mathlib.Nat.{zero-add}
use native.Mathlib.Omega.{arith}
use lib.Dec.{leb, eqb}
use lib.ListN.{length, take, drop}
use lib.Seq.{drop-drop}
use borrow.Author.Tests.{lt-leb, ne_eqb}
use Rattle.text.specs.Blanks.{is_ink}
use Rattle.text.specs.Characters.{starts_with}
use Rattle.text.specs.Fronts.{front, after}
use Rattle.text.proofs.Fronts.{Stops}
use Rattle.text.proofs.Joins.{front_joined, after_joined, part_joined, ink_stops, blank_small}
use Rattle.std.specs.Prelude.{Float, Option, Some, None, Result, Ok, Err}
use Rattle.text.specs.declared.parsed.Parsed.{Parsed}
use Rattle.text.specs.Parsed.{parsed}
use Rattle.number.specs.declared.decimal.NoDecimal.{NoDecimal}
use Rattle.number.specs.declared.decimal.NoDecimal.TheVariants.{TooLong}
use Rattle.number.specs.Digits.{is_digit, value_from, int_of, int_at}
use Rattle.number.specs.Decimal.{nearest_to, judged, pointed, ended, begun, decimal_at}
use Rattle.number.proofs.Decimals.{ended_other}

-- ---- the same text further on

-- an answer for a text that stands k bytes further on
abbrev pub int_moved : ℕ → Option (Parsed ℕ) → Option (Parsed ℕ)
int_moved k (Some found) = Some (parsed found.value (k + found.next))
int_moved k None = None

abbrev pub decimal_moved : ℕ → Result (Parsed Float) NoDecimal → Result (Parsed Float) NoDecimal
decimal_moved k (Ok found) = Ok (parsed found.value (k + found.next))
decimal_moved k (Err why) = Err why

int_of_moved : (limit at : ℕ) (ds : List ℕ) → int_of limit at ds ≡ int_moved at (int_of limit 0 ds)
unfolding int_of
int_of_moved limit at [] = refl
int_of_moved limit at (d ∷ ds) = go (leb (value_from 0 (d ∷ ds)) limit)
  where
    v : ℕ
    v = value_from 0 (d ∷ ds)

    go : (b : Bool)
        → (elim b as (λ _. Option (Parsed ℕ)) [ true ↦ Some (parsed v (at + length (d ∷ ds))) | false ↦ None ])
        ≡ int_moved at (elim b as (λ _. Option (Parsed ℕ)) [ true ↦ Some (parsed v (0 + length (d ∷ ds))) | false ↦ None ])
    go true = ap (λ (n : ℕ). Some (parsed v (at + n))) (sym (zero-add (length (d ∷ ds))))
    go false = refl

-- a digit run at a place is that of the text from there on, moved
pub int_moved_law : (limit : ℕ) (s : List ℕ) (at : ℕ) → int_at limit s at ≡ int_moved at (int_at limit (drop at s) 0)
unfolding int_at
int_moved_law limit s at = int_of_moved limit at (front is_digit (drop at s))

moved_twice : (k at : ℕ) (n : Option (Parsed ℕ)) → int_moved (k + at) n ≡ int_moved k (int_moved at n)
moved_twice k at (Some found) = ap (λ (n : ℕ). Some (parsed found.value n)) (omega arith)
moved_twice k at None = refl

-- and so where the place is counted from an earlier one
pub int_later : (limit : ℕ) (s : List ℕ) (k at : ℕ) → int_at limit s (k + at) ≡ int_moved k (int_at limit (drop k s) at)
int_later limit s k at =
    int_moved_law limit s (k + at)
    ∙ ap (λ (l : List ℕ). int_moved (k + at) (int_at limit l 0)) (sym (drop-drop at k s))
    ∙ moved_twice k at (int_at limit (drop at (drop k s)) 0)
    ∙ ap (int_moved k) (sym (int_moved_law limit (drop k s) at))

judged_moved : (at : ℕ) (ds es : List ℕ) (n : ℕ) → judged ds es (at + n) ≡ decimal_moved at (judged ds es n)
unfolding judged
judged_moved at ds es n = go (leb (length ds + length es) 18)
  where
    go : (b : Bool)
        → (elim b as (λ _. Result (Parsed Float) NoDecimal) [ true ↦ Ok (parsed (nearest_to ds es) (at + n)) | false ↦ Err TooLong ])
        ≡ decimal_moved at (elim b as (λ _. Result (Parsed Float) NoDecimal) [ true ↦ Ok (parsed (nearest_to ds es) n) | false ↦ Err TooLong ])
    go true = refl
    go false = refl

judged_at : (at : ℕ) (ds es : List ℕ) (m n : ℕ) → m ≡ at + n → judged ds es m ≡ decimal_moved at (judged ds es n)
judged_at at ds es m n e = ap (judged ds es) e ∙ judged_moved at ds es n

pointed_moved : (at : ℕ) (ds es : List ℕ) → pointed at ds es ≡ decimal_moved at (pointed 0 ds es)
unfolding pointed
pointed_moved at ds [] = refl
pointed_moved at ds (e ∷ es) = judged_at at ds (e ∷ es) _ _ (omega arith)

ended_moved : (at : ℕ) (ds rest : List ℕ) → ended at ds rest ≡ decimal_moved at (ended 0 ds rest)
unfolding ended
ended_moved at ds [] = judged_at at ds [] _ _ (omega arith)
ended_moved at ds (c ∷ r) = go (eqb c 46)
  where
    go : (b : Bool)
        → (elim b as (λ _. Result (Parsed Float) NoDecimal) [ true ↦ pointed at ds (front is_digit r) | false ↦ judged ds [] (at + length ds) ])
        ≡ decimal_moved at (elim b as (λ _. Result (Parsed Float) NoDecimal) [ true ↦ pointed 0 ds (front is_digit r) | false ↦ judged ds [] (0 + length ds) ])
    go true = pointed_moved at ds (front is_digit r)
    go false = judged_at at ds [] _ _ (omega arith)

begun_moved : (at : ℕ) (ds rest : List ℕ) → begun at ds rest ≡ decimal_moved at (begun 0 ds rest)
unfolding begun
begun_moved at [] rest = refl
begun_moved at (d ∷ ds) rest = ended_moved at (d ∷ ds) rest

-- a decimal at a place is that of the text from there on, moved
pub decimal_moved_law : (s : List ℕ) (at : ℕ) → decimal_at s at ≡ decimal_moved at (decimal_at (drop at s) 0)
unfolding decimal_at
decimal_moved_law s at = begun_moved at (front is_digit (drop at s)) (after is_digit (drop at s))

-- ---- a blank, or the end, after the text

not_digit : (b : ℕ) → is_ink b ≡ false → is_digit b ≡ false
unfolding is_digit
not_digit b e = let h = blank_small b e in rw (lt-leb 48 b (omega arith))

not_point : (b : ℕ) → is_ink b ≡ false → eqb b 46 ≡ false
not_point b h = ne_eqb b 46 (λ (e : b ≡ 46). omega (arith, blank_small b h))

ended_joined : (ds rest t : List ℕ) → Stops is_ink t → ended 0 ds (rest ++ t) ≡ ended 0 ds rest
unfolding ended starts_with
ended_joined ds [] [] h = refl
ended_joined ds [] (b ∷ t) h = ended_other 0 ds (b ∷ t) (not_point b h)
ended_joined ds (c ∷ r) t h =
    ap
    (λ (es : List ℕ). elim (eqb c 46) as (λ _. Result (Parsed Float) NoDecimal) [ true ↦ pointed 0 ds es | false ↦ judged ds [] (0 + length ds) ])
    (front_joined is_digit r t (ink_stops is_digit not_digit t h))

begun_joined : (ds rest t : List ℕ) → Stops is_ink t → begun 0 ds (rest ++ t) ≡ begun 0 ds rest
unfolding begun
begun_joined [] rest t h = refl
begun_joined (d ∷ ds) rest t h = ended_joined (d ∷ ds) rest t h

module _ (s t : List ℕ) (h : Stops is_ink t) where
  runs_joined : front is_digit (s ++ t) ≡ front is_digit s
  runs_joined = front_joined is_digit s t (ink_stops is_digit not_digit t h)

  int_joined : (limit : ℕ) → int_at limit (s ++ t) 0 ≡ int_at limit s 0
  unfolding int_at
  int_joined limit = ap (int_of limit 0) runs_joined

  decimal_joined : decimal_at (s ++ t) 0 ≡ decimal_at s 0
  unfolding decimal_at
  decimal_joined =
      ap₂ (begun 0) runs_joined (after_joined is_digit s t (ink_stops is_digit not_digit t h))
      ∙ begun_joined (front is_digit s) (after is_digit s) t h

-- ---- a token

-- from place `at` of s up to `end`, where a blank stands or the text has ended
module _ (s : List ℕ) (at end : ℕ) (o : at ≤ end) (h : Stops is_ink (drop end s)) where
  pub int_token : (limit : ℕ) → int_at limit s at ≡ int_moved at (int_at limit (take (end - at) (drop at s)) 0)
  int_token limit =
      int_moved_law limit s at ∙ ap (λ (l : List ℕ). int_moved at (int_at limit l 0)) (part_joined s at end o)
      ∙ ap (int_moved at) (int_joined (take (end - at) (drop at s)) (drop end s) h limit)

  pub decimal_token : decimal_at s at ≡ decimal_moved at (decimal_at (take (end - at) (drop at s)) 0)
  decimal_token =
      decimal_moved_law s at ∙ ap (λ (l : List ℕ). decimal_moved at (decimal_at l 0)) (part_joined s at end o)
      ∙ ap (decimal_moved at) (decimal_joined (take (end - at) (drop at s)) (drop end s) h)
