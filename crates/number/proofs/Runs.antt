-- Laws of digit runs: what one more digit adds to a value, and when a run is a number.
-- Code that walks a text by index cites these, and never the definitions' text. Assumes nothing.
use mathlib.Core.Path.{◌≡◌, refl, sym, ap, subst, ◌∙◌}
use mathlib.Core.Bool.{Bool, true, false}
use mathlib.Core.List.{List, [], ◌∷◌, ◌++◌}
use Prim.Native.Nat.{ℕ, suc, ◌+◌, ◌-◌, ◌*◌, ◌^◌, ◌≤◌, ◌<◌, zero-le}
use native.Mathlib.Nat.{le_refl, le_trans, le_of_eq, lt_of_lt_of_le, mul_assoc, mul-le-mul_right, pow-succ'}
use native.Mathlib.Omega.{arith}
use lib.Dec.{T, leb, leb→le}
use native.Mathlib.Numerals.{add-one}
use lib.ListN.{length, drop, get_or}
use lib.Seq.{drop-cons}
use lib.Ieee.Fits.{and_r}
use borrow.Author.Tests.{leb-true, leb-false, le-leb, lt-leb}
use Rattle.std.specs.Prelude.{Option, Some, None}
use Rattle.text.specs.Fronts.{front}
use Rattle.text.specs.Parsed.{parsed}
use Rattle.text.specs.declared.parsed.Parsed.{Parsed}
use Rattle.text.proofs.Fronts.{cons_true, cons_false, front_end, front_more, length_more}
use Rattle.number.specs.Digits.{is_digit, value_from, int_of, int_at}

-- more digits never make a value smaller
pub value_grows : (v : ℕ) (ds : List ℕ) → v ≤ value_from v ds
unfolding value_from
value_grows v [] = le_refl v
value_grows v (d ∷ ds) = le_trans (omega arith) (value_grows (v * 10 + (d - 48)) ds)

-- one more digit is read first
pub value_more : (v : ℕ) (ds : List ℕ) (i : ℕ) → i < length ds
    → value_from v (drop i ds) ≡ value_from (v * 10 + (get_or ds i 0 - 48)) (drop (i + 1) ds)
unfolding value_from
value_more v ds i h = rw (add-one, drop-cons ds i 0 h)

-- ---- when a run is a number

over : (limit i : ℕ) (ds : List ℕ) → limit < value_from 0 ds → None ≡ int_of limit i ds
unfolding int_of
over limit i [] h = refl
over limit i (d ∷ ds) h = rw (lt-leb _ _ h, int_of)

none : (limit i : ℕ) (ds : List ℕ) → length ds ≡ 0 → None ≡ int_of limit i ds
unfolding int_of
none limit i [] h = refl
none limit i (d ∷ ds) h = absurd (omega arith)

some : (limit i v : ℕ) (ds : List ℕ) → 0 < length ds → v ≡ value_from 0 ds → v ≤ limit → Some (parsed v (i + length ds)) ≡ int_of limit i ds
unfolding int_of
some limit i v [] h w b = absurd (omega arith)
some limit i v (d ∷ ds) h w b =
    rw (le-leb (value_from 0 (d ∷ ds)) limit (omega arith), int_of) (ap (λ (n : ℕ). Some (parsed n (i + length (d ∷ ds)))) w)

stopped : (limit i : ℕ) (ds : List ℕ) (at v : ℕ) → v ≡ value_from 0 ds → at ≡ i + length ds → v ≤ limit
    → (r : Option (Parsed ℕ)) → (at ≡ i → r ≡ None) → ((at ≡ i → ⊥) → r ≡ Some (parsed v at)) → r ≡ int_of limit i ds
unfolding int_of
stopped limit i [] at v e p b r none some = none (omega arith)
stopped limit i (d ∷ ds) at v e p b r none some =
    rw (le-leb (value_from 0 (d ∷ ds)) limit (omega arith), int_of) (some (λ (q : at ≡ i). omega arith) ∙ cc)

-- the digits ds stand at the place i
module _ (limit i : ℕ) (s ds : List ℕ) (e : ds ≡ front is_digit (drop i s)) where
  int_at_is : int_of limit i ds ≡ int_at limit s i
  unfolding int_at
  int_at_is = ap (int_of limit i) e

  -- over the limit
  pub int_over : limit < value_from 0 ds → None ≡ int_at limit s i
  int_over h = over limit i ds h ∙ int_at_is

  -- there are none
  pub int_none : length ds ≡ 0 → None ≡ int_at limit s i
  int_none h = none limit i ds h ∙ int_at_is

  -- their number is within the limit
  pub int_some : (v : ℕ) → 0 < length ds → v ≡ value_from 0 ds → v ≤ limit → Some (parsed v (i + length ds)) ≡ int_at limit s i
  int_some v h w b = some limit i v ds h w b ∙ int_at_is

-- ---- bounds

digit_small : (b : ℕ) → is_digit b ≡ true → b - 48 ≤ 9
unfolding is_digit
digit_small b e =
    let h : b ≤ 57 = leb→le b 57 (and_r (leb 48 b) (leb b 57) (subst (λ (t : Bool). T t) (sym e) tt)) in
    omega arith

-- one more digit keeps a value below ten times what it was below
pub digit_below : (v b l : ℕ) → is_digit b ≡ true → (v * 10 + (b - 48) + 1) * 10 ^ l ≤ (v + 1) * 10 ^ suc l
digit_below v b l e =
    let h : v * 10 + (b - 48) + 1 ≤ (v + 1) * 10 = omega (arith, digit_small b e) in
    le_trans (mul-le-mul_right (10 ^ l) h) (le_of_eq (mul_assoc (v + 1) 10 (10 ^ l) ∙ ap (λ (x : ℕ). (v + 1) * x) (sym (pow-succ' 10 l))))

below_cons : (v b : ℕ) (s : List ℕ) → ((w : ℕ) → value_from w (front is_digit s) < (w + 1) * 10 ^ length (front is_digit s))
    → (t : Bool) → is_digit b ≡ t → value_from v (front is_digit (b ∷ s)) < (v + 1) * 10 ^ length (front is_digit (b ∷ s))
unfolding value_from
below_cons v b s ih true e =
    rw (cons_true is_digit b s e) (lt_of_lt_of_le (ih (v * 10 + (b - 48))) (digit_below v b (length (front is_digit s)) e))
below_cons v b s ih false e = rw (cons_false is_digit b s e) (omega arith)

-- l digits after v make less than (v + 1) times 10 ^ l
pub value_below : (v : ℕ) (s : List ℕ) → value_from v (front is_digit s) < (v + 1) * 10 ^ length (front is_digit s)
unfolding value_from front
value_below v [] = omega arith
value_below v (b ∷ s) = below_cons v b s (λ w. value_below w s) (is_digit b) refl

-- digits in two runs are read one run after the other
pub value_append : (v : ℕ) (ds es : List ℕ) → value_from v (ds ++ es) ≡ value_from (value_from v ds) es
unfolding value_from
value_append v [] es = refl
value_append v (d ∷ ds) es = value_append (v * 10 + (d - 48)) ds es

-- ---- reading a number digit by digit

-- the digits from i up to `at` make v, within the limit: what is still to come of the run ends where the run ends, and makes its value
pub record Reading (limit : ℕ) (s : List ℕ) (i at v : ℕ) : Type 0 where
  pub value : value_from v (front is_digit (drop at s)) ≡ value_from 0 (front is_digit (drop i s))
  pub place : at + length (front is_digit (drop at s)) ≡ i + length (front is_digit (drop i s))
  pub below : v ≤ limit

pub reading_none : (limit : ℕ) (s : List ℕ) (i : ℕ) → Reading limit s i i 0
reading_none limit s i = record { value = refl; place = refl; below = zero-le }

module _ (limit : ℕ) (s : List ℕ) (i at v : ℕ) (h : Reading limit s i at v) where
  next : at < length s → is_digit (get_or s at 0) ≡ true → value_from (v * 10 + (get_or s at 0 - 48)) (front is_digit (drop (at + 1) s)) ≡ value_from 0 (front is_digit (drop i s))
  unfolding value_from
  next l e = sym (ap (value_from v) (front_more is_digit s at l e)) ∙ h.value

  pub reading_more : at < length s → is_digit (get_or s at 0) ≡ true → v * 10 + (get_or s at 0 - 48) ≤ limit
      → Reading limit s i (at + 1) (v * 10 + (get_or s at 0 - 48))
  reading_more l e b =
      record { value = next l e; place = omega (arith, length_more is_digit s at l e, h.place); below = b }

  pub reading_over : at < length s → is_digit (get_or s at 0) ≡ true → limit < v * 10 + (get_or s at 0 - 48) → None ≡ int_at limit s i
  reading_over l e b =
      int_over limit i s (front is_digit (drop i s)) refl (omega (arith, next l e, value_grows (v * 10 + (get_or s at 0 - 48)) (front is_digit (drop (at + 1) s))))

  pub reading_stopped : front is_digit (drop at s) ≡ [] → (r : Option (Parsed ℕ)) → (at ≡ i → r ≡ None) → ((at ≡ i → ⊥) → r ≡ Some (parsed v at)) → r ≡ int_at limit s i
  unfolding int_at value_from
  reading_stopped e r none some =
      stopped limit i (front is_digit (drop i s)) at v (sym (ap (value_from v) e) ∙ h.value) (omega (arith, ap length e, h.place)) h.below r none some

  -- the text ends: behind its last byte, or at the place itself where that is past the end
  pub reading_ended : i ≤ at → (i ≤ length s → at ≤ length s) → length s ≤ at → (r : Option (Parsed ℕ))
      → (length s ≤ i → r ≡ None) → (i < length s → r ≡ Some (parsed v (length s))) → r ≡ int_at limit s i
  reading_ended a b e r none some = go (leb (length s) i) refl where
    go : (t : Bool) → leb (length s) i ≡ t → r ≡ int_at limit s i
    go true q =
        none (leb-true _ _ q) ∙ int_none limit i s (front is_digit (drop i s)) refl (ap length (front_end is_digit s i (leb-true _ _ q)))
    go false q =
        let m : at ≡ length s = omega (arith, leb-false _ _ q, b) in
        reading_stopped (front_end is_digit s at e) r (λ (k : at ≡ i). absurd (omega (arith, leb-false _ _ q)))
        (λ (k : at ≡ i → ⊥). some (leb-false _ _ q) ∙ ap (λ (n : ℕ). Some (parsed v n)) (sym m))
