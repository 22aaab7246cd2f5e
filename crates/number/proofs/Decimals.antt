-- Laws of decimals: when the digits of both sides are judged too long or a value, and that 18 digits stay below 10 ^ 18.
-- The readers' proofs cite these, and never the definitions' text. Assumes nothing.
use mathlib.Core.Path.{◌≡◌, refl, sym, ap, ◌∙◌}
use mathlib.Core.Bool.{true, false}
use mathlib.Core.List.{List, [], ◌∷◌}
use Prim.Native.Nat.{ℕ, ◌+◌, ◌*◌, ◌^◌, ◌≤◌, ◌<◌}
use native.Mathlib.Nat.{le_trans, le_of_eq, lt_of_lt_of_le, mul-le-mul_right, pow-le-pow_right, one-le-pow, one-mul}
use native.Mathlib.Omega.{arith}
use lib.ListN.{length, drop}
use lib.Seq.{drop-drop}
use lib.Pow.{pow-add}
use lib.Ieee.{Float, binary32, round}
use borrow.Author.Tests.{le-leb, lt-leb}
use Rattle.std.specs.Prelude.{Ok, Err}
use Rattle.text.specs.Parsed.{parsed}
use Rattle.number.specs.declared.decimal.NoDecimal.TheVariants.{Unreadable, TooLong}
use Rattle.text.specs.Characters.{starts_with}
use Rattle.text.specs.Fronts.{front, after}
use Rattle.number.specs.Digits.{is_digit, value_from}
use Rattle.number.specs.Decimal.{nearest_to, judged, pointed, ended, begun, decimal_at}
use Rattle.text.proofs.Fronts.{after_is}
use Rattle.number.proofs.Runs.{value_below, value_append}

-- over 18 digits
pub judged_long : (ds es : List ℕ) (next : ℕ) → 18 < length ds + length es → Err TooLong ≡ judged ds es next
unfolding judged
judged_long ds es next h = rw (lt-leb _ _ h, judged)

-- up to 18 digits
pub judged_value : (ds es : List ℕ) (next : ℕ) (x : Float) → length ds + length es ≤ 18
    → x ≡ round binary32 false (value_from (value_from 0 ds) es) (10 ^ length es) → Ok (parsed x next) ≡ judged ds es next
unfolding judged nearest_to
judged_value ds es next x h e = rw (le-leb _ _ h, judged) (ap (λ (y : Float). Ok (parsed y next)) (e ∙ ap (λ (n : ℕ). round binary32 false n (10 ^ length es)) (sym (value_append 0 ds es))))

-- up to 18 digits make less than 10 ^ 18
pub room_first : (s : List ℕ) → length (front is_digit s) ≤ 18 → (0 + 1) * 10 ^ length (front is_digit s) ≤ 10 ^ 18
room_first s h = le_trans (le_of_eq (one-mul (10 ^ length (front is_digit s)))) (pow-le-pow_right (omega arith) h)

-- and so do those of both sides, one read after the other
pub room_second : (s t : List ℕ) → length (front is_digit s) + length (front is_digit t) ≤ 18
    → (value_from 0 (front is_digit s) + 1) * 10 ^ length (front is_digit t) ≤ 10 ^ 18
room_second s t h =
    let a = length (front is_digit s) in
    let b = length (front is_digit t) in
    let v : value_from 0 (front is_digit s) + 1 ≤ 10 ^ a = omega (arith, value_below 0 s) in
    le_trans (mul-le-mul_right (10 ^ b) v) (le_trans (le_of_eq (sym (pow-add 10 a b))) (pow-le-pow_right (omega arith) h))

-- what fits the room is below it
pub value_room : (v : ℕ) (s : List ℕ) → (v + 1) * 10 ^ length (front is_digit s) ≤ 10 ^ 18 → value_from v (front is_digit s) < 10 ^ 18
value_room v s h = lt_of_lt_of_le (value_below v s) h

-- digits of both sides, up to 18
module _ (ds es : List ℕ) (d : front is_digit ds ≡ ds) (e : front is_digit es ≡ es) (few : length ds + length es ≤ 18) where
  pub before_small : value_from 0 ds < 10 ^ 18
  before_small = rw d at (value_room 0 ds (room_first ds (omega (arith, ap length d))))

  pub both_small : (v : ℕ) → v ≡ value_from 0 ds → value_from v es < 10 ^ 18
  both_small v q =
      let h = value_room (value_from 0 (front is_digit ds)) es (room_second ds es (omega (arith, ap length d, ap length e))) in
      rw q (rw (d, e) at h)

-- what the digits behind the point are counted in
pub power_some : (es : List ℕ) → 0 < 10 ^ length es
power_some es = one-le-pow (length es) 10 (omega arith)

pub power_small : (es : List ℕ) → length es ≤ 18 → 10 ^ length es ≤ 10 ^ 18
power_small es h = pow-le-pow_right (omega arith) h

-- ---- after the point

pub pointed_none : (at : ℕ) (ds es : List ℕ) → length es ≡ 0 → Err Unreadable ≡ pointed at ds es
unfolding pointed
pointed_none at ds [] h = refl
pointed_none at ds (e ∷ es) h = absurd (omega arith)

pub pointed_some : (at : ℕ) (ds es : List ℕ) (next : ℕ) → 0 < length es → next ≡ at + length ds + 1 + length es → judged ds es next ≡ pointed at ds es
unfolding pointed
pointed_some at ds [] next h e = absurd (omega arith)
pointed_some at ds (d ∷ es) next h e = ap (judged ds (d ∷ es)) e

-- ---- at a place of a text

begun_some : (i : ℕ) (ds rest : List ℕ) → 0 < length ds → begun i ds rest ≡ ended i ds rest
unfolding begun
begun_some i [] rest h = absurd (omega arith)
begun_some i (d ∷ ds) rest h = refl

begun_none : (i : ℕ) (ds rest : List ℕ) → length ds ≡ 0 → begun i ds rest ≡ Err Unreadable
unfolding begun
begun_none i [] rest h = refl
begun_none i (d ∷ ds) rest h = absurd (omega arith)

-- no point follows the first digits
pub ended_other : (i : ℕ) (ds rest : List ℕ) → starts_with 46 rest ≡ false → ended i ds rest ≡ judged ds [] (i + length ds)
unfolding ended starts_with
ended_other i ds [] h = refl
ended_other i ds (b ∷ rest) h = rw (h, ended)

-- a point does
ended_point : (i : ℕ) (ds rest : List ℕ) → starts_with 46 rest ≡ true → ended i ds rest ≡ pointed i ds (front is_digit (drop 1 rest))
unfolding ended starts_with
ended_point i ds [] h = cc
ended_point i ds (b ∷ rest) h = rw (h, ended)

-- the digits ds stand at the place i
module _ (s : List ℕ) (i : ℕ) (ds : List ℕ) (e : ds ≡ front is_digit (drop i s)) where
  -- there are none
  pub decimal_none : length ds ≡ 0 → Err Unreadable ≡ decimal_at s i
  unfolding decimal_at
  decimal_none h = sym (begun_none i ds (after is_digit (drop i s)) h) ∙ ap (λ (fs : List ℕ). begun i fs (after is_digit (drop i s))) e

  ends : 0 < length ds → decimal_at s i ≡ ended i ds (drop (i + length ds) s)
  unfolding decimal_at
  ends h =
      ap (λ (fs : List ℕ). begun i fs (after is_digit (drop i s))) (sym e)
      ∙ begun_some i ds (after is_digit (drop i s)) h
      ∙ ap (ended i ds) (after_is is_digit s i ∙ ap (λ (fs : List ℕ). drop (i + length fs) s) (sym e))

  -- no point follows them
  pub decimal_whole : 0 < length ds → starts_with 46 (drop (i + length ds) s) ≡ false → judged ds [] (i + length ds) ≡ decimal_at s i
  decimal_whole h n = sym (ends h ∙ ended_other i ds (drop (i + length ds) s) n)

  -- a point follows them, and then the digits es
  pub decimal_pointed : (es : List ℕ) → 0 < length ds → starts_with 46 (drop (i + length ds) s) ≡ true
      → es ≡ front is_digit (drop (i + length ds + 1) s) → pointed i ds es ≡ decimal_at s i
  decimal_pointed es h p f =
      sym
      (ends h ∙ ended_point i ds (drop (i + length ds) s) p
      ∙ ap (λ (t : List ℕ). pointed i ds (front is_digit t)) (drop-drop 1 (i + length ds) s) ∙ ap (pointed i ds) (sym f))
