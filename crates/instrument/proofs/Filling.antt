-- Filling a slice from the front: with i values mixed in, n more make i + n. Nothing here looks at what the values are.
-- Assumes nothing.
use Rattle.std.proofs.Common.{◌≡◌, ℕ, zero, suc, ◌+◌, ◌-◌, ◌<◌, ◌≤◌, Bool, true, false, ltb, List, [], ◌∷◌, ◌++◌, length, slice_range, get_or, take, drop, set, pos, sym, refl, ap, ◌∙◌, ap₂, le_refl, le_of_lt, le_of_suc-le-suc, not-suc-le-zero, add-zero, add-suc, suc-add, zero-add, add-one, arith, rules, length-append, length-drop, length-take-le, drop-cons, take-suc, get_or-drop, get_or-take, get_or-append-add, ext_get_or, ltb-false, ltb-true}
use lib.Seq.{set_at, append_snoc}
use borrow.Rule.Slice.PartMut.{put_mid}
use lib.ListN.{get_or-append}
use lib.Ieee.{Float, nan, binary32, mul, div, of_int}
use Rattle.std.proofs.lemmas.List.{places}
use Rattle.std.proofs.lemmas.List.Edits.{get_or-between, length-between}
use Rattle.ieee.specs.Constants.{one}
use Rattle.operator.specs.Lanes.{Lanes}
use Rattle.instrument.specs.declared.machine.Instrument.{Instrument}
use Rattle.instrument.specs.Fill.{mixed, mixed_from, time_at}
use Rattle.instrument.specs.Lanes.{Front, MixesLanes}
use Rattle.instrument.specs.Lent.{instrument_by, sound_by}

module _ (v : ℕ → Float) (added : ℕ) where
  pub length_mixed : (i : ℕ) (xs : List Float) → length (mixed_from v added i xs) ≡ length xs
  unfolding mixed_from
  length_mixed i [] = refl
  length_mixed i (x ∷ xs) = ap suc (length_mixed (suc i) xs)

  -- place k of a list mixed from i on
  pub mixed_at : (i : ℕ) (xs : List Float) (k : ℕ) → k < length xs → get_or (mixed_from v added i xs) k nan ≡ mixed added (i + k) (get_or xs k nan) (v (i + k))
  unfolding mixed_from
  mixed_at i [] k h = absurd (not-suc-le-zero h)
  mixed_at i (x ∷ xs) zero h = ap (λ (n : ℕ). mixed added n x (v n)) (sym (add-zero i))
  mixed_at i (x ∷ xs) (suc k) h =
      mixed_at (suc i) xs k (le_of_suc-le-suc h) ∙ ap (λ (n : ℕ). mixed added n (get_or xs k nan) (v n)) (suc-add i k ∙ sym (add-suc i k))

  pub front_none : (xs : List Float) → xs ≡ Front v added 0 xs
  unfolding Front mixed_from
  front_none xs = refl

  module _ (i : ℕ) (xs : List Float) (h : i ≤ length xs) where
    new_length : length (mixed_from v added 0 (take i xs)) ≡ i
    new_length = length_mixed 0 (take i xs) ∙ length-take-le i xs h

    pub front_length : length (Front v added i xs) ≡ length xs
    unfolding Front
    front_length = omega (arith, length-append (mixed_from v added 0 (take i xs)) (drop i xs), new_length, length-drop i xs)

    -- a value in the front, and what still stands behind it
    front_new : (k : ℕ) → k < i → get_or (Front v added i xs) k nan ≡ mixed added k (get_or xs k nan) (v k)
    unfolding Front
    front_new k l =
        get_or-append (mixed_from v added 0 (take i xs)) (drop i xs) nan k (omega (arith, new_length))
        ∙ mixed_at 0 (take i xs) k (omega (arith, length-take-le i xs h))
        ∙ ap₂ (λ (n : ℕ) (x : Float). mixed added n x (v n)) (zero-add k) (get_or-take i xs k nan l)

    front_old : (k : ℕ) → i ≤ k → get_or (Front v added i xs) k nan ≡ get_or xs k nan
    unfolding Front
    front_old k l =
        let F = mixed_from v added 0 (take i xs) in
        let o : k ≡ length F + (k - i) = omega (arith, new_length) in
        let q : i + (k - i) ≡ k = omega arith in
        ap (λ (m : ℕ). get_or (F ++ drop i xs) m nan) o ∙ get_or-append-add F (drop i xs) (k - i) nan ∙ get_or-drop i xs (k - i) nan ∙ ap (λ (m : ℕ). get_or xs m nan) q

  -- ---- one store

  -- one more element at the end
  mixed_snoc : (j : ℕ) (xs : List Float) (x : Float)
      → mixed_from v added j (xs ++ (x ∷ [])) ≡ mixed_from v added j xs ++ (mixed added (j + length xs) x (v (j + length xs)) ∷ [])
  unfolding mixed_from
  mixed_snoc j [] x = ap (λ (n : ℕ). mixed added n x (v n) ∷ []) (sym (add-zero j))
  mixed_snoc j (y ∷ ys) x =
      ap (λ (l : List Float). mixed added j y (v j) ∷ l)
      (mixed_snoc (suc j) ys x ∙ ap (λ (n : ℕ). mixed_from v added (suc j) ys ++ (mixed added n x (v n) ∷ [])) (suc-add j (length ys) ∙ sym (add-suc j (length ys))))

  -- what still stands at place i
  pub front_at : (i : ℕ) (xs : List Float) → i < length xs → get_or (Front v added i xs) i nan ≡ get_or xs i nan
  front_at i xs h = front_old i xs (le_of_lt h) i (le_refl i)

  -- the next value
  pub front_more : (i : ℕ) (xs : List Float) (y : Float) → i < length xs → y ≡ mixed added i (get_or xs i nan) (v i) → set (Front v added i xs) i y ≡ Front v added (i + 1) xs
  unfolding Front
  front_more i xs y h e =
      let F = mixed_from v added 0 (take i xs) in
      let n : length F ≡ i = length_mixed 0 (take i xs) ∙ length-take-le i xs (le_of_lt h) in
      let m : mixed_from v added 0 (take (suc i) xs) ≡ F ++ (y ∷ []) =
      ap (mixed_from v added 0) (take-suc xs i nan h)
      ∙ mixed_snoc 0 (take i xs) (get_or xs i nan)
      ∙ ap (λ (k : ℕ). F ++ (mixed added k (get_or xs i nan) (v k) ∷ [])) (zero-add (length (take i xs)) ∙ length-take-le i xs (le_of_lt h))
      ∙ ap (λ (z : Float). F ++ (z ∷ [])) (sym e) in
      ap (λ (l : List Float). set (F ++ l) i y) (drop-cons xs i nan h)
      ∙ set_at F (get_or xs i nan) (drop (suc i) xs) y i n
      ∙ sym (append_snoc F y (drop (suc i) xs))
      ∙ ap (λ (l : List Float). l ++ drop (suc i) xs) (sym m)
      ∙ ap (λ (k : ℕ). mixed_from v added 0 (take k xs) ++ drop k xs) (sym (add-one i))

  -- the next value, as a loop that reads and stores the slice has it
  pub front_next : (i : ℕ) (xs out : List Float) (y w : Float) → i < length xs → out ≡ Front v added i xs → y ≡ mixed added i (get_or out i nan) w → w ≡ v i
      → set out i y ≡ Front v added (i + 1) xs
  front_next i xs out y w h e m n =
      ap (λ (o : List Float). set o i y) e
      ∙ front_more i xs y h (m ∙ ap₂ (mixed added i) (ap (λ (o : List Float). get_or o i nan) e ∙ front_at i xs h) n)

-- n values mixed into the part behind a front of i
module _ (added : ℕ) (amplitude : Float) (i n : ℕ) (values before part : List Float) (h : i + n ≤ length before)
    (r : Lanes (λ j x. mixed added (i + j) x (mul binary32 amplitude (get_or values j nan))) n (slice_range before i (i + n)) part) where
  after : List Float
  after = put_mid i (i + n - i) before part

  part_length : length part ≡ n
  part_length = r.size ∙ length-between before i (i + n) h ∙ omega arith

  -- an element before the part, in it and behind it
  before_part : (k : ℕ) → k < i → get_or after k nan ≡ get_or before k nan
  unfolding after
  before_part k l = search (rules, places)

  in_part : (k : ℕ) → i ≤ k → k < i + n → get_or after k nan ≡ get_or part (k - i) nan
  unfolding after
  in_part k l m = search (rules, places)

  behind_part : (k : ℕ) → i + n ≤ k → get_or after k nan ≡ get_or before k nan
  unfolding after
  behind_part k l = search (rules, places)

  after_length : length after ≡ length before
  unfolding after
  after_length = search (rules, places)

  module _ (v : ℕ → Float) (xs : List Float) (l : i + n ≤ length xs) (e : before ≡ Front v added i xs)
      (o : (j : ℕ) → j < n → mul binary32 amplitude (get_or values j nan) ≡ v (i + j)) where
    had : (k : ℕ) → get_or before k nan ≡ get_or (Front v added i xs) k nan
    had k = ap (λ (ys : List Float). get_or ys k nan) e

    part_at : (j : ℕ) → j < n → get_or part j nan ≡ mixed added (i + j) (get_or xs (i + j) nan) (v (i + j))
    part_at j p =
        r.done j p
        ∙ ap₂ (mixed added (i + j)) (get_or-between before i (i + n) j nan (omega arith) ∙ had (i + j) ∙ front_old v added i xs (omega arith) (i + j) (omega arith)) (o j p)

    place : (k : ℕ) (s t : Bool) → ltb k i ≡ s → ltb k (i + n) ≡ t → get_or after k nan ≡ get_or (Front v added (i + n) xs) k nan
    place k true t p q =
        let b : k < i = ltb-true k i p in
        before_part k b ∙ had k ∙ front_new v added i xs (omega arith) k b ∙ sym (front_new v added (i + n) xs l k (omega arith))
    place k false true p q =
        let b : i ≤ k = ltb-false k i p in
        let d : k < i + n = ltb-true k (i + n) q in
        let m : i + (k - i) ≡ k = omega arith in
        in_part k b d
        ∙ part_at (k - i) (omega arith)
        ∙ ap (λ (h : ℕ). mixed added h (get_or xs h nan) (v h)) m
        ∙ sym (front_new v added (i + n) xs l k d)
    place k false false p q =
        let b : i ≤ k = ltb-false k i p in
        let d : i + n ≤ k = ltb-false k (i + n) q in
        behind_part k d ∙ had k ∙ front_old v added i xs (omega arith) k b ∙ sym (front_old v added (i + n) xs l k d)

    front_part : after ≡ Front v added (i + n) xs
    front_part =
        ext_get_or nan after (Front v added (i + n) xs)
        (after_length ∙ ap length e ∙ front_length v added i xs (omega arith) ∙ sym (front_length v added (i + n) xs l))
        (λ k m. place k (ltb k i) (ltb k (i + n)) refl refl)

  pub mixes_part : MixesLanes added amplitude i n values before (put_mid i (i + n - i) before part)
  unfolding after
  mixes_part = record { mixes = λ v xs l e o. front_part v xs l e o; size = after_length }

-- what a loop works out at its time is the note's sample
pub sound_is : (table : List ℕ) (inst : Instrument) (amplitude f d : Float) (rate first k : ℕ) (unit value : Float) → unit ≡ div binary32 one (of_int binary32 (pos rate))
    → value ≡ instrument_by table f d (mul binary32 (of_int binary32 (pos (first + k))) unit) inst → mul binary32 amplitude value ≡ sound_by table inst amplitude f d rate first k
unfolding sound_by time_at
sound_is table inst amplitude f d rate first k unit value u e =
    ap (mul binary32 amplitude) (e ∙ ap (λ (x : Float). instrument_by table f d (mul binary32 (of_int binary32 (pos (first + k))) x) inst) u)
