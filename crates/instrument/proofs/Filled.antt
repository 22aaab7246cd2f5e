-- Laws of a filled slice for those who call `fill`: what stands at each place afterwards, and that filling a slice is filling its front and then
-- its rest, whose samples come later. Assumes nothing.
use Rattle.std.proofs.Common.{◌≡◌, ℕ, ◌+◌, ◌-◌, ◌<◌, ◌≤◌, Bool, true, false, ltb, List, ◌++◌, length, get_or, take, drop, sym, refl, ap, ◌∙◌, subst, ap₂, zero-add, arith, length-append, length-drop, length-take-le, get_or-drop, get_or-take, get_or-append-add, ext_get_or, ltb-false, ltb-true, le-ltb, lt-ltb}
use lib.ListN.{get_or-append}
use lib.Ieee.{Float, nan, binary32, add}
use Rattle.instrument.specs.declared.machine.Instrument.{Instrument}
use Rattle.instrument.specs.Fill.{mixed, mixed_from, sound_at, sound_from, count_from, filled}
use Rattle.instrument.proofs.Filling.{length_mixed, mixed_at}

-- ---- what stands at a place

module _ (i : Instrument) (amplitude f d : Float) (rate first added : ℕ) (xs : List Float) where
  -- the mixed front, and how long it is
  front : List Float
  front = mixed_from (sound_from i amplitude f d rate first) added 0 (take (count_from first (length xs)) xs)

  front_length : length front ≡ count_from first (length xs)
  unfolding front count_from
  front_length =
      length_mixed (sound_from i amplitude f d rate first) added 0 (take (count_from first (length xs)) xs)
      ∙ length-take-le (count_from first (length xs)) xs (omega arith)

  filled_is : filled i amplitude f d rate first added xs ≡ front ++ drop (count_from first (length xs)) xs
  unfolding filled front
  filled_is = refl

  -- no element more or less
  pub filled_length : length (filled i amplitude f d rate first added xs) ≡ length xs
  unfolding count_from
  filled_length =
      let n = count_from first (length xs) in
      ap length filled_is ∙ length-append front (drop n xs) ∙ (let e : length front + length (drop n xs) ≡ length xs = omega (arith, front_length, length-drop n xs) in e)

  -- within the count, the note's sample mixed with what stood there
  pub filled_at : (k : ℕ) → k < count_from first (length xs)
      → get_or (filled i amplitude f d rate first added xs) k nan ≡ mixed added k (get_or xs k nan) (sound_at i amplitude f d rate (first + k))
  unfolding front sound_from count_from
  filled_at k h =
      let n = count_from first (length xs) in
      let v = sound_from i amplitude f d rate first in
      ap (λ (l : List Float). get_or l k nan) filled_is
      ∙ get_or-append front (drop n xs) nan k (omega (arith, front_length))
      ∙ mixed_at v added 0 (take n xs) k (omega (arith, length-take-le n xs (omega arith)))
      ∙ ap₂ (λ (j : ℕ) (x : Float). mixed added j x (v j)) (zero-add k) (get_or-take n xs k nan h)

  -- past it, what stood there
  pub filled_past : (k : ℕ) → count_from first (length xs) ≤ k → get_or (filled i amplitude f d rate first added xs) k nan ≡ get_or xs k nan
  filled_past k h =
      let n = count_from first (length xs) in
      ap (λ (l : List Float). get_or l k nan) filled_is
      ∙ ap (λ (m : ℕ). get_or (front ++ drop n xs) m nan) (let e : k ≡ length front + (k - n) = omega (arith, front_length) in e)
      ∙ get_or-append-add front (drop n xs) (k - n) nan
      ∙ get_or-drop n xs (k - n) nan
      ∙ ap (λ (m : ℕ). get_or xs m nan) (let e : n + (k - n) ≡ k = omega arith in e)

-- ---- a slice in two pieces

-- a place of the second piece is below what is added there as it was in the whole
test_later : (added j k : ℕ) → j ≤ k → (b : Bool) → ltb k added ≡ b → ltb (k - j) (added - j) ≡ b
test_later added j k h true e = lt-ltb (k - j) (added - j) (omega (arith, ltb-true k added e))
test_later added j k h false e = le-ltb (k - j) (added - j) (omega (arith, ltb-false k added e))

mixed_later : (added j k : ℕ) (x v : Float) → j ≤ k → mixed (added - j) (k - j) x v ≡ mixed added k x v
unfolding mixed
mixed_later added j k x v h =
    ap (λ (b : Bool). elim b as (λ _. Float) [ true ↦ add binary32 x v | false ↦ v ]) (test_later added j k h (ltb k added) refl)

count_within : (first room j k : ℕ) → k < j → j ≤ room → k < count_from first room → k < count_from first j
unfolding count_from
count_within first room j k h l i = omega arith

count_past : (first room j k : ℕ) → k < j → j ≤ room → count_from first room ≤ k → count_from first j ≤ k
unfolding count_from
count_past first room j k h l i = omega arith

count_later : (first room j k : ℕ) → j ≤ k → k < count_from first room → k - j < count_from (first + j) (room - j)
unfolding count_from
count_later first room j k h i = omega arith

count_later_past : (first room j k : ℕ) → j ≤ k → count_from first room ≤ k → count_from (first + j) (room - j) ≤ k - j
unfolding count_from
count_later_past first room j k h i = omega arith

module _ (i : Instrument) (amplitude f d : Float) (rate first added : ℕ) (xs : List Float) (j : ℕ) (o : j ≤ length xs) where
  -- the slice filled at once, its first j elements filled, and its later ones filled with the note's later samples
  whole : List Float
  whole = filled i amplitude f d rate first added xs

  early : List Float
  early = filled i amplitude f d rate first added (take j xs)

  late : List Float
  late = filled i amplitude f d rate (first + j) (added - j) (drop j xs)

  taken : length (take j xs) ≡ j
  taken = length-take-le j xs o

  early_length : length early ≡ j
  unfolding early
  early_length = filled_length i amplitude f d rate first added (take j xs) ∙ taken

  late_length : length late ≡ length xs - j
  unfolding late
  late_length = filled_length i amplitude f d rate (first + j) (added - j) (drop j xs) ∙ length-drop j xs

  early_at : (k : ℕ) → k < j → get_or whole k nan ≡ get_or early k nan
  unfolding whole early
  early_at k h = go (ltb k (count_from first (length xs))) refl
    where
      go : (b : Bool) → ltb k (count_from first (length xs)) ≡ b → get_or whole k nan ≡ get_or early k nan
      go true e =
          filled_at i amplitude f d rate first added xs k (ltb-true _ _ e)
          ∙ ap (λ (x : Float). mixed added k x (sound_at i amplitude f d rate (first + k))) (sym (get_or-take j xs k nan h))
          ∙ sym
          (filled_at i amplitude f d rate first added (take j xs) k
          (subst (λ (n : ℕ). k < count_from first n) (sym taken) (count_within first (length xs) j k h o (ltb-true _ _ e))))
      go false e =
          filled_past i amplitude f d rate first added xs k (ltb-false _ _ e)
          ∙ sym (get_or-take j xs k nan h)
          ∙ sym
          (filled_past i amplitude f d rate first added (take j xs) k
          (subst (λ (n : ℕ). count_from first n ≤ k) (sym taken) (count_past first (length xs) j k h o (ltb-false _ _ e))))

  late_at : (k : ℕ) → j ≤ k → get_or whole k nan ≡ get_or late (k - j) nan
  unfolding whole late
  late_at k h = go (ltb k (count_from first (length xs))) refl
    where
      back : j + (k - j) ≡ k
      back = omega arith

      here : get_or (drop j xs) (k - j) nan ≡ get_or xs k nan
      here = get_or-drop j xs (k - j) nan ∙ ap (λ (m : ℕ). get_or xs m nan) back

      go : (b : Bool) → ltb k (count_from first (length xs)) ≡ b → get_or whole k nan ≡ get_or late (k - j) nan
      go true e =
          filled_at i amplitude f d rate first added xs k (ltb-true _ _ e)
          ∙ sym (mixed_later added j k (get_or xs k nan) (sound_at i amplitude f d rate (first + k)) h)
          ∙ ap₂ (λ (x : Float) (m : ℕ). mixed (added - j) (k - j) x (sound_at i amplitude f d rate m)) (sym here)
          (let q : first + k ≡ first + j + (k - j) = omega arith in q)
          ∙ sym
          (filled_at i amplitude f d rate (first + j) (added - j) (drop j xs) (k - j)
          (subst (λ (n : ℕ). k - j < count_from (first + j) n) (sym (length-drop j xs)) (count_later first (length xs) j k h (ltb-true _ _ e))))
      go false e =
          filled_past i amplitude f d rate first added xs k (ltb-false _ _ e)
          ∙ sym here
          ∙ sym
          (filled_past i amplitude f d rate (first + j) (added - j) (drop j xs) (k - j)
          (subst (λ (n : ℕ). count_from (first + j) n ≤ k - j) (sym (length-drop j xs)) (count_later_past first (length xs) j k h (ltb-false _ _ e))))

  joined_at : (k : ℕ) → k < length whole → get_or whole k nan ≡ get_or (early ++ late) k nan
  joined_at k h = go (ltb k j) refl
    where
      go : (b : Bool) → ltb k j ≡ b → get_or whole k nan ≡ get_or (early ++ late) k nan
      go true e = early_at k (ltb-true _ _ e) ∙ sym (get_or-append early late nan k (omega (arith, ltb-true k j e, early_length)))
      go false e =
          late_at k (ltb-false _ _ e)
          ∙ sym (get_or-append-add early late (k - j) nan)
          ∙ ap (λ (m : ℕ). get_or (early ++ late) m nan) (let q : length early + (k - j) ≡ k = omega (arith, ltb-false k j e, early_length) in q)

  -- filling a slice is filling its front, and then its rest with what comes later
  pub filled_cut : filled i amplitude f d rate first added xs
      ≡ filled i amplitude f d rate first added (take j xs) ++ filled i amplitude f d rate (first + j) (added - j) (drop j xs)
  unfolding whole early late
  filled_cut =
      ext_get_or nan whole (early ++ late)
      (filled_length i amplitude f d rate first added xs
      ∙ (let q : length xs ≡ length early + length late = omega (arith, early_length, late_length) in q) ∙ sym (length-append early late))
      joined_at
