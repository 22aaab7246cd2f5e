-- The front law. Where each note starts at or before the largest end so far, what the notes so far cover is the samples below that end: a front of every
-- window. So mixing note by note, added below the end and stored from it on, is the plain meaning of a sample. Assumes nothing.
use mathlib.Core.Path.{◌≡◌, refl, sym, ap, ap₂, ◌∙◌}
use mathlib.Core.Bool.{Bool, true, false, ◌&&◌}
use mathlib.Core.Logic.{◌⊎◌, inl, inr, ⊎_elim}
use mathlib.Core.List.{List, [], ◌∷◌, ◌++◌}
use Prim.Native.Nat.{ℕ, suc, ◌-◌, ◌≤◌, ◌<◌, min, max}
use native.Mathlib.Omega.{arith}
use lib.Dec.{leb, ltb}
use lib.ListN.{length, drop}
use lib.Ieee.{Float, binary32, add}
use borrow.Author.Tests.{lt-ltb, le-ltb, ltb-true, ltb-false, leb-false}
use Rattle.instrument.specs.Fill.{mixed}
use Rattle.mixing.specs.Sounding.{Placed, end_of, sounds_at}
use Rattle.evaluator.specs.Samples.{Heard, nothing, value, joined_by, with_note, heard_from, sample_at, value_of, samples_from}
use Rattle.mixing.specs.Mixing.{mix_at, mix_one, mix_all}
use Rattle.mixing.proofs.Sounding.{sounds_after, mix_true, mix_false}

-- each note starts at or before the largest end so far
pub data Joined : ℕ → List Placed → Type 0 where
  none : {c : ℕ} → Joined c []
  more : {c : ℕ} {p : Placed} {ps : List Placed} → p.start ≤ c → Joined (max c (end_of p)) ps → Joined c (p ∷ ps)

-- the largest of an end and those of notes
unfoldable pub last_end : ℕ → List Placed → ℕ
last_end c [] = c
last_end c (p ∷ ps) = last_end (max c (end_of p)) ps

-- what is heard is exactly what lies below `covered`
pub record Front (h : ℕ → Heard) (covered : ℕ) : Type 0 where
  pub below : (k : ℕ) → k < covered → (v : Float) × (h k ≡ value v)
  pub above : (k : ℕ) → covered ≤ k → h k ≡ nothing

-- a place lies inside a note, before it or behind it
side : (k : ℕ) (p : Placed) → (sounds_at k p ≡ true) ⊎ ((sounds_at k p ≡ false) × ((k < p.start) ⊎ (end_of p ≤ k)))
unfolding sounds_at
side k p = go (leb p.start k) refl (ltb k (end_of p)) refl
  where
    go : (a : Bool) → leb p.start k ≡ a → (b : Bool) → ltb k (end_of p) ≡ b
        → ((leb p.start k && ltb k (end_of p)) ≡ true) ⊎ (((leb p.start k && ltb k (end_of p)) ≡ false) × ((k < p.start) ⊎ (end_of p ≤ k)))
    go true e true f = inl (rw (e, f))
    go true e false f = inr (rw (e, f), inr (omega (arith, ltb-false)))
    go false e b f = inr (rw e, inl (omega (arith, leb-false)))

-- ---- one note

with_true : (p : Placed) (k : ℕ) (x : Heard) → sounds_at k p ≡ true → with_note k x p ≡ joined_by x (p.sound (k - p.start))
unfolding with_note
with_true p k x s = rw (s, with_note)

with_false : (p : Placed) (k : ℕ) (x : Heard) → sounds_at k p ≡ false → with_note k x p ≡ x
unfolding with_note
with_false p k x s = rw (s, with_note)

mixed_below : (covered k : ℕ) (y v : Float) → k < covered → mixed covered k y v ≡ add binary32 y v
unfolding mixed
mixed_below covered k y v l = rw (lt-ltb k covered l, mixed)

mixed_above : (covered k : ℕ) (y v : Float) → covered ≤ k → mixed covered k y v ≡ v
unfolding mixed
mixed_above covered k y v l = rw (le-ltb k covered l, mixed)

-- a sample where x stands: it takes the place, and where there is none x stays
unfoldable over : Float → Heard → Float
over x nothing = x
over x (value v) = v

-- samples k, k + 1, .. over a list
unfoldable over_from : (ℕ → Heard) → ℕ → List Float → List Float
unfolding over
over_from h k [] = []
over_from h k (x ∷ xs) = over x (h k) ∷ over_from h (suc k) xs

module _ (h : ℕ → Heard) (covered : ℕ) (p : Placed) (f : Front h covered) where
  mix_below : (k : ℕ) (x v : Float) → k < covered → h k ≡ value v → sounds_at k p ≡ true → mix_at covered p k (over x (h k)) ≡ over x (with_note k (h k) p)
  unfolding joined_by over
  mix_below k x v l e s = rw (with_true p k (h k) s, e) (mix_true covered p k v s ∙ mixed_below covered k v _ l)

  mix_above : (k : ℕ) (x : Float) → covered ≤ k → h k ≡ nothing → sounds_at k p ≡ true → mix_at covered p k (over x (h k)) ≡ over x (with_note k (h k) p)
  unfolding joined_by over
  mix_above k x l e s = rw (with_true p k (h k) s, e) (mix_true covered p k x s ∙ mixed_above covered k x _ l)

  mix_silent : (k : ℕ) (x : Float) → sounds_at k p ≡ false → mix_at covered p k (over x (h k)) ≡ over x (with_note k (h k) p)
  mix_silent k x s = rw (with_false p k (h k) s) (mix_false covered p k (over x (h k)) s)

  mix_here : (k : ℕ) (x : Float) → mix_at covered p k (over x (h k)) ≡ over x (with_note k (h k) p)
  mix_here k x = ⊎_elim (λ s. go s (ltb k covered) refl) (λ s. mix_silent k x s.0) (side k p)
    where
      go : sounds_at k p ≡ true → (b : Bool) → ltb k covered ≡ b → mix_at covered p k (over x (h k)) ≡ over x (with_note k (h k) p)
      go s true e = let l = f.below k (omega (arith, ltb-true)) in mix_below k x l.0 (omega (arith, ltb-true)) l.1 s
      go s false e = mix_above k x (omega (arith, ltb-false)) (f.above k (omega (arith, ltb-false))) s

  -- mixing a note into what stands is what stands with that note
  mix_one_law : (k : ℕ) (xs : List Float) → mix_one covered p k (over_from h k xs) ≡ over_from (λ (j : ℕ). with_note j (h j) p) k xs
  unfolding mix_one over_from
  mix_one_law k [] = refl
  mix_one_law k (x ∷ xs) = ap₂ (λ (y : Float) (l : List Float). y ∷ l) (mix_here k x) (mix_one_law (suc k) xs)

  joined_value : (x : Heard) (w : Float) → (v : Float) × (joined_by x w ≡ value v)
  unfolding joined_by
  joined_value nothing w = (w, refl)
  joined_value (value v) w = (add binary32 v w, refl)

  with_sounding : (k : ℕ) → sounds_at k p ≡ true → (v : Float) × (with_note k (h k) p ≡ value v)
  with_sounding k s = let j = joined_value (h k) (p.sound (k - p.start)) in (j.0, with_true p k (h k) s ∙ j.1)

  -- and what stands then is a front again
  front_next : p.start ≤ covered → Front (λ (j : ℕ). with_note j (h j) p) (max covered (end_of p))
  front_next b =
      record {
        below = λ (k : ℕ) (l : k < max covered (end_of p)).
            ⊎_elim (with_sounding k)
            (λ s.
            let i : k < covered = ⊎_elim (λ (q : k < p.start). omega arith) (λ (q : end_of p ≤ k). omega arith) s.1 in
            let v = f.below k i in
            (v.0, with_false p k (h k) s.0 ∙ v.1))
            (side k p);
        above = λ (k : ℕ) (l : max covered (end_of p) ≤ k). with_false p k (h k) (sounds_after k p (omega arith)) ∙ f.above k (omega arith);
      }

-- ---- all notes

mix_all_law : (ps : List Placed) (h : ℕ → Heard) (covered k : ℕ) (xs : List Float) → Front h covered → Joined covered ps
    → mix_all covered ps k (over_from h k xs) ≡ over_from (λ (j : ℕ). heard_from j (h j) ps) k xs
unfolding mix_all heard_from
mix_all_law [] h covered k xs f none = refl
mix_all_law (p ∷ ps) h covered k xs f (more b j) =
    ap (mix_all (max covered (end_of p)) ps k) (mix_one_law h covered p f k xs)
    ∙ mix_all_law ps (λ (i : ℕ). with_note i (h i) p) (max covered (end_of p)) k xs (front_next h covered p f b) j

front_all : (ps : List Placed) (h : ℕ → Heard) (covered : ℕ) → Front h covered → Joined covered ps
    → Front (λ (j : ℕ). heard_from j (h j) ps) (last_end covered ps)
unfolding heard_from last_end
front_all [] h covered f none = f
front_all (p ∷ ps) h covered f (more b j) =
    front_all ps (λ (i : ℕ). with_note i (h i) p) (max covered (end_of p)) (front_next h covered p f b) j

front_none : Front (λ (j : ℕ). nothing) 0
front_none = record { below = λ (k : ℕ) (l : k < 0). absurd (omega arith); above = λ (k : ℕ) (l : 0 ≤ k). refl }

-- the front law: a sample exists exactly below the largest end
pub front : (ps : List Placed) → Joined 0 ps → Front (sample_at ps) (last_end 0 ps)
unfolding sample_at
front ps j = front_all ps (λ (i : ℕ). nothing) 0 front_none j

-- ---- windows

over_none : (k : ℕ) (xs : List Float) → over_from (λ (j : ℕ). nothing) k xs ≡ xs
unfolding over_from over
over_none k [] = refl
over_none k (x ∷ xs) = ap (λ (l : List Float). x ∷ l) (over_none (suc k) xs)

mix_over : (ps : List Placed) (k : ℕ) (xs : List Float) → Joined 0 ps → mix_all 0 ps k xs ≡ over_from (sample_at ps) k xs
unfolding sample_at
mix_over ps k xs j = ap (mix_all 0 ps k) (sym (over_none k xs)) ∙ mix_all_law ps (λ (i : ℕ). nothing) 0 k xs front_none j

module _ (ps : List Placed) (end : ℕ) (f : Front (sample_at ps) end) where
  over_value : (k : ℕ) (x : Float) → k < end → over x (sample_at ps k) ≡ value_of (sample_at ps k)
  unfolding over value_of
  over_value k x l = let v = f.below k l in rw v.1

  over_nothing : (k : ℕ) (x : Float) → end ≤ k → over x (sample_at ps k) ≡ x
  unfolding over
  over_nothing k x l = ap (over x) (f.above k l)

  over_past : (k : ℕ) (xs : List Float) → end ≤ k → over_from (sample_at ps) k xs ≡ xs
  unfolding over_from
  over_past k [] l = refl
  over_past k (x ∷ xs) l = ap₂ (λ (y : Float) (t : List Float). y ∷ t) (over_nothing k x l) (over_past (suc k) xs (omega arith))

  -- the samples that exist and fit, then what stood there
  over_window : (k : ℕ) (xs : List Float)
      → over_from (sample_at ps) k xs ≡ samples_from ps k (min (length xs) (end - k)) ++ drop (min (length xs) (end - k)) xs
  unfolding over_from samples_from
  over_window k [] = ap (λ (n : ℕ). samples_from ps k n ++ drop {A = Float} n []) (let z : 0 ≡ min 0 (end - k) = omega arith in z)
  over_window k (x ∷ xs) = go (over_window (suc k) xs) (ltb k end) refl
    where
      go : over_from (sample_at ps) (suc k) xs ≡ samples_from ps (suc k) (min (length xs) (end - suc k)) ++ drop (min (length xs) (end - suc k)) xs
          → (b : Bool) → ltb k end ≡ b
          → over_from (sample_at ps) k (x ∷ xs) ≡ samples_from ps k (min (suc (length xs)) (end - k)) ++ drop (min (suc (length xs)) (end - k)) (x ∷ xs)
      go rest true e =
          let l : k < end = omega (arith, ltb-true) in
          ap₂ (λ (y : Float) (t : List Float). y ∷ t) (over_value k x l) rest
          ∙ ap (λ (n : ℕ). samples_from ps k n ++ drop n (x ∷ xs))
          (let z : suc (min (length xs) (end - suc k)) ≡ min (suc (length xs)) (end - k) = omega arith in z)
      go rest false e =
          let l : end ≤ k = omega (arith, ltb-false) in
          over_past k (x ∷ xs) l
          ∙ ap (λ (n : ℕ). samples_from ps k n ++ drop n (x ∷ xs)) (let z : 0 ≡ min (suc (length xs)) (end - k) = omega arith in z)

-- mixing note by note writes the samples that exist and fit, and leaves what stands behind them
pub mix_window : (ps : List Placed) (k : ℕ) (xs : List Float) → Joined 0 ps
    → mix_all 0 ps k xs ≡ samples_from ps k (min (length xs) (last_end 0 ps - k)) ++ drop (min (length xs) (last_end 0 ps - k)) xs
mix_window ps k xs j = mix_over ps k xs j ∙ over_window ps (last_end 0 ps) (front ps j) k xs
