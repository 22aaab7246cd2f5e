-- Laws of fronts: how the front at a place of a text starts, where it ends, and what follows it. Code that walks a text by index
-- cites these, and never the definitions' text. Assumes nothing.
use mathlib.Core.Path.{◌≡◌, refl, ap, ◌∙◌}
use mathlib.Core.Bool.{Bool, true, false}
use mathlib.Core.List.{List, [], ◌∷◌}
use Prim.Native.Nat.{ℕ, suc, ◌+◌, ◌≤◌, ◌<◌, zero-le, suc-le-suc}
use native.Mathlib.Numerals.{add-one}
use lib.ListN.{length, take, drop, get_or, drop_of_length-le}
use lib.Seq.{drop-cons, drop-drop}
use Rattle.text.specs.Fronts.{front, after}

-- a front starts with the first byte if that passes, and else is empty
pub cons_true : (p : ℕ → Bool) (b : ℕ) (s : List ℕ) → p b ≡ true → front p (b ∷ s) ≡ b ∷ front p s
unfolding front
cons_true p b s e = rw (e, front)

pub cons_false : (p : ℕ → Bool) (b : ℕ) (s : List ℕ) → p b ≡ false → front p (b ∷ s) ≡ []
unfolding front
cons_false p b s e = rw (e, front)

-- past the text's end there is no front
pub front_end : (p : ℕ → Bool) (s : List ℕ) (at : ℕ) → length s ≤ at → front p (drop at s) ≡ []
unfolding front
front_end p s at h = rw (drop_of_length-le s h)

-- the front ends before a byte that fails the test
pub front_stop : (p : ℕ → Bool) (s : List ℕ) (at : ℕ) → at < length s → p (get_or s at 0) ≡ false → front p (drop at s) ≡ []
front_stop p s at h e = rw (drop-cons s at 0 h) (cons_false p (get_or s at 0) (drop (suc at) s) e)

-- a byte that passes stands first, and the front of what follows after it
pub front_more : (p : ℕ → Bool) (s : List ℕ) (at : ℕ) → at < length s → p (get_or s at 0) ≡ true
    → front p (drop at s) ≡ get_or s at 0 ∷ front p (drop (at + 1) s)
front_more p s at h e = rw (add-one, drop-cons s at 0 h) (cons_true p (get_or s at 0) (drop (suc at) s) e)

-- a front that goes on ends where the rest of it ends
pub length_more : (p : ℕ → Bool) (s : List ℕ) (at : ℕ) → at < length s → p (get_or s at 0) ≡ true
    → length (front p (drop at s)) ≡ suc (length (front p (drop (at + 1) s)))
length_more p s at h e = ap length (front_more p s at h e)

within_cons : (p : ℕ → Bool) (b : ℕ) (s : List ℕ) → length (front p s) ≤ length s → (t : Bool) → p b ≡ t → length (front p (b ∷ s)) ≤ suc (length s)
within_cons p b s h true e = rw (cons_true p b s e) (suc-le-suc h)
within_cons p b s h false e = rw (cons_false p b s e) zero-le

-- and it lies within the text
pub front_within : (p : ℕ → Bool) (s : List ℕ) → length (front p s) ≤ length s
unfolding front
front_within p [] = zero-le
front_within p (b ∷ s) = within_cons p b s (front_within p s) (p b) refl

-- and it is what the text has there
pub take_front : (p : ℕ → Bool) (s : List ℕ) → take (length (front p s)) s ≡ front p s
unfolding front
take_front p [] = refl
take_front p (b ∷ s) = go (p b) refl (take_front p s)
  where
    go : (x : Bool) → p b ≡ x → take (length (front p s)) s ≡ front p s → take (length (front p (b ∷ s))) (b ∷ s) ≡ front p (b ∷ s)
    go true e ih = rw (e, front) (ap (λ (l : List ℕ). b ∷ l) ih)
    go false e ih = rw (e, front)

-- ---- what follows a front

after_cons : (p : ℕ → Bool) (b : ℕ) (s : List ℕ) → after p s ≡ drop (length (front p s)) s → (t : Bool) → p b ≡ t
    → after p (b ∷ s) ≡ drop (length (front p (b ∷ s))) (b ∷ s)
unfolding front after
after_cons p b s ih true e = rw (e, front, after) ih
after_cons p b s ih false e = rw (e, front, after)

-- it is what is left when the front is dropped
pub after_drop : (p : ℕ → Bool) (s : List ℕ) → after p s ≡ drop (length (front p s)) s
unfolding after front
after_drop p [] = refl
after_drop p (b ∷ s) = after_cons p b s (after_drop p s) (p b) refl

-- in a text it stands where the front at a place ends
pub after_is : (p : ℕ → Bool) (s : List ℕ) (i : ℕ) → after p (drop i s) ≡ drop (i + length (front p (drop i s))) s
after_is p s i = after_drop p (drop i s) ∙ drop-drop (length (front p (drop i s))) i s

-- a text that is empty, or begins with a byte that fails the test
abbrev pub Stops : (ℕ → Bool) → List ℕ → Type 0
Stops p [] = Unit
Stops p (b ∷ s) = p b ≡ false

stops_cons : (p : ℕ → Bool) (b : ℕ) (s : List ℕ) → Stops p (after p s) → (t : Bool) → p b ≡ t → Stops p (after p (b ∷ s))
unfolding after
stops_cons p b s ih true e = rw (e, after) ih
stops_cons p b s ih false e = rw (e, after) e

-- what follows a front is such a text
pub after_stops : (p : ℕ → Bool) (s : List ℕ) → Stops p (after p s)
unfolding after
after_stops p [] = tt
after_stops p (b ∷ s) = stops_cons p b s (after_stops p s) (p b) refl

-- which has no front
pub stopped_front : (p : ℕ → Bool) (t : List ℕ) → Stops p t → front p t ≡ []
unfolding front
stopped_front p [] h = refl
stopped_front p (b ∷ t) h = cons_false p b t h

-- and is what follows that
pub stopped_after : (p : ℕ → Bool) (t : List ℕ) → Stops p t → after p t ≡ t
unfolding after
stopped_after p [] h = refl
stopped_after p (b ∷ t) h = rw (h, after)
