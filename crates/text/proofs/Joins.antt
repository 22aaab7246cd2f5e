-- A text in two pieces: where the second begins with a byte that fails the test, or is empty, the first piece alone says what the front is.
-- So a token can be read where it stands or as a text of its own. Assumes nothing.
use mathlib.Core.Path.{◌≡◌, refl, sym, ap, ◌∙◌}
use mathlib.Core.Bool.{Bool, true, false, not, ◌&&◌, ◌||◌, true≢false}
use mathlib.Core.List.{List, [], ◌∷◌, ◌++◌}
use Prim.Native.Nat.{ℕ, ◌+◌, ◌-◌, ◌≤◌}
use native.Mathlib.Omega.{arith}
use borrow.Author.Tests.{eqb-true, leb-true}
use lib.Dec.{leb, eqb}
use lib.ListN.{take, drop, take-append-drop}
use lib.Seq.{drop-drop}
use Rattle.text.specs.Blanks.{is_ink}
use Rattle.text.specs.Fronts.{front, after}
use Rattle.text.proofs.Fronts.{cons_true, cons_false, Stops, stopped_front, stopped_after}

join_cons : (p : ℕ → Bool) (b : ℕ) (s t : List ℕ) → front p (s ++ t) ≡ front p s → (x : Bool) → p b ≡ x → front p (b ∷ (s ++ t)) ≡ front p (b ∷ s)
join_cons p b s t ih true e = cons_true p b (s ++ t) e ∙ ap (λ (l : List ℕ). b ∷ l) ih ∙ sym (cons_true p b s e)
join_cons p b s t ih false e = cons_false p b (s ++ t) e ∙ sym (cons_false p b s e)

-- the front ends in the first piece
pub front_joined : (p : ℕ → Bool) (s t : List ℕ) → Stops p t → front p (s ++ t) ≡ front p s
unfolding front
front_joined p [] t h = stopped_front p t h
front_joined p (b ∷ s) t h = join_cons p b s t (front_joined p s t h) (p b) refl

later_cons : (p : ℕ → Bool) (b : ℕ) (s t : List ℕ) → after p (s ++ t) ≡ after p s ++ t → (x : Bool) → p b ≡ x
    → after p (b ∷ (s ++ t)) ≡ after p (b ∷ s) ++ t
unfolding after
later_cons p b s t ih true e = rw (e, after) ih
later_cons p b s t ih false e = rw (e, after)

-- and the second piece follows what follows it
pub after_joined : (p : ℕ → Bool) (s t : List ℕ) → Stops p t → after p (s ++ t) ≡ after p s ++ t
unfolding after
after_joined p [] t h = stopped_after p t h
after_joined p (b ∷ s) t h = later_cons p b s t (after_joined p s t h) (p b) refl

-- ---- pieces of a text

-- the part of a text from a place up to a later one, and what follows it
pub part_joined : (s : List ℕ) (at end : ℕ) → at ≤ end → drop at s ≡ take (end - at) (drop at s) ++ drop end s
part_joined s at end h =
    sym (take-append-drop (end - at) (drop at s))
    ∙ ap (λ (l : List ℕ). take (end - at) (drop at s) ++ l)
    (drop-drop (end - at) at s ∙ ap (λ (n : ℕ). drop n s) (let e : at + (end - at) ≡ end = omega arith in e))

-- where ink ends, a blank stands or nothing does, and every run ends that has no blank
pub ink_stops : (p : ℕ → Bool) → ((b : ℕ) → is_ink b ≡ false → p b ≡ false) → (t : List ℕ) → Stops is_ink t → Stops p t
ink_stops p f [] h = tt
ink_stops p f (b ∷ t) h = f b h

-- a blank is a space or comes before it
pub blank_small : (b : ℕ) → is_ink b ≡ false → b ≤ 32
unfolding is_ink
blank_small b h = go (eqb b 32) (leb b 13) refl refl h
  where
    go : (x y : Bool) → eqb b 32 ≡ x → leb b 13 ≡ y → not (x || (leb 9 b && y)) ≡ false → b ≤ 32
    go true y e f k = omega (arith, eqb-true)
    go false true e f k = omega (arith, leb-true)
    go false false e f k = go' (leb 9 b) k
      where
        go' : (z : Bool) → not (false || (z && false)) ≡ false → b ≤ 32
        go' true m = absurd (true≢false m)
        go' false m = absurd (true≢false m)
