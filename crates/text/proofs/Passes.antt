-- Texts whose bytes all pass a test: they are their own front, and of a text in two pieces, of which the second begins
-- with a byte that fails, such a first piece is the front. Assumes nothing.
use mathlib.Core.Path.{◌≡◌, refl, sym, ap, subst, ◌∙◌}
use mathlib.Core.Bool.{Bool, true, false}
use mathlib.Core.List.{List, [], ◌∷◌, ◌++◌}
use Prim.Native.Nat.{ℕ, ◌≤◌}
use lib.ListN.{length, take, take-append-drop}
use lib.Seq.{take_all}
use Rattle.text.specs.Fronts.{front, after}
use Rattle.text.proofs.Fronts.{cons_true, cons_false, Stops, take_front, after_drop}
use Rattle.text.proofs.Joins.{front_joined, after_joined}
pub use Rattle.text.proofs.Passing.{Passes}

module _ (p : ℕ → Bool) where
  -- the bytes of a front do
  pub front_passes : (s : List ℕ) → Passes p (front p s)
  unfolding front
  front_passes [] = tt
  front_passes (b ∷ s) = go (p b) refl (front_passes s)
    where
      go : (x : Bool) → p b ≡ x → Passes p (front p s) → Passes p (front p (b ∷ s))
      go true e ih = rw (cons_true p b s e) (e, ih)
      go false e ih = rw (cons_false p b s e) tt

  -- a text is its front and what follows that
  pub front_after : (s : List ℕ) → front p s ++ after p s ≡ s
  front_after s =
      ap (λ (l : List ℕ). l ++ after p s) (sym (take_front p s))
      ∙ ap (λ (l : List ℕ). take (length (front p s)) s ++ l) (after_drop p s)
      ∙ take-append-drop (length (front p s)) s

  -- so a text whose front is as long as it is passes whole
  pub whole_passes : (s : List ℕ) → length s ≤ length (front p s) → Passes p s
  whole_passes s h = subst (Passes p) (sym (take_front p s) ∙ take_all (length (front p s)) s h) (front_passes s)

  -- and a text that passes has nothing behind its front
  pub passed_front : (s : List ℕ) → Passes p s → front p s ≡ s
  unfolding front
  passed_front [] h = refl
  passed_front (b ∷ s) h = cons_true p b s h.0 ∙ ap (λ (l : List ℕ). b ∷ l) (passed_front s h.1)

  pub passed_after : (s : List ℕ) → Passes p s → after p s ≡ []
  unfolding after
  passed_after [] h = refl
  passed_after (b ∷ s) h = rw (h.0, after) (passed_after s h.1)

  -- a piece that passes, before one that stops it
  pub piece_front : (s t : List ℕ) → Passes p s → Stops p t → front p (s ++ t) ≡ s
  piece_front s t h k = front_joined p s t k ∙ passed_front s h

  pub piece_after : (s t : List ℕ) → Passes p s → Stops p t → after p (s ++ t) ≡ t
  piece_after s t h k = after_joined p s t k ∙ ap (λ (l : List ℕ). l ++ t) (passed_after s h)
