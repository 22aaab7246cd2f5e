-- How the tokens of a text start: blanks make none, and ink makes one, behind which the tokens of what follows stand. The same by places says what
-- code finds that looks for the next token with `blanks_end` and `ink_end`. Assumes nothing.
use mathlib.Core.Path.{◌≡◌, refl, sym, ap, ap₂, subst, ◌∙◌}
use mathlib.Core.Bool.{Bool, true, false, not}
use mathlib.Core.List.{List, [], ◌∷◌}
use Prim.Native.Nat.{ℕ, ◌+◌, ◌-◌, ◌≤◌, ◌<◌}
use native.Mathlib.Omega.{arith}
use borrow.Author.Tests.{leb-true, leb-false}
use lib.Dec.{leb}
use lib.ListN.{length, take, drop, length-drop, drop_of_length-le}
use Rattle.text.specs.Blanks.{is_blank, is_ink}
use Rattle.text.specs.Fronts.{front, after}
use Rattle.lines.specs.Tokens.{tokens_from, tokens_of}
use Rattle.text.proofs.Fronts.{cons_true, Stops, front_within, take_front, after_is, after_stops}

-- ---- one byte

ink_not : (b : ℕ) (x : Bool) → is_blank b ≡ x → is_ink b ≡ not x
unfolding is_ink
ink_not b x e = ap not e

blank_byte : (inside : Bool) (b : ℕ) (s : List ℕ) → is_blank b ≡ true → tokens_from inside (b ∷ s) ≡ tokens_from false s
unfolding tokens_from
blank_byte inside b s e = rw (e, tokens_from)

inside_byte : (b : ℕ) (s : List ℕ) → is_blank b ≡ false → tokens_from true (b ∷ s) ≡ tokens_from true s
unfolding tokens_from
inside_byte b s e = rw (e, tokens_from)

first_byte : (b : ℕ) (s : List ℕ) → is_blank b ≡ false → tokens_from false (b ∷ s) ≡ front is_ink (b ∷ s) ∷ tokens_from true s
unfolding tokens_from
first_byte b s e = rw (e, tokens_from)

after_true : (p : ℕ → Bool) (b : ℕ) (s : List ℕ) → p b ≡ true → after p (b ∷ s) ≡ after p s
unfolding after
after_true p b s e = rw (e, after)

after_false : (p : ℕ → Bool) (b : ℕ) (s : List ℕ) → p b ≡ false → after p (b ∷ s) ≡ b ∷ s
unfolding after
after_false p b s e = rw (e, after)

-- ---- blanks, and the rest of a token

-- blanks at the start make no token
pub tokens_blank : (s : List ℕ) → tokens_of s ≡ tokens_of (after is_blank s)
unfolding tokens_of after
tokens_blank [] = refl
tokens_blank (b ∷ s) = go (is_blank b) refl (tokens_blank s)
  where
    go : (x : Bool) → is_blank b ≡ x → tokens_of s ≡ tokens_of (after is_blank s) → tokens_of (b ∷ s) ≡ tokens_of (after is_blank (b ∷ s))
    go true e ih = blank_byte false b s e ∙ ih ∙ ap tokens_of (sym (after_true is_blank b s e))
    go false e ih = ap tokens_of (sym (after_false is_blank b s e))

-- inside a token the next one begins behind its ink
tokens_inside : (s : List ℕ) → tokens_from true s ≡ tokens_of (after is_ink s)
unfolding tokens_of after
tokens_inside [] = refl
tokens_inside (b ∷ s) = go (is_blank b) refl (tokens_inside s)
  where
    go : (x : Bool) → is_blank b ≡ x → tokens_from true s ≡ tokens_of (after is_ink s) → tokens_from true (b ∷ s) ≡ tokens_of (after is_ink (b ∷ s))
    go true e ih = blank_byte true b s e ∙ sym (blank_byte false b s e) ∙ ap tokens_of (sym (after_false is_ink b s (ink_not b true e)))
    go false e ih = inside_byte b s e ∙ ih ∙ ap tokens_of (sym (after_true is_ink b s (ink_not b false e)))

-- ---- how tokens start

-- a blank text has none
pub tokens_none : (s : List ℕ) → after is_blank s ≡ [] → tokens_of s ≡ []
unfolding tokens_of
tokens_none s e = tokens_blank s ∙ ap tokens_of e

-- any other has its first ink, and the tokens of what follows that
tokens_ink : (s : List ℕ) → Stops is_blank s → 0 < length s → tokens_of s ≡ front is_ink s ∷ tokens_of (after is_ink s)
unfolding tokens_of
tokens_ink [] h o = absurd (omega arith)
tokens_ink (b ∷ s) h o =
    first_byte b s h ∙ ap (λ (ts : List (List ℕ)). front is_ink (b ∷ s) ∷ ts) (tokens_inside s ∙ ap tokens_of (sym (after_true is_ink b s (ink_not b false h))))

pub tokens_some : (s : List ℕ) → 0 < length (after is_blank s)
    → tokens_of s ≡ front is_ink (after is_blank s) ∷ tokens_of (after is_ink (after is_blank s))
tokens_some s o = tokens_blank s ∙ tokens_ink (after is_blank s) (after_stops is_blank s) o

-- ---- by places

ink_some : (s : List ℕ) → Stops is_blank s → 0 < length s → 0 < length (front is_ink s)
ink_some [] h o = absurd (omega arith)
ink_some (b ∷ s) h o = omega (arith, ap length (cons_true is_ink b s (ink_not b false h)))

-- behind the place `at` of s, and the blanks that stand there, a token stands from `from` up to `end`
pub record Token (s : List ℕ) (at from end : ℕ) : Type 0 where
  pub some : from < end
  pub within : end ≤ length s
  pub stops : Stops is_ink (drop end s)
  pub tokens : tokens_of (drop at s) ≡ take (end - from) (drop from s) ∷ tokens_of (drop end s)

module _ (s : List ℕ) (at from : ℕ) (f : from ≡ at + length (front is_blank (drop at s))) where
  behind : after is_blank (drop at s) ≡ drop from s
  behind = after_is is_blank s at ∙ ap (λ (n : ℕ). drop n s) (sym f)

  -- where the blanks end the text, no token stands
  pub token_none : length s ≤ from → tokens_of (drop at s) ≡ []
  token_none h = tokens_none (drop at s) (behind ∙ drop_of_length-le s h)

  -- else there is one
  pub token_next : from < length s → (end : ℕ) → end ≡ from + length (front is_ink (drop from s)) → Token s at from end
  token_next h end e =
      let l = length-drop from s in
      let o : 0 < length (drop from s) = omega arith in
      let w = front_within is_ink (drop from s) in
      let k = subst (Stops is_blank) behind (after_stops is_blank (drop at s)) in
      let n : length (front is_ink (drop from s)) ≡ end - from = omega arith in
      let later : after is_ink (drop from s) ≡ drop end s = after_is is_ink s from ∙ ap (λ (m : ℕ). drop m s) (sym e) in
      record {
        some = omega (arith, ink_some (drop from s) k o);
        within = omega arith;
        stops = subst (Stops is_ink) later (after_stops is_ink (drop from s));
        tokens =
            tokens_blank (drop at s)
            ∙ ap tokens_of behind
            ∙ tokens_ink (drop from s) k o
            ∙ ap₂ ◌∷◌ (sym (take_front is_ink (drop from s)) ∙ ap (λ (m : ℕ). take m (drop from s)) n) (ap tokens_of later);
      }

  -- and where the place has a token, the blanks end before the text does
  pub token_there : 0 < length (tokens_of (drop at s)) → from < length s
  token_there h = go (leb (length s) from) refl
    where
      go : (x : Bool) → leb (length s) from ≡ x → from < length s
      go true e = absurd (omega (arith, ap length (token_none (leb-true (length s) from e))))
      go false e = leb-false (length s) from e

-- past a text's end there is no token
pub token_past : (s : List ℕ) (at : ℕ) → length s ≤ at → tokens_of (drop at s) ≡ []
unfolding tokens_of
token_past s at h = ap tokens_of (drop_of_length-le s h)
