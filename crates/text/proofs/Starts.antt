-- Laws of a text's first byte: past the end there is none, and where a byte stands the place is within the text. Assumes nothing.
use mathlib.Core.Path.{◌≡◌, sym, ap, ◌∙◌}
use mathlib.Core.Bool.{true, false, true≢false}
use mathlib.Core.List.{List, [], ◌∷◌}
use Prim.Native.Nat.{ℕ, ◌+◌, ◌≤◌, ◌<◌}
use native.Mathlib.Nat.{lt_of_not-le}
use lib.Dec.{eqb}
use lib.ListN.{length, drop, get_or, drop_of_length-le}
use lib.Seq.{drop-cons, drop-drop}
use borrow.Author.Tests.{eqb-true}
use Rattle.text.specs.Characters.{starts_with}

-- past the end
pub starts_end : (s : List ℕ) (i b : ℕ) → length s ≤ i → starts_with b (drop i s) ≡ false
unfolding starts_with
starts_end s i b h = ap (starts_with b) (drop_of_length-le s h)

-- within the text it is the test of the byte there
pub starts_at : (s : List ℕ) (i b : ℕ) → i < length s → starts_with b (drop i s) ≡ eqb (get_or s i 0) b
unfolding starts_with
starts_at s i b h = ap (starts_with b) (drop-cons s i 0 h)

-- so where the byte stands the place is within the text
pub starts_within : (s : List ℕ) (i b : ℕ) → starts_with b (drop i s) ≡ true → i < length s
starts_within s i b e = lt_of_not-le (λ (h : length s ≤ i). true≢false (sym e ∙ starts_end s i b h))

starts_head : (d : List ℕ) (b : ℕ) → starts_with b d ≡ true → d ≡ b ∷ drop 1 d
unfolding starts_with
starts_head [] b e = absurd (true≢false (sym e))
starts_head (x ∷ d) b e = ap (λ (y : ℕ). y ∷ d) (eqb-true x b e)

-- and the text there is that byte and what follows it
pub starts_cons : (s : List ℕ) (i b : ℕ) → starts_with b (drop i s) ≡ true → drop i s ≡ b ∷ drop (i + 1) s
starts_cons s i b e = starts_head (drop i s) b e ∙ ap (λ (d : List ℕ). b ∷ d) (drop-drop 1 i s)
