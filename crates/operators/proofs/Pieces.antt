-- The tokens of a text are as many as its pieces between blanks that have a byte. Assumes nothing.
use Rattle.std.proofs.Common.{◌≡◌, ℕ, ◌+◌, Bool, true, false, not, eqb, List, [], ◌∷◌, length, refl, sym, arith}
use Rattle.std.specs.List.{slice_split, onto_first, filter}
use Rattle.std.proofs.lemmas.List.Splits.{slice_split-cons_yes, slice_split-cons_no}
use borrow.Author.Tests.{ne_eqb}
use Rattle.text.specs.Blanks.{is_blank}
use Rattle.lines.specs.Tokens.{tokens_from, tokens_of}

-- a piece that has a byte
abbrev pub has_byte : List ℕ → Bool
has_byte t = not (eqb (length t) 0)

-- behind the first piece
rest : List (List ℕ) → List (List ℕ)
rest [] = []
rest (t ∷ ts) = ts

-- a byte joins the first piece, whatever that is
with_byte : (b : ℕ) (ts : List (List ℕ)) → length (filter has_byte (onto_first b ts)) ≡ length (filter has_byte (rest ts)) + 1
unfolding rest
with_byte b [] = refl
with_byte b (t ∷ ts) =
    let some : length (b ∷ t) ≡ 0 → ⊥ = λ e. omega arith in
    rw (ne_eqb (length (b ∷ t)) 0 some) (omega arith)

rest_byte : (b : ℕ) (ts : List (List ℕ)) → rest (onto_first b ts) ≡ rest ts
unfolding rest
rest_byte b [] = refl
rest_byte b (t ∷ ts) = refl

-- outside a token every piece counts, and inside one all behind the first
record Counted (s : List ℕ) : Type 0 where
  outside : length (tokens_from false s) ≡ length (filter has_byte (slice_split is_blank s))
  inside : length (tokens_from true s) ≡ length (filter has_byte (rest (slice_split is_blank s)))

counted : (s : List ℕ) → Counted s
unfolding tokens_from rest
counted [] = record { outside = refl; inside = refl }
counted (b ∷ s) = go (is_blank b) refl (counted s)
  where
    go : (x : Bool) → is_blank b ≡ x → Counted s → Counted (b ∷ s)
    go true e ih = record {
      outside = rw (slice_split-cons_yes is_blank b s e, e, tokens_from) ih.outside;
      inside = rw (slice_split-cons_yes is_blank b s e, e, tokens_from) ih.outside;
    }
    go false e ih = record {
      outside = rw (slice_split-cons_no is_blank b s e, e, tokens_from, with_byte b (slice_split is_blank s)) (omega (arith, ih.inside));
      inside = rw (slice_split-cons_no is_blank b s e, e, tokens_from, rest_byte b (slice_split is_blank s)) ih.inside;
    }

pub tokens_counted : (s : List ℕ) → length (filter has_byte (slice_split is_blank s)) ≡ length (tokens_of s)
unfolding tokens_of
tokens_counted s = sym (counted s).outside
