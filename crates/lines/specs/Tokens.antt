-- Tokens: what blanks separate. Document 01: "first token the name, the rest the body; under two tokens it is skipped". Assumes nothing.
use Rattle.std.specs.Prelude.{Bool, true, false, List, [], ◌∷◌, ℕ, ◌+◌, ltb, length, drop}
use Rattle.std.proofs.Math.Option.{Option, none, some}
use Rattle.text.specs.Blanks.{is_blank, is_ink}
use Rattle.lines.specs.declared.names.NameAt.{NameAt}
use Rattle.text.specs.Fronts.{front, after}
use Rattle.lines.specs.Names.{between}

-- the tokens of a text that goes on inside a token, or not: one begins at each ink that stands at the start or behind a blank
unfoldable pub tokens_from : Bool → List ℕ → List (List ℕ)
unfolding front is_blank is_ink
tokens_from inside [] = []
tokens_from inside (b ∷ s) =
    elim (is_blank b) [
      | true ↦ tokens_from false s
      | false ↦ elim inside [ true ↦ tokens_from true s | false ↦ front is_ink (b ∷ s) ∷ tokens_from true s ]
    ]

unfoldable pub tokens_of : List ℕ → List (List ℕ)
unfolding tokens_from
tokens_of s = tokens_from false s

-- the first token of a text, empty where there is none, and what follows it
unfoldable pub first_token : List ℕ → List ℕ
unfolding front after is_blank is_ink
first_token s = front is_ink (after is_blank s)

unfoldable pub after_token : List ℕ → List ℕ
unfolding after is_blank is_ink
after_token s = after is_ink (after is_blank s)

-- a line of two tokens or more: its name, and the rest, its body
pub record Named : Type 0 where
  pub name : List ℕ
  pub body : List ℕ

-- "under two tokens" there is none
unfoldable pub named_of : List ℕ → Option Named
unfolding after is_blank first_token after_token
named_of l = elim (after is_blank (after_token l)) [ [] ↦ none | b ∷ s ↦ some (record { name = first_token l; body = after_token l }) ]

-- ---- the name of a line, as code finds it

-- where the first token begins and ends, and whether something follows it
unfoldable pub name_at : List ℕ → NameAt
unfolding front is_blank is_ink
name_at l =
    let from = length (front is_blank l) in
    let end = from + length (front is_ink (drop from l)) in
    record { from = from; end = end; two = ltb (end + length (front is_blank (drop end l))) (length l) }

-- the line of two tokens or more that these places tell
unfoldable pub named_by : List ℕ → NameAt → Option Named
named_by l n = elim n.two [ true ↦ some (record { name = between l n.from n.end; body = drop n.end l }) | false ↦ none ]
