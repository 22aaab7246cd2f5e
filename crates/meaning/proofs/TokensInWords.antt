-- What it means for a sheet that every token is read to its end, in document 01's words, both ways. No token is empty,
-- and of each reader `number` and `keys` have what a text is that it reads to the end. Assumes nothing.
use mathlib.Core.Path.{◌≡◌, refl, ap}
use mathlib.Core.Bool.{Bool, true, false, not}
use mathlib.Core.List.{List, [], ◌∷◌, ◌++◌}
use Prim.Native.Nat.{ℕ, zero, suc, ◌≤◌, ◌<◌}
use native.Mathlib.Omega.{arith}
use lib.ListN.{length, take, drop}
use Rattle.text.specs.Blanks.{is_blank, is_ink}
use Rattle.text.specs.Characters.{same, row_named}
use Rattle.text.specs.Fronts.{front}
use Rattle.text.specs.Quoted.{bytes}
use Rattle.text.proofs.Fronts.{cons_true}
use Rattle.text.proofs.Passes.{Passes}
use Rattle.lines.specs.Lines.{lines_of}
use Rattle.lines.specs.Tokens.{tokens_from, tokens_of}
use Rattle.number.specs.Digits.{value_most, is_digit, value_from}
use Rattle.number.proofs.WholeNumbers.{WholeDecimal, run_in_words, words_run, decimal_in_words, words_decimal}
use Rattle.keys.proofs.WholeKeys.{WholeKey, key_in_words, words_key}
use Rattle.operators.specs.OperatorLines.{operator_lines}
use Rattle.meaning.specs.ReadTokens.{Reader, decimal, digits, key, stop_at, Token, ReadToItsEnd, all_by}
use Rattle.meaning.specs.ReadTokens.{operator_tokens, instrument_tokens, directive_tokens, line_tokens}
use Rattle.meaning.specs.ReadTokens.{lines_tokens, tokens_read}
use Rattle.meaning.specs.Sheets.{Kind, skipped, header_line, directive_line, macro_line, part_line, kind_of, taken_by}
use Rattle.meaning.proofs.Demand3.{Every}
use Rattle.meaning.proofs.ToTheirEnds.{every_joined}
pub use Rattle.meaning.proofs.WholeTokens.{WholeBy}

-- ---- a token

-- a token is nothing but what it is read as
abbrev pub Whole : Token → Type 0
Whole t = WholeBy t.0 t.1

-- it is not empty
abbrev Some : List ℕ → Type 0
Some t = 0 < length t

end_in_words : (reader : Reader) (t : List ℕ) → Some t → stop_at reader t ≡ length t → WholeBy reader t
unfolding stop_at
end_in_words decimal t h e = decimal_in_words t h e
end_in_words digits t h e = run_in_words value_most t h e
end_in_words key t h e = key_in_words t h e

words_end : (reader : Reader) (t : List ℕ) → Some t → WholeBy reader t → stop_at reader t ≡ length t
unfolding stop_at
words_end decimal t h w = words_decimal t h w
words_end digits t h w = words_run value_most t h w.0 w.1
words_end key t h w = words_key t w

-- ---- no token is empty

some_from : (inside : Bool) (s : List ℕ) → Every Some (tokens_from inside s)
unfolding tokens_from is_ink
some_from inside [] = tt
some_from inside (b ∷ s) = go (is_blank b) inside refl (some_from false s) (some_from true s)
  where
    go : (x i : Bool) → is_blank b ≡ x → Every Some (tokens_from false s) → Every Some (tokens_from true s)
        → Every Some
        (elim x as (λ _. List (List ℕ)) [
          | true ↦ tokens_from false s
          | false ↦
              elim i as (λ _. List (List ℕ)) [
                | true ↦ tokens_from true s
                | false ↦ front is_ink (b ∷ s) ∷ tokens_from true s
              ]
        ])
    go true i e p q = p
    go false true e p q = q
    go false false e p q = (omega (arith, ap length (cons_true is_ink b s (ap not e))), q)

some_tokens : (l : List ℕ) → Every Some (tokens_of l)
unfolding tokens_of
some_tokens l = some_from false l

every_take : (n : ℕ) (ts : List (List ℕ)) → Every Some ts → Every Some (take n ts)
every_take zero ts p = tt
every_take (suc n) [] p = tt
every_take (suc n) (t ∷ ts) p = (p.0, every_take n ts p.1)

every_drop : (n : ℕ) (ts : List (List ℕ)) → Every Some ts → Every Some (drop n ts)
every_drop zero ts p = p
every_drop (suc n) [] p = tt
every_drop (suc n) (t ∷ ts) p = every_drop n ts p.1

abbrev SomeRead : List Token → Type 0
SomeRead ts = Every (λ (t : Token). Some t.1) ts

some_joined : (ts us : List Token) → SomeRead ts → SomeRead us → SomeRead (ts ++ us)
some_joined ts us p q = every_joined (λ (t : Token). Some t.1) ts us p q

some_by : (reader : Reader) (ts : List (List ℕ)) → Every Some ts → SomeRead (all_by reader ts)
unfolding all_by
some_by reader [] p = tt
some_by reader (t ∷ ts) p = (p.0, some_by reader ts p.1)

some_operator : (ts : List (List ℕ)) → Every Some ts → SomeRead (operator_tokens ts)
unfolding operator_tokens
some_operator ts p =
    some_joined (all_by decimal (take 6 ts)) (all_by digits (drop 6 ts)) (some_by decimal (take 6 ts) (every_take 6 ts p))
    (some_by digits (drop 6 ts) (every_drop 6 ts p))

some_instrument : (ls : List (List ℕ)) → SomeRead (instrument_tokens ls)
unfolding instrument_tokens
some_instrument [] = tt
some_instrument (l ∷ ls) =
    some_joined (operator_tokens (tokens_of l)) (instrument_tokens ls)
    (some_operator (tokens_of l) (some_tokens l)) (some_instrument ls)

some_directive : (ts : List (List ℕ)) → Every Some ts → SomeRead (directive_tokens ts)
unfolding directive_tokens row_named
some_directive [] p = tt
some_directive (name ∷ []) p = tt
some_directive (name ∷ (value ∷ later)) p =
    go (same name (bytes "#tempo")) (same name (bytes "#denom")) (same name (bytes "#key"))
  where
    go : (a b c : Bool)
        → SomeRead
        (elim a as (λ _. List Token) [
          | true ↦ (digits, value) ∷ []
          | false ↦
              elim b as (λ _. List Token) [
                | true ↦ (digits, value) ∷ []
                | false ↦ elim c as (λ _. List Token) [ true ↦ (key, value) ∷ [] | false ↦ [] ]
              ]
        ])
    go true b c = (p.1.0, tt)
    go false true c = (p.1.0, tt)
    go false false true = (p.1.0, tt)
    go false false false = tt

some_line : (k : Kind) (l : List ℕ) (below : List (List ℕ)) → SomeRead (line_tokens k l below)
unfolding line_tokens
some_line skipped l below = tt
some_line header_line l below = some_instrument (operator_lines below)
some_line directive_line l below = some_directive (tokens_of l) (some_tokens l)
some_line macro_line l below = tt
some_line part_line l below = tt

some_lines : (k : ℕ) (ls : List (List ℕ)) → SomeRead (lines_tokens k ls)
unfolding lines_tokens
some_lines k [] = tt
some_lines (suc k) (l ∷ ls) = some_lines k ls
some_lines zero (l ∷ ls) =
    some_joined (line_tokens (kind_of l) l ls) (lines_tokens (taken_by (kind_of l) ls) ls) (some_line (kind_of l) l ls)
    (some_lines (taken_by (kind_of l) ls) ls)

-- ---- a sheet

all_words : (ts : List Token) → SomeRead ts → Every ReadToItsEnd ts → Every Whole ts
all_words [] p q = tt
all_words (t ∷ ts) p q = (end_in_words t.0 t.1 p.0 q.0, all_words ts p.1 q.1)

words_all : (ts : List Token) → SomeRead ts → Every Whole ts → Every ReadToItsEnd ts
words_all [] p q = tt
words_all (t ∷ ts) p q = (words_end t.0 t.1 p.0 q.0, words_all ts p.1 q.1)

pub sheet_in_words : (source : List ℕ) → Every ReadToItsEnd (tokens_read source) → Every Whole (tokens_read source)
unfolding tokens_read
sheet_in_words source q = all_words (lines_tokens 0 (lines_of source)) (some_lines 0 (lines_of source)) q

pub words_sheet : (source : List ℕ) → Every Whole (tokens_read source) → Every ReadToItsEnd (tokens_read source)
unfolding tokens_read
words_sheet source q = words_all (lines_tokens 0 (lines_of source)) (some_lines 0 (lines_of source)) q
