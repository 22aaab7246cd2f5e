-- What request T-05 promises of strict numbers, for every byte string and at every rate. The definitions that this speaks of are `sheet_read`, what a source is
-- read as in a mode, and `reading_of`, the same as the reader gives it: a refusal's number, 0 for none, and its line, the step count and the sheet. `Before.antt`
-- has the reading as it was without a mode, `ReadTokens.antt` the tokens that are read, without a mode too. How each is
-- proved stands in `Partings.antt`, `ToTheirEnds.antt` and `TokensInWords.antt`. Assumes nothing.
use mathlib.Core.Path.{◌≡◌, sym, ap, ◌∙◌}
use mathlib.Core.Logic.{inl, inr}
use mathlib.Core.List.{List}
use Prim.Native.Nat.{ℕ}
use native.Mathlib.Omega.{arith}
use Rattle.sheet.specs.Refusals.{Outcome, going, refused}
use Rattle.strict.specs.declared.mode.Mode.TheVariants.{Plain, Strict}
use Rattle.meaning.specs.Before as Before
use Rattle.meaning.specs.Layout.{laid_out, reading_of}
use Rattle.meaning.specs.ReadTokens.{ReadToItsEnd, tokens_read}
use Rattle.meaning.specs.Sheets.{Read, sheet_read}
use Rattle.meaning.proofs.Demand3.{Every, TreesValue, demand3_sheet}
use Rattle.meaning.proofs.Partings.{Beside, sheet_beside, sheet_before}
use Rattle.meaning.proofs.ToTheirEnds.{Decided, sheet_exact}
use Rattle.meaning.proofs.TokensInWords.{Whole, sheet_in_words, words_sheet}

module _ (rate : ℕ) (source : List ℕ) where
  -- "In plain mode nothing changes."
  pub plain_is_before : sheet_read Plain rate source ≡ Before.sheet_read rate source
  plain_is_before = sheet_before rate source

  -- "an operator token must be read to its end, and so must the second token of `#tempo`, `#denom` and `#key`; later
  -- tokens are ignored as before.": what plain mode accepts, strict mode accepts, and as the same, exactly where each
  -- of these tokens is read to its end
  pub strict_exactly : (r : Read) → sheet_read Plain rate source ≡ going r
      → (Every ReadToItsEnd (tokens_read source) → sheet_read Strict rate source ≡ going r)
      × (sheet_read Strict rate source ≡ going r → Every ReadToItsEnd (tokens_read source))
  strict_exactly r e = go (sheet_exact rate source r e)
    where
      go : Decided (tokens_read source) r (sheet_read Strict rate source)
          → (Every ReadToItsEnd (tokens_read source) → sheet_read Strict rate source ≡ going r)
          × (sheet_read Strict rate source ≡ going r → Every ReadToItsEnd (tokens_read source))
      go (inl p) = ((λ w. p.1), (λ s. p.0))
      go (inr p) = ((λ w. absurd (p.0 w)), (λ s. absurd (p.1 r s)))

  -- the same in words: exactly where each of them is nothing but a decimal, a digit run or a key
  pub strict_in_words : (r : Read) → sheet_read Plain rate source ≡ going r
      → (Every Whole (tokens_read source) → sheet_read Strict rate source ≡ going r)
      × (sheet_read Strict rate source ≡ going r → Every Whole (tokens_read source))
  strict_in_words r e =
      ((λ w. (strict_exactly r e).0 (words_sheet source w)), (λ s. sheet_in_words source ((strict_exactly r e).1 s)))

  -- "32, a number or key with a tail": where one of them is not, the refusal is 32
  pub tail_refused : (r : Read) → sheet_read Plain rate source ≡ going r → (Every ReadToItsEnd (tokens_read source) → ⊥)
      → (line : ℕ) × (sheet_read Strict rate source ≡ refused 32 line)
  tail_refused r e h = go (sheet_beside rate source)
    where
      go : Beside (sheet_read Strict rate source) (sheet_read Plain rate source)
          → (line : ℕ) × (sheet_read Strict rate source ≡ refused 32 line)
      go (inl s) = absurd (h ((strict_exactly r e).1 (s ∙ e)))
      go (inr p) = p

  -- "A sheet accepted in strict mode gives the same notes and commands as in plain mode.": all that is read is the same, the steps too
  pub strict_accepted : (r : Read) → sheet_read Strict rate source ≡ going r → sheet_read Plain rate source ≡ going r
  strict_accepted r e = go (sheet_beside rate source)
    where
      go : Beside (sheet_read Strict rate source) (sheet_read Plain rate source) → sheet_read Plain rate source ≡ going r
      go (inl s) = sym s ∙ e
      go (inr p) = let z : ◌≡◌ {A = ℕ} 0 1 = cc (e, p.1) in absurd (omega arith)

  -- "A sheet refused in plain mode is refused in strict mode."
  pub plain_refused : (n l : ℕ) → sheet_read Plain rate source ≡ refused n l → (m : ℕ) × ((k : ℕ) × (sheet_read Strict rate source ≡ refused m k))
  plain_refused n l e = go (sheet_beside rate source)
    where
      go : Beside (sheet_read Strict rate source) (sheet_read Plain rate source) → (m : ℕ) × ((k : ℕ) × (sheet_read Strict rate source ≡ refused m k))
      go (inl s) = (n, (l, s ∙ e))
      go (inr p) = (32, p)

  -- strict mode and plain mode part by 32 alone: another refusal of strict mode is plain mode's, number and line
  pub parted_by_32 : (n l : ℕ) → sheet_read Strict rate source ≡ refused n l → (n ≡ 32 → ⊥) → sheet_read Plain rate source ≡ refused n l
  parted_by_32 n l e h = go (sheet_beside rate source)
    where
      go : Beside (sheet_read Strict rate source) (sheet_read Plain rate source) → sheet_read Plain rate source ≡ refused n l
      go (inl s) = sym s ∙ e
      go (inr p) = let z : n ≡ 32 = cc (e, p.1) in absurd (h z)

  -- the same of what the reader gives: in strict mode it is plain mode's, whole, sheet and step count among it, or it is refused with 32
  pub strict_reading : ((reading_of Strict rate source).refusal ≡ 32 → ⊥) → reading_of Strict rate source ≡ reading_of Plain rate source
  unfolding reading_of laid_out
  strict_reading h = go (sheet_beside rate source)
    where
      go : Beside (sheet_read Strict rate source) (sheet_read Plain rate source) → laid_out (sheet_read Strict rate source) ≡ laid_out (sheet_read Plain rate source)
      go (inl s) = ap laid_out s
      go (inr p) = absurd (h (ap (λ (o : Outcome Read). (laid_out o).refusal) p.1))

  -- "demand 3 of both"
  pub demand3_plain : (r : Read) → sheet_read Plain rate source ≡ going r → Every TreesValue r.instruments
  demand3_plain r e = demand3_sheet Plain rate source r e

  pub demand3_strict : (r : Read) → sheet_read Strict rate source ≡ going r → Every TreesValue r.instruments
  demand3_strict r e = demand3_sheet Strict rate source r e
