-- The notes of the parts, summed from the first part on: the sum so far, with the counts still to come, is the sum of all. Assumes nothing.
use mathlib.Core.Path.{◌≡◌, sym, ap, ◌∙◌}
use mathlib.Core.List.{List}
use Prim.Native.Nat.{ℕ, ◌+◌, ◌≤◌, ◌<◌}
use native.Mathlib.Numerals.{add-one}
use lib.ListN.{length, get_or}
use lib.Seq.{slice, slice-cons, slice_empty}
use Rattle.sheet.specs.Parts.{total}

module _ (counts : List ℕ) (parts : ℕ) where
  pub total_next : (p : ℕ) → p < parts → parts ≤ length counts → total (slice p parts counts) ≡ get_or counts p 0 + total (slice (p + 1) parts counts)
  unfolding total
  total_next p h l = ap total (slice-cons p parts counts 0 h l) ∙ ap (λ (q : ℕ). get_or counts p 0 + total (slice q parts counts)) (sym (add-one p))

  pub total_end : (p : ℕ) → p ≡ parts → total (slice p parts counts) ≡ 0
  unfolding total
  total_end p e = ap (λ (q : ℕ). total (slice q parts counts)) e ∙ ap total (slice_empty parts counts)
