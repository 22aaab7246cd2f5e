-- The tests of the notes while the parts and their notes are gone through: those still to come decide, so one that fails decides all, and behind the
-- last part all have passed. A count past the notes takes those that there are. Assumes nothing.
use mathlib.Core.Path.{◌≡◌, refl, ap, ap₂, sym, ◌∙◌}
use mathlib.Core.Bool.{Bool, true, false, ◌&&◌}
use mathlib.Core.List.{List}
use Prim.Native.Nat.{ℕ, ◌+◌, ◌-◌, ◌≤◌, ◌<◌, min}
use lib.ListN.{length, take, drop, get_or}
use lib.Seq.{slice, slice_empty, take-add}
use Rattle.sheet.specs.Parts.{total}
use Rattle.handed.specs.Check.{all}
use Rattle.handed.proofs.Alls.{all_append}
use Rattle.handed.proofs.Cuts.{part_taken, part_left}
use Rattle.handed.proofs.Scans.{scan_fails, scan_more}
use Rattle.handed.proofs.Totals.{total_next, total_end}

module _ {A : Type 0} (test : A → Bool) (counts : List ℕ) (parts : ℕ) (xs : List A) where
  -- the tests of the parts from p on, whose notes begin at n
  abbrev pub played_from : ℕ → ℕ → Bool
  played_from p n = all test (take (total (slice p parts counts)) (drop n xs))

  -- and of the notes from n on of part p, which end at stop, and of the parts behind it
  abbrev pub played_in : ℕ → ℕ → ℕ → Bool
  played_in p n stop = all test (slice n stop xs) && played_from (p + 1) stop

  pub played_begins : (p n m stop : ℕ) → p < parts → parts ≤ length counts → n ≤ length xs → m ≡ min (get_or counts p 0) (length xs - n) → stop ≡ n + m
      → played_from p n ≡ played_in p n stop
  played_begins p n m stop h l k f e =
      let c = get_or counts p 0 in
      let rest = total (slice (p + 1) parts counts) in
      ap (λ (t : ℕ). all test (take t (drop n xs))) (total_next counts parts p h l)
      ∙ ap (all test) (take-add c rest (drop n xs))
      ∙ all_append test (take c (drop n xs)) (take rest (drop c (drop n xs)))
      ∙ ap₂ (λ (u v : List A). all test u && all test (take rest v)) (part_taken xs n c m stop k f e) (part_left xs n c m stop k f e)

  pub played_ends : (p n stop : ℕ) → n ≡ stop → played_in p n stop ≡ played_from (p + 1) n
  unfolding all
  played_ends p n stop e = ap (λ (s : ℕ). played_in p n s) (sym e) ∙ ap (λ (ys : List A). all test ys && played_from (p + 1) n) (slice_empty n xs)

  -- behind the last part nothing comes
  pub played_all : (p n : ℕ) → p ≡ parts → played_from p n ≡ true
  unfolding all
  played_all p n e = ap (λ (t : ℕ). all test (take t (drop n xs))) (total_end counts parts p e)

  module _ (p n stop : ℕ) (d : A) (whole b : Bool) (h : n < stop) (l : stop ≤ length xs) (g : played_in p n stop ≡ whole) (t : b ≡ test (get_or xs n d)) where
    pub played_fails : b ≡ false → false ≡ whole
    played_fails f = ap (λ (z : Bool). z && played_from (p + 1) stop) (scan_fails test xs stop n d _ b h l refl t f) ∙ g

    pub played_more : b ≡ true → played_in p (n + 1) stop ≡ whole
    played_more f = ap (λ (z : Bool). z && played_from (p + 1) stop) (scan_more test xs stop n d _ b h l refl t f) ∙ g
