-- The instruments of a table: how many there are, and which one stands at a place. Assumes nothing.
use mathlib.Core.Path.{◌≡◌, refl, sym, ap, ◌∙◌}
use mathlib.Core.List.{List, [], map}
use Prim.Native.Nat.{ℕ, zero, suc, ◌+◌, ◌/◌, ◌<◌, min}
use native.Mathlib.Nat.{add-zero}
use native.Mathlib.Omega.{arith}
use lib.ListN.{length, get_or, length-map, get_or-map}
use lib.Ieee.{Float}
use Rattle.instrument.specs.declared.machine.Instrument.{Instrument}
use Rattle.blocks.specs.Blocks.{lines_in}
use Rattle.commands.specs.Commands.{clipped, instrument_of, lines_held}
use Rattle.bank.specs.Bank.{lines_at, lines_from}
use Rattle.layout.specs.Regions.{region}

-- no line is asked for
pub none_held : (fs : List Float) (ss : List ℕ) → lines_held 0 fs ss ≡ []
unfolding lines_held lines_in
none_held fs ss = ap (λ (k : ℕ). map clipped (lines_in k fs ss)) (let z : min (min 0 32) (min (length fs / 6) (length ss / 2)) ≡ 0 = omega arith in z)

module _ (sizes : List ℕ) (fs : List Float) (ss : List ℕ) where
  lines_many : (k n : ℕ) → length (lines_from sizes fs ss k n) ≡ n
  unfolding lines_from
  lines_many k zero = refl
  lines_many k (suc n) = ap suc (lines_many (k + 1) n)

  lines_get : (k n i : ℕ) → i < n → get_or (lines_from sizes fs ss k n) i [] ≡ lines_at sizes fs ss (k + i)
  unfolding lines_from
  lines_get k zero i h = absurd (omega (arith, h))
  lines_get k (suc n) zero h = ap (lines_at sizes fs ss) (sym (add-zero k))
  lines_get k (suc n) (suc i) h = lines_get (k + 1) n i (omega (arith, h)) ∙ ap (lines_at sizes fs ss) (let z : k + 1 + i ≡ k + suc i = omega arith in z)

  -- the first n instruments
  abbrev pub instruments_of_law : ℕ → List Instrument
  instruments_of_law n = map instrument_of (lines_from sizes fs ss 0 n)

  pub instruments_many : (n : ℕ) → length (instruments_of_law n) ≡ n
  instruments_many n = length-map (lines_from sizes fs ss 0 n) instrument_of ∙ lines_many 0 n

  pub instruments_get : (n k size : ℕ) (x : Instrument) → k < n → size ≡ get_or sizes k 0
      → x ≡ instrument_of (lines_held size (region 192 k fs) (region 64 k ss)) → x ≡ get_or (instruments_of_law n) k (instrument_of [])
  unfolding lines_at
  instruments_get n k size x h s e =
      e
      ∙ ap (λ (c : ℕ). instrument_of (lines_held c (region 192 k fs) (region 64 k ss))) s
      ∙ ap (λ (i : ℕ). instrument_of (lines_at sizes fs ss i)) (let z : k ≡ 0 + k = omega arith in z)
      ∙ ap instrument_of (sym (lines_get 0 n k h))
      ∙ sym (get_or-map instrument_of (lines_from sizes fs ss 0 n) k [])
