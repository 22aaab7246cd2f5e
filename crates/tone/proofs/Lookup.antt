-- The table of frequencies: a table in which each entry has the bits of the power rule is the definition's list, and what is looked up in that list is the frequency of its
-- semitone. Assumes nothing.
use Rattle.std.proofs.Common.{◌≡◌, ℕ, zero, suc, ◌+◌, ◌<◌, Bool, true, ◌&&◌, T, eqb, List, [], ◌∷◌, length, get_or, sym, refl, ap, ◌∙◌, ap₂, arith, eqb→eq}
use lib.Ieee.{Float, nan, binary32, fits, to_bits, of_bits}
use lib.Ieee.Bits.{of_bits-to_bits}
use lib.Ieee.Fits.{and_l, and_r}
use Rattle.tone.specs.Power.{frequency_of, frequencies}
use Rattle.tone.proofs.Powers.{frequency_fits}

-- whether an f32 has the bits that semitone s has by the power rule
unfoldable pub has_bits : ℕ → Float → Bool
unfolding frequency_of
has_bits s x = fits binary32 x && eqb (to_bits binary32 x) (to_bits binary32 (frequency_of s))

-- the test over a whole table, whose first entry is that of semitone s
unfoldable pub tuned : ℕ → List Float → Bool
unfolding has_bits
tuned s [] = true
tuned s (x ∷ xs) = has_bits s x && tuned (suc s) xs

module _ (s : ℕ) (x : Float) where
  abbrev in_range : Bool
  in_range = fits binary32 x

  abbrev same : Bool
  same = eqb (to_bits binary32 x) (to_bits binary32 (frequency_of s))

  -- an f32 is what its bits say
  entry : T (has_bits s x) → x ≡ frequency_of s
  unfolding has_bits
  entry h =
      sym (of_bits-to_bits binary32 x (and_l in_range same h))
      ∙ ap (of_bits binary32) (eqb→eq _ _ (and_r in_range same h))
      ∙ of_bits-to_bits binary32 (frequency_of s) (frequency_fits s)

-- a table that passes is the list of the frequencies
pub passed : (s : ℕ) (xs : List Float) → T (tuned s xs) → xs ≡ frequencies (length xs) s
unfolding tuned frequencies
passed s [] h = refl
passed s (x ∷ xs) h = ap₂ ◌∷◌ (entry s x (and_l (has_bits s x) (tuned (suc s) xs) h)) (passed (suc s) xs (and_r (has_bits s x) (tuned (suc s) xs) h))

first : (s k : ℕ) → s + 0 ≡ k → s ≡ k
first s k e = omega (arith, e)

-- what is looked up among them is the frequency of its semitone
pub looked_up : (n s i k : ℕ) → i < n → s + i ≡ k → get_or (frequencies n s) i nan ≡ frequency_of k
unfolding frequencies
looked_up zero s i k l e = absurd (omega (arith, l))
looked_up (suc n) s zero k l e = ap frequency_of (first s k e)
looked_up (suc n) s (suc i) k l e = looked_up n (suc s) i k (omega arith) (omega (arith, e))

-- there are as many as are asked for
pub frequencies_count : (n s : ℕ) → length (frequencies n s) ≡ n
unfolding frequencies
frequencies_count zero s = refl
frequencies_count (suc n) s = ap suc (frequencies_count n (suc s))
