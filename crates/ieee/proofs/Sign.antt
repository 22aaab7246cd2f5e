-- A sign goes through rounding: a fraction of the other sign rounds to the negated float. Assumes nothing.
use mathlib.Core.Path.{◌≡◌, refl, sym, ap, ◌∙◌}
use mathlib.Core.Bool.{Bool, true, false, not, cond}
use Prim.Native.Nat.{ℕ, zero, suc, ◌+◌, ◌*◌, ◌^◌}
use lib.Dec.{ltb}
use lib.Ieee.{inf, Format, prec, emax, low, odd, units, round, neg}
use lib.Ieee.Fits.{round_is}

odd_neg : (d : ℕ) (s : Bool) (q k l : ℕ) → odd d (not s) q k l ≡ neg (odd d s q k l)
unfolding odd neg
odd_neg d s zero k l = refl
odd_neg d s (suc q) k l = refl

units_neg : (f : Format) (s : Bool) (q k : ℕ) → units f (not s) q k ≡ neg (units f s q k)
unfolding units neg
units_neg f s q k = go (ltb (q * 2 ^ k) (2 ^ (low f + suc (emax f))))
  where
    go : (b : Bool) → cond b (odd (suc (prec f)) (not s) q k (low f)) (inf (not s)) ≡ neg (cond b (odd (suc (prec f)) s q k (low f)) (inf s))
    go true = odd_neg (suc (prec f)) s q k (low f)
    go false = refl

pub round_neg : (f : Format) (s : Bool) (n d : ℕ) → round f (not s) n d ≡ neg (round f s n d)
round_neg f s n d = round_is f (not s) n d ∙ units_neg f s _ _ ∙ ap neg (sym (round_is f s n d))

-- so what rounds alike without a sign rounds alike with either
pub round_signs : (f : Format) (a b c d : ℕ) → round f false a b ≡ round f false c d → (s : Bool) → round f s a b ≡ round f s c d
round_signs f a b c d e false = e
round_signs f a b c d e true = round_neg f false a b ∙ ap neg e ∙ sym (round_neg f false c d)
