-- `to_bits` is `to_bits`: a NaN has the one pattern that is written for it. Assumes nothing.
use Rattle.std.proofs.Common.{◌≡◌, true, refl}
use lib.Ieee.{Float, nan, inf, fin, is_nan, binary32, to_bits}
use Rattle.fields.proofs.float.to_bits.Goals as goal

of_nan : (x : Float) → is_nan x ≡ true → 0x7fc0_0000 ≡ to_bits binary32 x
unfolding is_nan to_bits
of_nan nan e = refl
of_nan (inf s) e = cc
of_nan (fin s m d) e = cc

pub returns-then-is_nan : goal.returns-then-is_nan
returns-then-is_nan c = of_nan c.args.x cc
