-- `of_bits` is `of_bits`: a pattern over infinity's is the NaN's, and any other may be read as it is. Assumes nothing.
use Rattle.std.proofs.Common.{◌≡◌, ◌%◌, ◌/◌, ◌^◌, ◌<◌, ℕ, true, sym, ◌∙◌, refl, arith}
use Rattle.std.proofs.lemmas.Float.{not_nan_f32_bits}
use lib.Ieee.{Float, nan, inf, fin, binary32, is_nan, nan_bits, of_bits, div}
use lib.Ieee.Bits.{nan_bits_is}
use borrow.Author.Tests.{eq-eqb, ne_eqb}
use Rattle.fields.proofs.float.of_bits.Goals as goal

-- the one NaN
the_nan : (x : Float) → is_nan x ≡ true → nan ≡ x
unfolding is_nan
the_nan nan e = refl
the_nan (inf s) e = cc
the_nan (fin s m d) e = cc

-- a pattern over infinity's is a NaN's
over : (w : ℕ) → 0x7f80_0000 < w % 2 ^ 31 → nan_bits binary32 w ≡ true
unfolding nan_bits
over w h = rw (eq-eqb (w % 2 ^ 31 / 2 ^ 23) 255 (omega arith), ne_eqb (w % 2 ^ 23) 0 (λ e. omega arith))

pub returns-then-w-gt-INFINITY : goal.returns-then-w-gt-INFINITY
unfolding div of_bits
returns-then-w-gt-INFINITY c =
    let w = c.args.w in
    the_nan (of_bits binary32 w) (sym (nan_bits_is binary32 w) ∙ over w (omega arith))

pub float_from_bits-result : goal.float_from_bits-result
float_from_bits-result c = not_nan_f32_bits _ (omega arith)
