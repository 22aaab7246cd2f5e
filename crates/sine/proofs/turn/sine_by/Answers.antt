-- `sine_by` puts the parts together: the bits read back as x, the laws `bits_under` and `bits_over` say what its sine is, and
-- the last product is `sine_at`. Assumes nothing.
use Rattle.std.proofs.Common.{◌≡◌, ℕ, ◌^◌, ◌<◌, true, T, leb, List, pos, negsuc, sym, subst, arith}
use lib.Ieee.{Float, fin, binary32, unlike, fits, ne, mul, of_int, to_bits, of_bits}
use lib.Ieee.Bits.{of_bits-to_bits}
use lib.Ieee.Compare.{differs_from_itself}
use Rattle.sine.specs.Turn.{quarter_of, folded, height, sine_at, turn_sine_by}
use Rattle.sine.specs.Phase.{field_of, position_of}
use Rattle.sine.proofs.Heights.{folded_le}
use Rattle.sine.proofs.Floats.{no_nan, unit_times}
use Rattle.sine.proofs.Phase.{bits_under, bits_over}
use Rattle.sine.proofs.turn.sine_by.Goals as goal

-- what differs from itself is NaN, and is its own sine
its_own : (table : List ℕ) (x : Float) → ne x x ≡ true → x ≡ turn_sine_by table x
unfolding turn_sine_by
its_own table x e = rw (differs_from_itself x (subst T (sym e) tt))

-- from the parts' answers to the sine
put_together : (table : List ℕ) (b p u n : ℕ) (x y : Float) → n < 2 ^ 32 → field_of b < 158 → p ≡ position_of (of_bits binary32 b) → u ≡ folded p → n ≡ height table u
    → x ≡ of_int binary32 (pos n) → y ≡ fin (unlike (leb (2 ^ 31) b) (leb 2 (quarter_of p))) 1 (negsuc 23) → mul binary32 x y ≡ turn_sine_by table (of_bits binary32 b)
unfolding sine_at
put_together table b p u n x y l h ep eu en ex ey =
    rw (ex, ey, unit_times _ n l, en, eu, bits_under b table h, ep)

pub returns-then-x : goal.returns-then-x
returns-then-x c = its_own _ c.args.x c.if-x.true

pub float_to_bits-bits : goal.float_to_bits-bits
float_to_bits-bits c = no_nan c.args.x c.if-x.false

pub returns-then-bits-ge1325400064 : goal.returns-then-bits-ge1325400064
returns-then-bits-ge1325400064 c = rw ((let it : of_bits binary32 (to_bits binary32 c.args.x) ≡ c.args.x = of_bits-to_bits binary32 c.args.x ((let it : T (fits binary32 c.args.x) = subst T (sym c.well_formed.1.0.1) tt in it)) in it)) at (sym (bits_over (to_bits binary32 c.args.x) c.args.table.now (omega arith)))

pub height_by-s-requires : goal.height_by-s-requires
height_by-s-requires c = rw c.fold.ensures (folded_le _)

pub returns : goal.returns
returns c =
    rw ((let it : of_bits binary32 (to_bits binary32 c.args.x) ≡ c.args.x = of_bits-to_bits binary32 c.args.x ((let it : T (fits binary32 c.args.x) = subst T (sym c.well_formed.1.0.1) tt in it)) in it)) at
    (put_together c.args.table.now (to_bits binary32 c.args.x) _ _ _ _ _ c.height_by-s.type_inv (omega arith) c.position-p.ensures
    c.fold.ensures
    c.height_by-s.ensures
    c.nearest.ensures
    c.unit.ensures)
