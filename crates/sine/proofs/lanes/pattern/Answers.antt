-- `pattern` answers the bits of what is no NaN, and 0 for what differs from itself. Assumes nothing.
use Rattle.std.proofs.Common.{◌≡◌, true, T, sym, ap, subst}
use lib.Ieee.{Float, binary32, fits, is_nan, ne}
use lib.Ieee.Compare.{differs_from_itself}
use Rattle.sine.specs.Lanes.{pattern_of}
use Rattle.sine.proofs.Floats.{no_nan}
use Rattle.sine.proofs.LaneLaws.{pattern_nan, pattern_bits}
use Rattle.sine.proofs.lanes.pattern.Goals as goal

none : (x : Float) → ne x x ≡ true → 0 ≡ pattern_of x
unfolding is_nan
none x e = sym (pattern_nan x (ap is_nan (differs_from_itself x (subst T (sym e) tt))))

pub returns-then-x : goal.returns-then-x
returns-then-x c =
    record { bits = none c.args.x c.if-x.true; fits = (let it : T (fits binary32 c.args.x) = subst T (sym c.well_formed.0.1) tt in it) }

pub float_to_bits-result : goal.float_to_bits-result
float_to_bits-result c = no_nan c.args.x c.if-x.false

pub returns : goal.returns
returns c =
    record { bits = sym (pattern_bits c.args.x (no_nan c.args.x c.if-x.false)); fits = (let it : T (fits binary32 c.args.x) = subst T (sym c.well_formed.0.1) tt in it) }
