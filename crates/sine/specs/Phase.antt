-- Where a float stands on the turn: what the turn sine keeps of x beside its sign. Private functions' contracts cite this, and no
-- public one. Assumes nothing.
use Rattle.std.specs.Prelude.{ℕ, ◌/◌, ◌%◌, ◌^◌, Float}
use Rattle.std.specs.Float.{nan, inf, fin}
use Rattle.sine.specs.Turn.{position}

-- the position of |x|, which a finite x has
unfoldable pub position_of : Float → ℕ
unfolding position
position_of nan = 0
position_of (inf s) = 0
position_of (fin s m e) = position m e

-- the exponent's field of a pattern
abbrev pub field_of : ℕ → ℕ
field_of b = b % 2 ^ 31 / 2 ^ 23
