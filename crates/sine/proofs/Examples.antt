-- Worked sines, each computed by the definition: the zeros keep their signs, some angles, the last values below 2^31 and the
-- first at it, what is not finite, and two tables that are not T. A value is written by the bits of its `f32`. Assumes nothing.
use Rattle.std.proofs.Common.{◌≡◌, ℕ, ◌^◌, true, false, [], ◌∷◌, refl}
use lib.Ieee.{nan, inf, binary32, round, of_bits}
use Rattle.sine.specs.Quarter.{quarter}
use Rattle.sine.specs.Turn.{height, turn_sine_by, turn_sine}

-- the sine of the float with the bits b is the float with the bits r
abbrev Sine : ℕ → ℕ → Type 0
Sine b r = turn_sine (of_bits binary32 b) ≡ of_bits binary32 r

-- 0.0 and -0.0 are their own sines
zero : Sine 0x0000_0000 0x0000_0000
unfolding turn_sine_by of_bits round quarter
zero = refl

minus_zero_law : Sine 0x8000_0000 0x8000_0000
unfolding turn_sine_by of_bits round quarter
minus_zero_law = refl

-- the smallest value above 0.0 lies at position 0
smallest : Sine 0x0000_0001 0x0000_0000
unfolding turn_sine_by of_bits round quarter
smallest = refl

-- 1.0 and -1.0: 0.8414709, either way
one : Sine 0x3f80_0000 0x3f57_6aa3
unfolding turn_sine_by of_bits round quarter
one = refl

minus_one_law : Sine 0xbf80_0000 0xbf57_6aa3
unfolding turn_sine_by of_bits round quarter
minus_one_law = refl

-- the `f32` nearest pi / 4: 0.70710677
eighth_turn : Sine 0x3f49_0fdb 0x3f35_04f3
unfolding turn_sine_by of_bits round quarter
eighth_turn = refl

-- the `f32` nearest pi / 2 lies just past it: S is one below 2^24
quarter_turn : Sine 0x3fc9_0fdb 0x3f7f_ffff
unfolding turn_sine_by of_bits round quarter
quarter_turn = refl

-- the `f32` nearest pi lies just past it too: S is 1, in the third quarter
half_turn : Sine 0x4049_0fdb 0xb380_0000
unfolding turn_sine_by of_bits round quarter
half_turn = refl

-- 100.0: -0.50636554
hundred : Sine 0x42c8_0000 0xbf01_a12c
unfolding turn_sine_by of_bits round quarter
hundred = refl

-- 2147483520.0, the last value below 2^31, and its negative: 0.50154215, either way
last : Sine 0x4eff_ffff 0x3f00_6511
unfolding turn_sine_by of_bits round quarter
last = refl

minus_last : Sine 0xceff_ffff 0xbf00_6511
unfolding turn_sine_by of_bits round quarter
minus_last = refl

-- 2^31 and -2^31: 0.0, and not -0.0
first_beyond : Sine 0x4f00_0000 0x0000_0000
unfolding turn_sine_by of_bits round quarter
first_beyond = refl

minus_first_beyond : Sine 0xcf00_0000 0x0000_0000
unfolding turn_sine_by of_bits round quarter
minus_first_beyond = refl

-- what is not finite
of_infinity : turn_sine (inf false) ≡ nan
unfolding turn_sine_by
of_infinity = refl

of_minus_infinity : turn_sine (inf true) ≡ nan
unfolding turn_sine_by
of_minus_infinity = refl

of_nan : turn_sine nan ≡ nan
unfolding turn_sine_by
of_nan = refl

-- half way from 5 down to 3 the height is still 5
falls : height (5 ∷ 3 ∷ []) (2 ^ 19) ≡ 5
unfolding height
falls = refl

-- S = 2^24 + 1 lies half way between two values: S / 2^24 is rounded once, to the even one, which is 1.0
rounds : turn_sine_by (16777217 ∷ []) (of_bits binary32 0x0000_0000) ≡ of_bits binary32 0x3f80_0000
unfolding turn_sine_by of_bits round
rounds = refl
