-- Each named constant is the decimal that its comment says: the f32 nearest to it, which is it exactly. Assumes nothing.
use mathlib.Core.Path.{◌≡◌, refl}
use mathlib.Core.Bool.{true, false}
use lib.Ieee.{binary32, round}
use Rattle.ieee.specs.Constants.{plus_zero, minus_zero, half, one, minus_one, two, concert_pitch, minute, dot_factor, sample_scale}

pub decimals :
    (plus_zero ≡ round binary32 false 0 1)
    × (minus_zero ≡ round binary32 true 0 1)
    × (half ≡ round binary32 false 5 10)
    × (one ≡ round binary32 false 1 1)
    × (minus_one ≡ round binary32 true 1 1)
    × (two ≡ round binary32 false 2 1)
    × (concert_pitch ≡ round binary32 false 440 1)
    × (minute ≡ round binary32 false 60 1)
    × (dot_factor ≡ round binary32 false 15 10)
    × (sample_scale ≡ round binary32 false 327675 10)
unfolding round
decimals = (refl, refl, refl, refl, refl, refl, refl, refl, refl, refl)
