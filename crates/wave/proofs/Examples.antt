-- Worked values of document 01's rules for WAV, proved by computation: what a write comes to can be read off here.
-- Assumes nothing.
use mathlib.Core.Path.{◌≡◌, refl}
use mathlib.Core.List.{[], ◌∷◌}
use lib.Ieee.{mul, lt}
use Rattle.ieee.specs.Constants.{minus_one, one}
use Rattle.form.specs.declared.size.Size.TheVariants.{Published}
use Rattle.wave.specs.File.{count_in, samples_in, written, refused, file_told, file_in}

-- two of three samples fit whole from place 1 of six bytes, none from a place past the end; the other bytes stay
pub windows :
    (count_in 6 1 3 ≡ 2)
    × (samples_in (9 ∷ 9 ∷ 9 ∷ 9 ∷ 9 ∷ 9 ∷ []) 1 (one ∷ minus_one ∷ one ∷ []) ≡ 9 ∷ 255 ∷ 127 ∷ 0 ∷ 128 ∷ 9 ∷ [])
    × (count_in 6 7 3 ≡ 0)
    × (samples_in (9 ∷ 9 ∷ []) 7 (one ∷ []) ≡ 9 ∷ 9 ∷ [])
unfolding count_in samples_in mul lt
windows = (refl, refl, refl, refl)

-- "The file of given f32 samples fills the buffer's first 44 + 2n bytes (30)", and over 2,000,000,000 samples are refused in any buffer
pub files :
    (file_told 3 50 ≡ written 50)
    × (file_told 3 49 ≡ refused 30)
    × (file_told 2000000000 4000000044 ≡ written 4000000044)
    × (file_told 2000000001 9000000000 ≡ refused 30)
    × (file_in Published 44100 (one ∷ []) (9 ∷ 9 ∷ []) ≡ 9 ∷ 9 ∷ [])
unfolding file_told file_in
files = (refl, refl, refl, refl, refl)
