-- Worked samples: -0.0 that is stored first stays -0.0, a second value is added to it, and a window has the samples that exist and then what stood there.
-- Assumes nothing.
use mathlib.Core.Path.{◌≡◌, refl}
use mathlib.Core.List.{[], ◌∷◌}
use Prim.Native.Nat.{ℕ}
use lib.Ieee.{Float, binary32, add}
use Rattle.ieee.specs.Constants.{minus_zero, one}
use Rattle.mixing.specs.Sounding.{Placed, sounds_at}
use Rattle.evaluator.specs.Samples.{nothing, value, joined_by, with_note, heard_from, sample_at, value_of, samples_from}
use Rattle.evaluator.proofs.Fronts.{last_end}
use Rattle.evaluator.proofs.Windows.{windowed}

abbrev silent : Placed
silent = record { start = 0; sounds = 2; sound = λ (i : ℕ). minus_zero }

abbrev late : Placed
late = record { start = 1; sounds = 2; sound = λ (i : ℕ). one }

stays : sample_at (silent ∷ late ∷ []) 0 ≡ value minus_zero
unfolding sample_at heard_from with_note joined_by sounds_at
stays = refl

summed : sample_at (silent ∷ late ∷ []) 1 ≡ value (add binary32 minus_zero one)
unfolding sample_at heard_from with_note joined_by sounds_at
summed = refl

past : sample_at (silent ∷ late ∷ []) 3 ≡ nothing
unfolding sample_at heard_from with_note joined_by sounds_at
past = refl

long : last_end 0 (silent ∷ late ∷ []) ≡ 3
unfolding last_end
long = refl

-- a window from sample 2 on in a slice of three: one sample is written
cut : (x y z : Float) → windowed (silent ∷ late ∷ []) 3 2 (x ∷ y ∷ z ∷ []) ≡ one ∷ y ∷ z ∷ []
unfolding samples_from value_of sample_at heard_from with_note joined_by sounds_at
cut x y z = refl
