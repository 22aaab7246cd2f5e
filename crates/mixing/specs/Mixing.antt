-- The Rust's way to the samples, which the code goes too: note by note into one slice, where a value is added below the largest end of the notes before
-- it and stored from there on. For a sheet that passes the check this is the plain meaning: `evaluator`'s `Samples` and `Fronts`. Assumes nothing.
use Rattle.std.specs.Prelude.{true, false, List, [], ◌∷◌, ℕ, suc, ◌-◌, max, Float}
use Rattle.instrument.specs.Fill.{mixed}
use Rattle.mixing.specs.Sounding.{Placed, end_of, sounds_at}

-- the sample k where x stands, with a note mixed in: added below `covered`, stored from there on
unfoldable pub mix_at : ℕ → Placed → ℕ → Float → Float
unfolding sounds_at mixed
mix_at covered p k x = elim (sounds_at k p) [ true ↦ mixed covered k x (p.sound (k - p.start)) | false ↦ x ]

-- the samples from k on, with a note mixed in
unfoldable pub mix_one : ℕ → Placed → ℕ → List Float → List Float
unfolding mix_at
mix_one covered p k [] = []
mix_one covered p k (x ∷ xs) = mix_at covered p k x ∷ mix_one covered p (suc k) xs

-- with the notes one after the other; `covered` is the largest end so far
unfoldable pub mix_all : ℕ → List Placed → ℕ → List Float → List Float
unfolding mix_one
mix_all covered [] k xs = xs
mix_all covered (p ∷ ps) k xs = mix_all (max covered (end_of p)) ps k (mix_one covered p k xs)
