-- The samples of notes that have their places. Document 01: "The first value at a sample is stored, later ones are added to it." So sample k is what
-- a walk over the notes leaves there, and -0.0 stored first stays -0.0. Assumes nothing.
use Rattle.std.specs.Prelude.{true, false, List, [], ◌∷◌, ℕ, zero, suc, ◌-◌, Float}
use Rattle.std.specs.Float.{binary32}
use Rattle.std.specs.Float.Ieee.{add}
use Rattle.ieee.specs.Constants.{plus_zero}
use Rattle.mixing.specs.Sounding.{Placed, sounds_at}

-- what stands at a sample: nothing yet, or a value
pub data Heard : Type 0 where
  nothing : Heard
  value : Float → Heard

-- "The first value at a sample is stored, later ones are added to it."
unfoldable pub joined_by : Heard → Float → Heard
joined_by nothing v = value v
joined_by (value x) v = value (add binary32 x v)

-- sample k with one note more
unfoldable pub with_note : ℕ → Heard → Placed → Heard
unfolding sounds_at joined_by
with_note k x p = elim (sounds_at k p) [ true ↦ joined_by x (p.sound (k - p.start)) | false ↦ x ]

-- and with notes one after the other
unfoldable pub heard_from : ℕ → Heard → List Placed → Heard
unfolding with_note
heard_from k x [] = x
heard_from k x (p ∷ ps) = heard_from k (with_note k x p) ps

-- sample k of the notes
unfoldable pub sample_at : List Placed → ℕ → Heard
unfolding heard_from
sample_at ps k = heard_from k nothing ps

-- the value of a sample; 0.0 where there is none, which no window asks for
unfoldable pub value_of : Heard → Float
value_of nothing = plus_zero
value_of (value v) = v

-- n samples, from sample k on
unfoldable pub samples_from : List Placed → ℕ → ℕ → List Float
unfolding value_of sample_at
samples_from ps k zero = []
samples_from ps k (suc n) = value_of (sample_at ps k) ∷ samples_from ps (suc k) n
