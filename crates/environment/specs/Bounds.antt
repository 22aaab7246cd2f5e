-- The bounds of an environment's values, as document 01 has them. Assumes nothing.
use Rattle.std.specs.Prelude.{Bool, ◌&&◌, ℕ, leb}

-- a least and a most
pub record Bounds : Type 0 where
  pub least : ℕ
  pub most : ℕ

abbrev pub bounds : ℕ → ℕ → Bounds
bounds least most = record { least = least; most = most }

-- "`o` (1 to 8)"
abbrev pub octaves : Bounds
octaves = bounds 1 8

-- "`l` and `#denom` (1 to 128)"; a note's own value has the same
abbrev pub values : Bounds
values = bounds 1 128

abbrev pub denominators : Bounds
denominators = bounds 1 128

-- "`t` and `#tempo` (1 to 1000)"
abbrev pub tempos : Bounds
tempos = bounds 1 1000

-- whether a number lies within bounds
abbrev pub within : Bounds → ℕ → Bool
within b v = leb b.least v && leb v b.most
