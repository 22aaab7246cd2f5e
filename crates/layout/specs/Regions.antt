-- Columns cut into regions of one width, one region behind the other. Assumes nothing.
use Rattle.std.specs.Prelude.{List, ℕ, ◌*◌, take, drop}

-- the region k of a column, each of w elements
unfoldable pub region : {A : Type 0} → ℕ → ℕ → List A → List A
region w k xs = take w (drop (w * k) xs)
