-- A window of the samples of a sheet that is handed in. Document 01: "A window takes a start and a lent f32 slice, writes the samples from the start that
-- exist and fit, and returns how many; later elements keep their values."; "Rendering: 28, 29." Assumes nothing.
use Rattle.std.specs.Prelude.{List, ◌++◌, ℕ, ◌-◌, min, leb, length, drop, Float}
use Rattle.sheet.specs.declared.sheet.Sheet.{Sheet}
use Rattle.sheet.specs.Parts.{length_of}
use Rattle.sheet.specs.Refusals.{Outcome, going, refused, ◌>>◌, refuse◌on◌unless◌}
use Rattle.handed.specs.Check.{is_sheet}
use Rattle.evaluator.specs.Samples.{samples_from}
use Rattle.mixing.specs.Placing.{placed}

-- how many samples a window from `start` on takes, that has room for so many: "28, 29"
unfoldable pub window_of : ℕ → Sheet → ℕ → ℕ → Outcome ℕ
unfolding is_sheet length_of
window_of rate s start room = do
  refuse 28 on 0 unless (is_sheet rate s)
  refuse 29 on 0 unless (leb start (length_of rate s))
  going (min room (length_of rate s - start))

-- what a slice holds afterwards, by what came of it: so many samples, then what stood there; a refusal writes nothing
unfoldable pub filled_by : ℕ → Sheet → ℕ → List Float → Outcome ℕ → List Float
unfolding placed samples_from
filled_by rate s start xs (going n) = samples_from (placed rate s) start n ++ drop n xs
filled_by rate s start xs (refused k l) = xs

unfoldable pub window_in : ℕ → Sheet → ℕ → List Float → List Float
unfolding window_of filled_by
window_in rate s start xs = filled_by rate s start xs (window_of rate s start (length xs))
