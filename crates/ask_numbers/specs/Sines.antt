-- Many sines at once, for their checksum. Private functions' contracts cite this, and no public one. Assumes nothing.
use Rattle.std.specs.Prelude.{ℕ, zero, suc, ◌+◌, ◌%◌, ◌^◌, List, from_bits, slice_index_or, to_bits, Float}
use Rattle.std.specs.Float.{nan, binary32}
use Rattle.ask_numbers.specs.Answer.{mixed}

-- lane j has the number of the pattern j behind another; patterns wrap at 2^32
unfoldable pub float_from : ℕ → ℕ → Float → Float
float_from pattern j x = from_bits binary32 ((pattern + j) % 2 ^ 32)

-- a checksum with the bits of the first n numbers more
unfoldable pub mixed_with : ℕ → List Float → ℕ → ℕ
mixed_with sum values zero = sum
mixed_with sum values (suc n) = mixed (mixed_with sum values n) (to_bits binary32 (slice_index_or values n nan))
