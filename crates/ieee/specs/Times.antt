-- Times: durations and releases that document 01 takes, "duration or release NaN or negative" being refused. -0.0 is not negative. Assumes nothing.
use Rattle.std.specs.Prelude.{Bool, true, false, not, zero, suc, Float}
use Rattle.std.specs.Float.{nan, inf, fin}

-- neither a NaN nor below zero
abbrev pub is_time : Float → Bool
is_time nan = false
is_time (inf s) = not s
is_time (fin true zero e) = true
is_time (fin true (suc m) e) = false
is_time (fin false m e) = true
