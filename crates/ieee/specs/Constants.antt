-- The floats that document 01's rules name, each once. A float is written as the logic has it: `fin s m e` is m · 2^e, negative where s is
-- true. `proofs/Constants.antt` shows that each is the decimal in its comment, exactly. Assumes nothing.
use Rattle.std.specs.Prelude.{true, false, pos, negsuc, Float}
use Rattle.std.specs.Float.{fin}

-- 0.0, the zero without a sign: "an empty sum 0.0", "|x| ≥ 2^31 gives 0.0"
abbrev pub plus_zero : Float
plus_zero = fin false 0 (pos 0)

-- -0.0
abbrev pub minus_zero : Float
minus_zero = fin true 0 (pos 0)

-- 0.5: "amplitude 0.5" at the start
abbrev pub half : Float
half = fin false 1 (negsuc 0)

-- 1.0
abbrev pub one : Float
one = fin false 1 (pos 0)

-- -1.0
abbrev pub minus_one : Float
minus_one = fin true 1 (pos 0)

-- 2.0
abbrev pub two : Float
two = fin false 1 (pos 1)

-- 440.0: "Frequency = 440 times step to the power s − 57"
abbrev pub concert_pitch : Float
concert_pitch = fin false 55 (pos 3)

-- 60.0: "Duration = (60 / tempo) · (denominator / value)"
abbrev pub minute : Float
minute = fin false 15 (pos 2)

-- 1.5: "then times 1.5 if dotted"
abbrev pub dot_factor : Float
dot_factor = fin false 3 (negsuc 0)

-- 32767.5: "clamp to −1..1, times 32767.5 in f32"
abbrev pub sample_scale : Float
sample_scale = fin false 65535 (negsuc 0)
