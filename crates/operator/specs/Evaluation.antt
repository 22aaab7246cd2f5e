-- An operator's work, as document 01 and the Rust have it, every operation rounded to f32 in the Rust's order. "An operator works
-- feedback + 1 times; when no envelope stage holds, its input passes unchanged. The phase is ((((2·PI)·f)·ratio)·t) + input."
-- f is the note's frequency, d its duration, t the time. Assumes nothing.
use Rattle.std.specs.Prelude.{Option, Some, None, true, false, ◌&&◌, ℕ, zero, suc, Float}
use Rattle.std.specs.Float.{binary32}
use Rattle.std.specs.Float.Ieee.{of_bits, add, sub, mul, div, lt}
use Rattle.ieee.specs.Constants.{one, two}
use Rattle.sine.specs.Turn.{turn_sine}
use Rattle.operator.specs.declared.operator.Operator.{Operator}

-- 2 PI, with PI the f32 nearest to pi
unfoldable pub two_pi : Float
two_pi = mul binary32 two (of_bits binary32 0x40490fdb)

-- the stages of the envelope in their order: attack, decay, sustain, release, and past them all
unfoldable pub level_of : Operator → Float → Float → Option Float
level_of op d t =
    elim (lt t op.attack) [
      | true ↦ Some (div binary32 t op.attack)
      | false ↦
          elim (lt t d && lt t (add binary32 op.attack op.decay)) [
            | true ↦
                Some
                (add binary32 op.sustain
                (mul binary32 (sub binary32 one op.sustain) (sub binary32 one (div binary32 (sub binary32 t op.attack) op.decay))))
            | false ↦
                elim (lt t d) [
                  | true ↦ Some op.sustain
                  | false ↦
                      elim (lt t (add binary32 d op.release))
                      [ true ↦ Some (mul binary32 op.sustain (sub binary32 one (div binary32 (sub binary32 t d) op.release))) | false ↦ None ]
                ]
          ]
    ]

-- the phase before the input is added
unfoldable pub turn_at : Operator → Float → Float → Float
unfolding two_pi
turn_at op f t = mul binary32 (mul binary32 (mul binary32 two_pi f) op.freqratio) t

-- one round of work on an input x
unfoldable pub worked : Operator → Float → Float → Option Float → Float → Float
unfolding turn_at
worked op f t (Some level) x = mul binary32 level (mul binary32 op.amplitude (turn_sine (add binary32 (turn_at op f t) x)))
worked op f t None x = x

-- n rounds of h
unfoldable pub rounds : ℕ → (Float → Float) → Float → Float
rounds zero h x = x
rounds (suc n) h x = rounds n h (h x)

-- "An operator works feedback + 1 times"
unfoldable pub operator_at : Float → Float → Float → Operator → Float → Float
unfolding level_of worked rounds
operator_at f d t op x = rounds (suc op.feedback) (worked op f t (level_of op d t)) x
