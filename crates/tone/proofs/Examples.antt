-- Worked examples, each by computation of the definitions: frequencies with their bits, durations, and lengths at 44,100 samples a second with
-- each answer that a length has. Sheets 12 and 13 of document 01 rest on the two lengths of a quarter note. Assumes nothing.
use Rattle.std.proofs.Common.{◌≡◌, true, false, pos, negsuc, refl, Ok, Err}
use lib.Ieee.{nan, inf, fin, binary32, round, mul, div, of_int, to_bits}
use Rattle.ieee.specs.Constants.{concert_pitch, minus_one, minus_zero}
use Rattle.tone.specs.declared.time.Uncounted.TheVariants.{NotANumber, Negative, TooMany}
use Rattle.tone.specs.Power.{step, frequency_of}
use Rattle.tone.specs.Time.{duration_of, length_of}

-- ---- frequencies

-- `SEMINOTE_STEP` as an f32
pub step_bits : to_bits binary32 step ≡ 0x3f879c7d
unfolding step round to_bits
step_bits = refl

-- a of octave 4 is 440 Hz
pub a4 : frequency_of 57 ≡ concert_pitch
unfolding frequency_of round mul
a4 = refl

-- an octave above it, 880 Hz and nine units of the last place
pub a5 : to_bits binary32 (frequency_of 69) ≡ 0x445c0009
unfolding frequency_of round mul to_bits
a5 = refl

-- the lowest semitone that a note can have, 29.1 Hz
pub lowest : to_bits binary32 (frequency_of 10) ≡ 0x41e914cf
unfolding frequency_of round mul div to_bits
lowest = refl

-- and the highest, 8,869.9 Hz
pub highest : to_bits binary32 (frequency_of 109) ≡ 0x460a977a
unfolding frequency_of round mul to_bits
highest = refl

-- ---- durations and lengths

-- a quarter note at tempo 120 takes half a second
pub quarter_120 : duration_of 120 4 4 false ≡ fin false 1 (negsuc 0)
unfolding duration_of round mul div of_int
quarter_120 = refl

pub quarter_120_samples : length_of 44100 (duration_of 120 4 4 false) ≡ Ok 22050
unfolding length_of duration_of round mul div of_int
quarter_120_samples = refl

-- at tempo 100 it takes the f32 nearest to 0.6, which is above 0.6: so one sample more than 26,460
pub six_tenths : round binary32 false 6 10 ≡ fin false 5033165 (negsuc 22)
unfolding round
six_tenths = refl

pub quarter_100 : duration_of 100 4 4 false ≡ fin false 5033165 (negsuc 22)
unfolding duration_of round mul div of_int
quarter_100 = refl

pub quarter_100_samples : length_of 44100 (duration_of 100 4 4 false) ≡ Ok 26461
unfolding length_of duration_of round mul div of_int
quarter_100_samples = refl

-- a dotted eighth at tempo 120 takes 0.375 seconds, 16,537.5 samples
pub dotted_eighth : duration_of 120 4 8 true ≡ fin false 3 (negsuc 2)
unfolding duration_of round mul div of_int
dotted_eighth = refl

pub dotted_eighth_samples : length_of 44100 (duration_of 120 4 8 true) ≡ Ok 16538
unfolding length_of duration_of round mul div of_int
dotted_eighth_samples = refl

-- ---- the other answers

pub not_a_number : length_of 44100 nan ≡ Err NotANumber
unfolding length_of mul
not_a_number = refl

pub minus_one_law : length_of 44100 minus_one ≡ Err Negative
unfolding length_of round mul of_int
minus_one_law = refl

-- -0.0 is not below zero
pub minus_zero_law : length_of 44100 minus_zero ≡ Ok 0
unfolding length_of round mul of_int
minus_zero_law = refl

pub infinite : length_of 44100 (inf false) ≡ Err TooMany
unfolding length_of round mul of_int
infinite = refl

-- the most samples that one note may have, and the next f32, which is 2 above
pub most : length_of 1 (fin false 1 (pos 24)) ≡ Ok 16777216
unfolding length_of round mul of_int
most = refl

pub past_most : length_of 1 (fin false 8388609 (pos 1)) ≡ Err TooMany
unfolding length_of round mul of_int
past_most = refl
