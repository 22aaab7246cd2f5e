-- What a request is answered, by the definitions of the crates that are asked. Floats are bits, NaN's 0x7fc00000. Tags: 0 no such
-- kind, 1 a value, 2 no number, 3 too long, 4 not a number, 5 negative, 6 too many. Assumes nothing.
use Rattle.std.specs.Prelude.{ℕ, zero, suc, ◌+◌, ◌-◌, ◌*◌, ◌%◌, ◌^◌, Bool, true, false, not, List, ◌==◌, from_bits, slice_index, to_bits, Float, Option, Some, None, Result, Ok, Err}
use Rattle.std.specs.Float.{binary32}
use Rattle.text.specs.declared.parsed.Parsed.{Parsed}
use Rattle.number.specs.declared.decimal.NoDecimal.{NoDecimal}
use Rattle.number.specs.declared.decimal.NoDecimal.TheVariants.{Unreadable, TooLong}
use Rattle.number.specs.Decimal.{decimal_at}
use Rattle.number.specs.Digits.{int_at}
use Rattle.sine.specs.Turn.{turn_sine}
use Rattle.tone.specs.declared.time.Uncounted.{Uncounted}
use Rattle.tone.specs.declared.time.Uncounted.TheVariants.{NotANumber, Negative, TooMany}
use Rattle.tone.specs.Power.{frequency_of}
use Rattle.tone.specs.Time.{duration_of, length_of}
use Rattle.ask_numbers.specs.declared.answer.Answer.{Answer}
use Rattle.fields.specs.Word.{word_at}
use Rattle.ask_numbers.specs.Request.{kind_of, text_of, place_of}

-- ---- answers

abbrev pub tagged : ℕ → Answer
tagged t = record { tag = t; value = 0; place = 0 }

abbrev pub valued : ℕ → Answer
valued v = record { tag = 1; value = v; place = 0 }

abbrev pub decimal_answer : Result (Parsed Float) NoDecimal → Answer
decimal_answer (Ok p) = record { tag = 1; value = to_bits binary32 p.value; place = p.next }
decimal_answer (Err Unreadable) = tagged 2
decimal_answer (Err TooLong) = tagged 3

abbrev pub digits_answer : Option (Parsed ℕ) → Answer
digits_answer (Some p) = record { tag = 1; value = p.value; place = p.next }
digits_answer None = tagged 2

abbrev pub length_answer : Result ℕ Uncounted → Answer
length_answer (Ok n) = valued n
length_answer (Err NotANumber) = tagged 4
length_answer (Err Negative) = tagged 5
length_answer (Err TooMany) = tagged 6

-- ---- the checksum over a run of sines

abbrev pub prime : ℕ
prime = 2 ^ 40 - 87

-- a checksum with one word more
abbrev pub mixed : ℕ → ℕ → ℕ
mixed sum word = (sum * 7368787 + word) % prime

abbrev pub sine_bits : ℕ → ℕ
sine_bits pattern = to_bits binary32 (turn_sine (from_bits binary32 pattern))

-- the checksum that goes on from a sum over `count` patterns, which wrap at 2^32
unfoldable pub sines_from : ℕ → ℕ → ℕ → ℕ
sines_from sum pattern zero = sum
sines_from sum pattern (suc left) = sines_from (mixed sum (sine_bits pattern)) ((pattern + 1) % 2 ^ 32) left

-- ---- what a request of each kind is answered

abbrev pub decimal_for : List ℕ → Answer
decimal_for s = decimal_answer (decimal_at (text_of s) (place_of s))

abbrev pub digits_for : ℕ → List ℕ → Answer
digits_for limit s = digits_answer (int_at limit (text_of s) (place_of s))

abbrev pub sine_for : List ℕ → Answer
sine_for s = valued (sine_bits (word_at s 4))

abbrev pub frequency_for : List ℕ → Answer
frequency_for s = valued (to_bits binary32 (frequency_of (word_at s 4)))

-- tempo, denominator, value, and whether there is a dot
abbrev pub duration_for : List ℕ → Answer
duration_for s = valued (to_bits binary32 (duration_of (word_at s 4) (word_at s 8) (word_at s 12) (not (slice_index s 16 == 0))))

-- seconds and rate
abbrev pub length_for : List ℕ → Answer
length_for s = length_answer (length_of (word_at s 8) (from_bits binary32 (word_at s 4)))

-- the first pattern and how many
abbrev pub sines_for : List ℕ → Answer
sines_for s = valued (sines_from 0 (word_at s 4) (word_at s 8))

abbrev pub pick : Bool → Answer → Answer → Answer
pick true a b = a
pick false a b = b

-- what a request is answered, by its kind
unfoldable pub answer_to : List ℕ → Answer
answer_to s =
    pick (kind_of s == 1) (decimal_for s)
    (pick (kind_of s == 2) (digits_for (2 ^ 32 - 1) s)
    (pick (kind_of s == 3) (digits_for (2 ^ 64 - 1) s)
    (pick (kind_of s == 4) (sine_for s)
    (pick (kind_of s == 5) (frequency_for s)
    (pick (kind_of s == 6) (duration_for s)
    (pick (kind_of s == 7) (length_for s)
    (pick (kind_of s == 8) (sines_for s) (tagged 0))))))))
