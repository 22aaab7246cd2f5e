-- Worked values of document 01's rules for numbers, proved by computation: what a dealer's text means can be read off here.
-- Assumes nothing.
use mathlib.Core.Path.{◌≡◌, refl}
use Prim.Native.Nat.{ℕ}
use Prim.Native.String.{String}
use lib.Ieee.{binary32, round, of_bits}
use Rattle.std.specs.Prelude.{Float, Some, None, Result, Ok, Err}
use Rattle.text.specs.declared.parsed.Parsed.{Parsed}
use Rattle.text.specs.Parsed.{parsed}
use Rattle.number.specs.declared.decimal.NoDecimal.{NoDecimal}
use Rattle.number.specs.declared.decimal.NoDecimal.TheVariants.{Unreadable, TooLong}
use Rattle.text.specs.Quoted.{bytes}
use Rattle.number.specs.Digits.{value_most, count_most, int_at}
use Rattle.number.specs.Decimal.{decimal_at}

-- the decimal that a text begins with
abbrev decimal : String → Result (Parsed Float) NoDecimal
decimal t = decimal_at (bytes t) 0

-- the f32 of the given bits, read up to a place
abbrev number : ℕ → ℕ → Result (Parsed Float) NoDecimal
number bits next = Ok (parsed (of_bits binary32 bits) next)

-- "`0,7` is 0, `1e3` is 1. `.5` and `5.` are unreadable": the comma is no point, and reading stops there
pub decimals :
    (decimal "0.7" ≡ number 0x3f333333 3)
    × (decimal "0,7" ≡ number 0 1)
    × (decimal "1e3" ≡ number 0x3f800000 1)
    × (decimal ".5" ≡ Err Unreadable)
    × (decimal "5." ≡ Err Unreadable)
    × (decimal "5.x" ≡ Err Unreadable)
    × (decimal "" ≡ Err Unreadable)
    × (decimal "-1" ≡ Err Unreadable)
    × (decimal "1.5.5" ≡ number 0x3fc00000 3)
unfolding bytes decimal_at round of_bits
decimals = (refl, refl, refl, refl, refl, refl, refl, refl, refl)

-- the nearest f32: 1.00000001 is 1, 1.0000001 is the next one up, and a tie goes to the even one, down or up
pub nearest :
    (decimal "1.00000001" ≡ number 0x3f800000 10)
    × (decimal "1.0000001" ≡ number 0x3f800001 9)
    × (decimal "16777217" ≡ number 0x4b800000 8)
    × (decimal "16777219" ≡ number 0x4b800002 8)
    × (decimal "16777217.0000000001" ≡ number 0x4b800001 19)
    × (decimal "0.00000000000000001" ≡ number 0x233877aa 19)
unfolding bytes decimal_at round of_bits
nearest = (refl, refl, refl, refl, refl, refl)

-- "Decimal digits 18, both sides of the point together": leading zeros count, and an unreadable number comes before a too long one
pub long :
    (decimal "999999999999999999" ≡ number 0x5d5e0b6b 18)
    × (decimal "9999999999999999999" ≡ Err TooLong)
    × (decimal "000000000000000001" ≡ number 0x3f800000 18)
    × (decimal "0000000000000000001" ≡ Err TooLong)
    × (decimal "0.0000000000000000001" ≡ Err TooLong)
    × (decimal "0000000000000000001." ≡ Err Unreadable)
unfolding bytes decimal_at round of_bits
long = (refl, refl, refl, refl, refl, refl)

-- digit runs: absent, over the limit, leading zeros of any length, a place inside a text and one past it
pub runs :
    (int_at value_most (bytes "c4294967295.") 1 ≡ Some (parsed 4294967295 11))
    × (int_at value_most (bytes "c4294967296.") 1 ≡ None)
    × (int_at count_most (bytes "18446744073709551615") 0 ≡ Some (parsed 18446744073709551615 20))
    × (int_at count_most (bytes "18446744073709551616") 0 ≡ None)
    × (int_at value_most (bytes "00000000000000000000000042") 0 ≡ Some (parsed 42 26))
    × (int_at value_most (bytes "c.") 1 ≡ None)
    × (int_at value_most (bytes "7") 9 ≡ None)
unfolding bytes int_at
runs = (refl, refl, refl, refl, refl, refl, refl)
