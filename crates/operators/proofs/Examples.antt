-- Operator lines by example, each closed by computing: what a line says, and which refusal comes first. Assumes nothing.
use mathlib.Core.Path.{◌≡◌, refl}
use mathlib.Core.Option.{none, some}
use Prim.Native.Nat.{ℕ}
use Prim.Native.String.{String}
use lib.Ieee.{Float, binary32, of_bits, round}
use Rattle.text.specs.Quoted.{bytes}
use Rattle.number.specs.Digits.{int_at}
use Rattle.number.specs.Decimal.{decimal_at}
use Rattle.tree.specs.Lines.{Line}
use Rattle.sheet.specs.Refusals.{Outcome, going, refused, ◌>>=◌, ◌>>◌, refuse◌on◌unless◌, refuse◌on◌if◌}
use Rattle.strict.specs.declared.mode.Mode.TheVariants.{Plain, Strict}
use Rattle.operators.specs.OperatorLines.{operator_read}

-- line 5, the first of its instrument
abbrev first : String → Outcome Line
first l = operator_read Plain 5 none 0 (bytes l)

-- the same in strict mode
abbrev strictly : String → Outcome Line
strictly l = operator_read Strict 5 none 0 (bytes l)

-- line 5, below so many operators of which the last has a given indent
abbrev below : ℕ → ℕ → String → Outcome Line
below above before l = operator_read Plain 5 (some before) above (bytes l)

-- a line of plain sine with a given indent, sustain and feedback
abbrev plain : ℕ → Float → ℕ → Outcome Line
plain indent sustain feedback =
    going (record {
      indent = indent;
      op = record {
        amplitude = of_bits binary32 0x3f800000;
        freqratio = of_bits binary32 0x3f800000;
        attack = of_bits binary32 0;
        decay = of_bits binary32 0;
        sustain = sustain;
        release = of_bits binary32 0;
        feedback = feedback;
      };
    })

abbrev one : Float
one = of_bits binary32 0x3f800000

-- what follows a number in its token is ignored: the sustain `0,7` is 0, and the feedback `3x` is 3
pub read :
    (first "1 1 0 0 1 0" ≡ plain 0 one 0)
    × (first "1 1 0 0 0,7 0" ≡ plain 0 (of_bits binary32 0) 0)
    × (first "1 1 0 0 1 0 3" ≡ plain 0 one 3)
    × (first "1 1 0 0 1 0 3x" ≡ plain 0 one 3)
    × (first " 1\t1  0 0 1 0 255 " ≡ plain 0 one 255)
unfolding bytes operator_read decimal_at int_at round of_bits ◌>>=◌ ◌>>◌ refuse◌on◌unless◌ refuse◌on◌if◌
read = (refl, refl, refl, refl, refl)

-- "Indent is the number of leading tabs": 15 below no operator, 16 where it grows by more than one
pub indents :
    (below 1 0 "\t1 1 0 0 1 0" ≡ plain 1 one 0)
    × (below 1 7 "1 1 0 0 1 0" ≡ plain 0 one 0)
    × (first " \t1 1 0 0 1 0" ≡ plain 0 one 0)
    × (first "\t1 1 0 0 1 0" ≡ refused 15 5)
    × (below 1 0 "\t\t1 1 0 0 1 0" ≡ refused 16 5)
unfolding bytes operator_read decimal_at int_at round of_bits ◌>>=◌ ◌>>◌ refuse◌on◌unless◌ refuse◌on◌if◌
indents = (refl, refl, refl, refl, refl)

-- the order: the indent, the tokens, then the numbers from the left, at each 18 before 19; feedback 18, then 20; 21 at the end
pub order :
    (first "\t1" ≡ refused 15 5)
    × (first "x 1 0 0 1" ≡ refused 17 5)
    × (first "x 1 0 0 1 0 3 4" ≡ refused 17 5)
    × (first "1111111111111111111 x 0 0 1 0" ≡ refused 19 5)
    × (first "x 1111111111111111111 0 0 1 0" ≡ refused 18 5)
    × (first "1111111111111111111. 1 0 0 1 0" ≡ refused 18 5)
    × (first "1 1 0 0 1 x 256" ≡ refused 18 5)
    × (first "1 1 0 0 1 0 x" ≡ refused 18 5)
    × (first "1 1 0 0 1 0 4294967296" ≡ refused 18 5)
    × (below 32 0 "1 1 0 0 1 0 4294967295" ≡ refused 20 5)
    × (first "1 1 0 0 1 0 256" ≡ refused 20 5)
unfolding bytes operator_read decimal_at int_at round of_bits ◌>>=◌ ◌>>◌ refuse◌on◌unless◌ refuse◌on◌if◌
order = (refl, refl, refl, refl, refl, refl, refl, refl, refl, refl, refl)

-- "Operators 32 per instrument": the 32nd is read, and the 33rd is refused
pub full : (below 31 0 "1 1 0 0 1 0" ≡ plain 0 one 0) × (below 32 0 "1 1 0 0 1 0" ≡ refused 21 5)
unfolding bytes operator_read decimal_at int_at round of_bits ◌>>=◌ ◌>>◌ refuse◌on◌unless◌ refuse◌on◌if◌
full = (refl, refl)

-- in strict mode a token is read to its end, or it is 32: right after 18, 19 and 20 of that token, and before the next one is looked at
pub strict :
    (strictly "1 1 0 0 1 0" ≡ plain 0 one 0)
    × (strictly "1 1 0 0 0,7 0" ≡ refused 32 5)
    × (strictly "1 1 0 0 1e3 0" ≡ refused 32 5)
    × (strictly "1 1 0 0 1 0 3" ≡ plain 0 one 3)
    × (strictly "1 1 0 0 1 0 3x" ≡ refused 32 5)
    × (strictly "1 1 0 0 1 0 256x" ≡ refused 20 5)
    × (strictly "1111111111111111111x 1 0 0 1 0" ≡ refused 19 5)
    × (strictly "0,7 x 0 0 1 0" ≡ refused 32 5)
    × (strictly "x 0,7 0 0 1 0" ≡ refused 18 5)
    × (strictly "0,7 1 0 0 1" ≡ refused 17 5)
unfolding bytes operator_read decimal_at int_at round of_bits ◌>>=◌ ◌>>◌ refuse◌on◌unless◌ refuse◌on◌if◌
strict = (refl, refl, refl, refl, refl, refl, refl, refl, refl, refl)
