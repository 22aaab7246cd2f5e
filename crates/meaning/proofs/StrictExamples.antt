-- Strict numbers by example, each sheet computed in both modes: the answer in plain mode, then that in strict mode; and
-- the tokens of a sheet that are read, with the place at which the reading of each stopped. Assumes nothing.
use mathlib.Core.Path.{◌≡◌, refl}
use mathlib.Core.List.{List, [], ◌∷◌, map}
use Prim.Native.Nat.{ℕ}
use Prim.Native.String.{String}
use lib.Ieee.{round, add, sub, mul, div, lt, of_bits, of_int}
use Rattle.text.specs.Quoted.{bytes}
use Rattle.sheet.specs.Refusals.{Outcome, going, refused, ◌>>=◌, ◌>>◌, refuse◌on◌unless◌, refuse◌on◌if◌, refuse◌on◌without◌}
use Rattle.strict.specs.declared.mode.Mode.{Mode}
use Rattle.strict.specs.declared.mode.Mode.TheVariants.{Plain, Strict}
use Rattle.meaning.specs.ReadTokens.{Reader, decimal, digits, key, stop_at, Token, tokens_read}
use Rattle.meaning.specs.Sheets.{Read, sheet_read}

-- ---- which refusal

-- a refusal's number and its line; an accepted sheet has 0 and 0
unfoldable pub verdict_of : Outcome Read → ℕ × ℕ
verdict_of (going r) = (0, 0)
verdict_of (refused n l) = (n, l)

unfoldable pub verdict : Mode → String → ℕ × ℕ
unfolding sheet_read bytes verdict_of
verdict mode t = verdict_of (sheet_read mode 44100 (bytes t))

-- each sheet, then plain mode's verdict and strict mode's
unfoldable pub table : List (String × ((ℕ × ℕ) × (ℕ × ℕ)))
table =
    ("@i\n1 1 0 0 0,7 0\n\np @i a", ((0, 0), (32, 2)))
    ∷ ("@i\n1 1 0 0 0.7 0\n\np @i a", ((0, 0), (0, 0)))
    ∷ ("@i\n1 1 0 0 1e3 0\n\np @i a", ((0, 0), (32, 2)))
    ∷ ("@i\n1 1 0 0 1 0 3x\n\np @i a", ((0, 0), (32, 2)))
    ∷ ("@i\n1 1 0 0 1 0 256x\n\np @i a", ((20, 2), (20, 2)))
    ∷ ("@i\n1 1 0 0 1 0 x3\n\np @i a", ((18, 2), (18, 2)))
    ∷ ("@i\n1111111111111111111x 1 0 0 1 0\n\np @i a", ((19, 2), (19, 2)))
    ∷ ("@i\n1111111111111111111x 0,7 0 0 1 0 256x\n\np @i a", ((19, 2), (19, 2)))
    ∷ ("@i\n0,7,7 x 0 0 1 0 256x\n\np @i a", ((18, 2), (32, 2)))
    ∷ ("@i\n1 1 0 0 1 0\n\t1 1 0 0,5 1 0\n\np @i a", ((0, 0), (32, 3)))
    ∷ ("#tempo 120bpm\np a", ((0, 0), (32, 1)))
    ∷ ("#tempo 120 bpm\np a", ((0, 0), (0, 0)))
    ∷ ("#tempo 0x\np a", ((8, 1), (8, 1)))
    ∷ ("#denom 96th\np a", ((0, 0), (32, 1)))
    ∷ ("#key f+x\np a", ((0, 0), (32, 1)))
    ∷ ("#key f+ x\np a", ((0, 0), (0, 0)))
    ∷ ("#key fx\np a", ((9, 1), (9, 1)))
    ∷ ("p v0,7 a", ((14, 1), (14, 1)))
    ∷ []

pub verdicts : map (λ (row : String × ((ℕ × ℕ) × (ℕ × ℕ))). (verdict Plain row.0, verdict Strict row.0)) table ≡ map (λ (row : String × ((ℕ × ℕ) × (ℕ × ℕ))). row.1) table
unfolding table verdict ◌>>=◌ ◌>>◌ refuse◌on◌unless◌ refuse◌on◌if◌ refuse◌on◌without◌ round add sub mul div lt of_bits of_int
verdicts = refl

-- ---- which tokens are read, and how far

-- what a token is read as, the token, and the place at which its reader stopped
abbrev Shown : Type 0
Shown = Reader × (String × ℕ)

unfoldable pub tokens : String → List (Reader × (List ℕ × ℕ))
unfolding tokens_read bytes stop_at
tokens t = map (λ (x : Token). (x.0, (x.1, stop_at x.0 x.1))) (tokens_read (bytes t))

unfoldable pub shown : List Shown → List (Reader × (List ℕ × ℕ))
unfolding bytes
shown rows = map (λ (row : Shown). (row.0, (bytes row.1.0, row.1.1))) rows

-- README's sheet, its comment cut: of `0,7` one byte is read, and of the five other tokens all; what a part's line has
-- is none of these tokens
pub on_grade : tokens "; On grade\n@grade\n1 1 0.02 0.1 0,7 0.4\n\np @grade t60 v0.5 o4 a1\n"
    ≡ shown
    ((decimal, ("1", 1))
    ∷ (decimal, ("1", 1))
    ∷ (decimal, ("0.02", 4))
    ∷ (decimal, ("0.1", 3))
    ∷ (decimal, ("0,7", 1))
    ∷ (decimal, ("0.4", 3))
    ∷ [])
unfolding tokens shown
on_grade = refl

-- later tokens of a directive are none of them
pub later_tokens : tokens "#tempo 120 bpm\n#denom 4 /4\n#key f+ x\np a"
    ≡ shown ((digits, ("120", 3)) ∷ (digits, ("4", 1)) ∷ (key, ("f+", 2)) ∷ [])
unfolding tokens shown
later_tokens = refl

-- a tail of a directive's second token, of a feedback, and of a body, which is none of them
pub tails : tokens "#key c+x\n#tempo 120bpm\n@i\n1 1 0 0 1 0 3x\n\np @i v0.5x a"
    ≡ shown
    ((key, ("c+x", 2))
    ∷ (digits, ("120bpm", 3))
    ∷ (decimal, ("1", 1))
    ∷ (decimal, ("1", 1))
    ∷ (decimal, ("0", 1))
    ∷ (decimal, ("0", 1))
    ∷ (decimal, ("1", 1))
    ∷ (decimal, ("0", 1))
    ∷ (digits, ("3x", 1))
    ∷ [])
unfolding tokens shown
tails = refl
