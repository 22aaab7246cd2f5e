-- Worked lines and tokens, by computation. Document 01: "Lines end at LF; one CR before it is dropped."; "first token the name, the rest the body; under two
-- tokens it is skipped". Assumes nothing.
use mathlib.Core.Path.{◌≡◌, refl}
use mathlib.Core.List.{[], ◌∷◌}
use mathlib.Core.Option.{none, some}
use Rattle.text.specs.Quoted.{bytes}
use Rattle.lines.specs.Lines.{lines_of}
use Rattle.lines.specs.Tokens.{tokens_of, named_of}

-- an LF at the end begins no line; one CR goes, a second one and one at the text's end stay
pub lines :
    (lines_of (bytes "") ≡ [])
    × (lines_of (bytes "\n") ≡ bytes "" ∷ [])
    × (lines_of (bytes "a\nb") ≡ bytes "a" ∷ bytes "b" ∷ [])
    × (lines_of (bytes "a\r\n\r\r\nb\r") ≡ bytes "a" ∷ bytes "\r" ∷ bytes "b\r" ∷ [])
    × (lines_of (bytes "a\rb\n") ≡ bytes "a\rb" ∷ [])
unfolding bytes lines_of
lines = (refl, refl, refl, refl, refl)

pub tokens :
    (tokens_of (bytes "") ≡ [])
    × (tokens_of (bytes " \t\r") ≡ [])
    × (tokens_of (bytes " p\tc  d ") ≡ bytes "p" ∷ bytes "c" ∷ bytes "d" ∷ [])
    × (named_of (bytes " p ") ≡ none)
    × (named_of (bytes " p c d ") ≡ some (record { name = bytes "p"; body = bytes " c d " }))
unfolding bytes tokens_of named_of
tokens = (refl, refl, refl, refl, refl)
