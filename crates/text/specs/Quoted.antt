-- Quoted texts, for names and worked examples: a text as the list of its bytes, so that an example reads as a dealer writes it.
-- Assumes nothing.
use Rattle.std.specs.Prelude.{List, ℕ}
use Prim.Native.Char.{code}
use Prim.Native.String.{String, [], ◌∷◌}

-- the bytes of a quoted text, one for each of its characters
unfoldable pub bytes : String → List ℕ
bytes [] = List.[]
bytes (c ∷ s) = List.◌∷◌ (code c) (bytes s)
