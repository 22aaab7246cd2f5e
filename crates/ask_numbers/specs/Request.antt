-- The fields of a 32-byte request. Byte 0 is the kind. Numbers take four bytes, the lowest first, from byte 4 on; a text has its
-- length in byte 1, the place to read at in byte 2, and its bytes from byte 3 on. Assumes nothing.
use Rattle.std.specs.Prelude.{ℕ, List, take, drop, slice_index}

abbrev pub kind_of : List ℕ → ℕ
kind_of s = slice_index s 0

-- as many bytes as the length says, or all that there are
unfoldable pub text_of : List ℕ → List ℕ
text_of s = take (slice_index s 1) (drop 3 s)

abbrev pub place_of : List ℕ → ℕ
place_of s = slice_index s 2
