-- Numbers of four bytes in a list of bytes, the lowest byte first. Assumes nothing.
use Rattle.std.specs.Prelude.{List, [], ◌∷◌, ℕ, ◌+◌, ◌*◌, ◌/◌, ◌%◌, get_or}

-- the number of four bytes at place i
unfoldable pub word_at : List ℕ → ℕ → ℕ
word_at s i = get_or s i 0 + get_or s (i + 1) 0 * 0x100 + get_or s (i + 2) 0 * 0x1_0000 + get_or s (i + 3) 0 * 0x100_0000

-- the four bytes of a number
unfoldable pub bytes_of : ℕ → List ℕ
bytes_of w = w % 256 ∷ w / 0x100 % 256 ∷ w / 0x1_0000 % 256 ∷ w / 0x100_0000 % 256 ∷ []
