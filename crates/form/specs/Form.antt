-- The WAVE form of "Multimedia Programming Interface and Data Specifications 1.0" (IBM and Microsoft, 1991), as lists of bytes.
-- A chunk is a name of four characters, the size of its data as four bytes, the lower first, and the data, padded to an even
-- length. A WAVE file is one chunk named RIFF whose data is the word WAVE, a chunk `fmt ` and a chunk `data`.
-- Request T-06: "New files carry 36 + 2n, and the header is proved against the published form. The old value stays available by name". That old value is
-- document 01's: "The RIFF size is 32 + 2n as in the Rust; the other header fields follow the published form." The rate is a parameter. Assumes nothing.
use Rattle.std.specs.Prelude.{true, false, List, [], ◌∷◌, ◌++◌, ℕ, zero, suc, ◌+◌, ◌*◌, ◌/◌, ◌%◌, eqb, length}
use Rattle.text.specs.Quoted.{bytes}
use Rattle.form.specs.declared.size.Size.{Size}
use Rattle.form.specs.declared.size.Size.TheVariants.{Published, Old}

-- the number v as n bytes, the lower first
unfoldable pub le : ℕ → ℕ → List ℕ
le zero v = []
le (suc n) v = v % 256 ∷ le n (v / 256)

-- the four characters that name a chunk or a form
unfoldable pub riff_name : List ℕ
unfolding bytes
riff_name = bytes "RIFF"

unfoldable pub wave_name : List ℕ
unfolding bytes
wave_name = bytes "WAVE"

unfoldable pub fmt_name : List ℕ
unfolding bytes
fmt_name = bytes "fmt "

unfoldable pub data_name : List ℕ
unfolding bytes
data_name = bytes "data"

-- "padded with zero byte to an even length"
unfoldable pub padded : List ℕ → List ℕ
padded body = elim (eqb (length body % 2) 0) [ true ↦ body | false ↦ body ++ (0 ∷ []) ]

-- a chunk whose size field says `size`
unfoldable pub sized : List ℕ → ℕ → List ℕ → List ℕ
unfolding le padded
sized name size body = name ++ (le 4 size ++ padded body)

-- a chunk as published: the size is that of its data, without the padding
unfoldable pub chunk : List ℕ → List ℕ → List ℕ
unfolding sized
chunk name body = sized name (length body) body

-- one channel of 16 bits: a block, the samples of one moment, is 2 bytes
abbrev pub channels : ℕ
channels = 1

abbrev pub bits : ℕ
bits = 16

abbrev pub block : ℕ
block = channels * bits / 8

-- the 16 bytes of `fmt `: format 1 (PCM), channels, rate, bytes a second, bytes a block, bits a sample
unfoldable pub format : ℕ → List ℕ
unfolding le
format rate = le 2 1 ++ (le 2 channels ++ (le 4 rate ++ (le 4 (rate * block) ++ (le 2 block ++ le 2 bits))))

-- the data of the RIFF chunk: the form's name, then the two chunks
unfoldable pub wave_body : ℕ → List ℕ → List ℕ
unfolding chunk format wave_name fmt_name data_name
wave_body rate body = wave_name ++ (chunk fmt_name (format rate) ++ chunk data_name body)

-- a WAVE file whose RIFF size says `size`
unfoldable pub wave_file : ℕ → ℕ → List ℕ → List ℕ
unfolding sized wave_body riff_name
wave_file size rate body = sized riff_name size (wave_body rate body)

-- a WAVE file as published
unfoldable pub published : ℕ → List ℕ → List ℕ
unfolding chunk wave_body riff_name
published rate body = chunk riff_name (wave_body rate body)

-- ---- the header of a file of n samples

-- the RIFF size by its name: "36 + 2n", which "counts every byte after the size field", or as in the Rust "32 + 2n"
unfoldable pub size_field : Size → ℕ → ℕ
size_field Published n = 36 + 2 * n
size_field Old n = 32 + 2 * n

-- the 44 bytes before the samples
unfoldable pub header : Size → ℕ → ℕ → List ℕ
unfolding le chunk format riff_name wave_name fmt_name data_name size_field
header size rate n = riff_name ++ (le 4 (size_field size n) ++ (wave_name ++ (chunk fmt_name (format rate) ++ (data_name ++ le 4 (2 * n)))))

-- the name that a number stands for, where a caller has no enum: 1 is the old size, and every other number the published one, which every reader takes
unfoldable pub size_numbered : ℕ → Size
size_numbered number = elim (eqb number 1) [ true ↦ Old | false ↦ Published ]
