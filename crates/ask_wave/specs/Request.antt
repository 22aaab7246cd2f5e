-- A request: a head of five numbers of four bytes each, the lowest byte first, and the samples' bit patterns, four bytes each; and
-- what the buffer holds before it is written to. Assumes nothing.
use Rattle.std.specs.Prelude.{true, false, List, [], ◌∷◌, ℕ, zero, suc, ◌+◌, ◌*◌, ◌%◌, min, ltb, Float}
use Rattle.std.specs.Float.{binary32}
use Rattle.std.specs.Float.Ieee.{of_bits}
use Rattle.fields.specs.Word.{word_at}
use Rattle.ask_wave.specs.declared.request.Request.{Request}

abbrev pub request_of : List ℕ → Request
request_of s = record { kind = word_at s 0; room = word_at s 4; place = word_at s 8; rate = word_at s 12; count = word_at s 16 }

-- how many bytes of samples follow the head, of those that there is room for: four for each sample of a file or a window
unfoldable pub follow : Request → ℕ → ℕ
follow r most = elim (ltb r.kind 2) [ true ↦ min (4 * r.count) most | false ↦ 0 ]

-- n floats from the i-th on
unfoldable pub floats_from : List ℕ → ℕ → ℕ → List Float
floats_from s i zero = []
floats_from s i (suc n) = of_bits binary32 (word_at s (4 * i)) ∷ floats_from s (i + 1) n

-- n bytes of the pattern from place i on
unfoldable pub pattern_from : ℕ → ℕ → List ℕ
pattern_from i zero = []
pattern_from i (suc n) = i % 251 ∷ pattern_from (i + 1) n
