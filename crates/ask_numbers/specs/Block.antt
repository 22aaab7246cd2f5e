-- A block of requests, 32 bytes each, and the block of answers to them, 16 bytes each: four for the tag, eight for the value and
-- four for the place, the lowest byte first. Assumes nothing.
use Rattle.std.specs.Prelude.{ℕ, zero, suc, ◌+◌, ◌*◌, ◌/◌, ◌%◌, List, [], ◌∷◌, take, drop}
use Rattle.std.proofs.lemmas.List.Edits.{sets}
use Rattle.ask_numbers.specs.declared.answer.Answer.{Answer}
use Rattle.ask_numbers.specs.Answer.{answer_to}

-- the low n bytes of v, the lowest first
unfoldable pub little : ℕ → ℕ → List ℕ
little zero v = []
little (suc n) v = v % 256 ∷ little n (v / 256)

-- an answer written from place `at` of `out` on
abbrev pub put_at : List ℕ → ℕ → Answer → List ℕ
put_at out at a = sets (sets (sets out at (little 4 a.tag)) (at + 4) (little 8 a.value)) (at + 12) (little 4 a.place)

-- the i-th request, counted from 0
abbrev pub request_at : List ℕ → ℕ → List ℕ
request_at requests i = take 32 (drop (i * 32) requests)

-- `out` with the answers to n requests from the i-th on, each at its place
unfoldable pub answered : List ℕ → List ℕ → ℕ → ℕ → List ℕ
unfolding answer_to
answered requests out i zero = out
answered requests out i (suc n) = answered requests (put_at out (i * 16) (answer_to (request_at requests i))) (i + 1) n
