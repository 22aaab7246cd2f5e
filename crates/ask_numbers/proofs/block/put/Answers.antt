-- `put` stores three numbers, whose bytes are those of the definition. Assumes nothing.
use Rattle.std.proofs.Common.{◌≡◌, ℕ, ◌/◌, ◌%◌, List, [], ◌∷◌, take, ap, ◌∙◌}
use native.Mathlib.Nat.{div-div-eq-div-mul}
use Rattle.ask_numbers.specs.Block.{little}
use Rattle.ask_numbers.proofs.block.put.Goals as goal

abbrev eight : ℕ → List ℕ
eight v =
    v % 256
    ∷ v / 256 % 256
    ∷ v / 65536 % 256
    ∷ v / 16777216 % 256
    ∷ v / 4294967296 % 256
    ∷ v / 1099511627776 % 256
    ∷ v / 281474976710656 % 256
    ∷ v / 72057594037927936 % 256
    ∷ []

all_eight : (v : ℕ) → eight v ≡ little 8 v
unfolding little
all_eight v = simp div-div-eq-div-mul

low_four : (v : ℕ) → take 4 (eight v) ≡ little 4 v
unfolding little
low_four v = simp div-div-eq-div-mul

pub returns : goal.returns
returns c =
    let tag = ap (λ (s : List ℕ). take 4 s) c.to_le_bytes.ensures ∙ low_four c.args.a.tag in
    let value = c.to_le_bytes-2.ensures ∙ all_eight c.args.a.value in
    let place = ap (λ (s : List ℕ). take 4 s) c.to_le_bytes-3.ensures ∙ low_four c.args.a.place in
    rw (c.put_bytes-3.ensures, c.put_bytes-2.ensures, c.put_bytes.ensures, tag, value, place)
