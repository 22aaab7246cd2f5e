-- `fill` keeps that the part holds the bytes of the samples so far, and the rest as it was. Assumes nothing.
use Rattle.std.proofs.Common.{◌≡◌, ℕ, ◌/◌, ◌%◌, List, [], ◌∷◌, sym, ap, ◌∙◌, arith}
use lib.Ieee.{Float}
use Rattle.form.specs.Form.{le}
use Rattle.form.specs.Sample.{sample16, word, sample_bytes, bytes_of}
use Rattle.wave.proofs.Writes.{put_none, one_more}
use Rattle.wave.proofs.file.fill.Goals as goal

pub loop-i-init : goal.loop-i-init
unfolding bytes_of
loop-i-init c = sym (put_none _ 0)

-- the two bytes of a stored number are those of its sample
two_bytes : (v : ℕ) (bs : List ℕ) (x : Float) → bs ≡ v % 256 ∷ v / 256 % 256 ∷ [] → v ≡ word (sample16 x) → bs ≡ sample_bytes x
unfolding sample_bytes le
two_bytes v bs x b e = b ∙ ap (λ (k : ℕ). k % 256 ∷ k / 256 % 256 ∷ []) e

pub loop-i-preserved : goal.loop-i-preserved
loop-i-preserved c =
    let e = two_bytes _ _ _ c.to_le_bytes.ensures c.sample.ensures in
    rw c.loop-i.invariant (one_more c.args.part.now c.args.samples.now c.loop-i.i c.to_le_bytes.result _ (omega arith) (omega arith) e)
