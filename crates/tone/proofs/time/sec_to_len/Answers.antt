-- `sec_to_len` is its definition: the rate's cast is the f32 nearest to it, and `count` counts the product.
-- Assumes nothing.
use Rattle.tone.specs.Time.{length_of}
use Rattle.tone.proofs.time.sec_to_len.Goals as goal

pub returns : goal.returns
unfolding length_of
returns c = rw (c.count.ensures, c.nearest_u32_to_f32.ensures)
