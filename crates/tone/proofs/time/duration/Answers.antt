-- `duration` is its definition, operation by operation: each cast is the f32 nearest to its number, and the two returns are its two cases.
-- Assumes nothing.
use lib.Ieee.{of_bits}
use Rattle.tone.specs.Time.{duration_of}
use Rattle.tone.proofs.time.duration.Goals as goal

pub returns-then-dotted : goal.returns-then-dotted
unfolding of_bits duration_of
returns-then-dotted c =
    rw (c.nearest_u32_to_f32-beat.ensures, c.nearest_u32_to_f32.ensures, c.nearest_u32_to_f32-2.ensures, c.if-dotted.true)

pub returns-else-dotted : goal.returns-else-dotted
unfolding of_bits duration_of
returns-else-dotted c =
    rw (c.nearest_u32_to_f32-beat.ensures, c.nearest_u32_to_f32.ensures, c.nearest_u32_to_f32-2.ensures, c.if-dotted.false)
