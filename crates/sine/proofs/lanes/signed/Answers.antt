-- `signed` is the last product of `sine_by`. Assumes nothing.
use Rattle.sine.specs.Lanes.{signed_of}
use Rattle.sine.proofs.Floats.{unit_times}
use Rattle.sine.proofs.lanes.signed.Goals as goal

pub returns : goal.returns
unfolding signed_of
returns c = rw (c.nearest_u32_to_f32.ensures, c.unit.ensures) (unit_times _ _ c.ranges.s.fits)
