-- `read_block` walks line by line and keeps `Reading`. Assumes nothing.
use Rattle.std.proofs.Common.{◌-◌, length}
use Rattle.blocks.proofs.Reading.{Reading}
use Rattle.blocks.proofs.block.read_block.Given as goal

abbrev pub invariant-loop-place : goal.invariant-loop-place
invariant-loop-place l = Reading l.mode l.source l.at l.initial.numbers l.initial.shape l.numbers l.shape l.place l.count l.before

abbrev pub decreases-loop-place : goal.decreases-loop-place
decreases-loop-place l = length l.source - l.place
