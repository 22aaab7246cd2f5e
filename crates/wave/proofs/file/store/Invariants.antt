-- `store` keeps that the buffer holds the bytes so far, and the rest as it was. Assumes nothing.
use Rattle.std.proofs.Common.{◌≡◌, take}
use Rattle.wave.specs.File.{put}
use Rattle.wave.proofs.file.store.Given as goal

abbrev pub invariant-loop-i : goal.invariant-loop-i
invariant-loop-i l = l.buffer ≡ put l.initial.buffer 0 (take l.i l.bytes)
