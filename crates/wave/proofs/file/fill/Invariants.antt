-- `fill` keeps that the part holds the bytes of the samples so far, and the rest as it was. Assumes nothing.
use Rattle.std.proofs.Common.{◌≡◌, take}
use Rattle.form.specs.Sample.{bytes_of}
use Rattle.wave.specs.File.{put}
use Rattle.wave.proofs.file.fill.Given as goal

abbrev pub invariant-loop-i : goal.invariant-loop-i
invariant-loop-i l = l.part ≡ put l.initial.part 0 (bytes_of (take l.i l.samples))
