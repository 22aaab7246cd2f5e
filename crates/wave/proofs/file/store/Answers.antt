-- `store` keeps that the buffer holds the bytes so far, and the rest as it was. Assumes nothing.
use Rattle.std.proofs.Common.{sym, ap, ◌∙◌, arith}
use lib.Seq.{take_all}
use Rattle.wave.specs.File.{put}
use Rattle.wave.proofs.Writes.{put_none, one_byte_more}
use Rattle.wave.proofs.file.store.Goals as goal

pub loop-i-init : goal.loop-i-init
loop-i-init c = sym (put_none _ 0)

pub loop-i-preserved : goal.loop-i-preserved
loop-i-preserved c = rw c.loop-i.invariant (one_byte_more c.args.buffer.now c.args.bytes.now c.loop-i.i 0 (omega arith) (omega arith))

pub returns : goal.returns
returns c = c.loop-i.invariant ∙ ap (put c.args.buffer.now 0) (take_all c.loop-i.i c.args.bytes.now (omega arith))
