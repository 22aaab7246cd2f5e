-- `read_first` lends the first n bytes, and what counts within those counts within all. Assumes nothing.
use mathlib.Core.Path.{sym}
use native.Mathlib.Omega.{arith}
use lib.ListN.{length-append}
use lib.Seq.{length-take-le}
use Rattle.io.proofs.Counting.{prefix_len_of_le}
use Rattle.ask_wave.proofs.read_first.Goals as goal

pub slice_bounds-read_full-end-2 : goal.slice_bounds-read_full-end-2
slice_bounds-read_full-end-2 c = sym (length-take-le c.args.n c.args.bytes.now (omega arith))

pub returns : goal.returns
returns c = prefix_len_of_le _ _ (simp length-append (omega arith))
