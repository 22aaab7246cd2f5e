-- `word` is `word_at`: `from_le_bytes` of the four bytes. Assumes nothing.
use Rattle.std.proofs.Common.{arith}
use Rattle.fields.specs.Word.{word_at}
use Rattle.fields.proofs.word.word.Goals as goal

pub returns : goal.returns
unfolding word_at
returns c = omega arith
