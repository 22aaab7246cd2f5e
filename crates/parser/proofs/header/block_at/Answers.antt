-- `block_at` lends the two regions of its instrument. Assumes nothing.
use Rattle.parser.proofs.Blocks.{blocked, blocked_beside}
use Rattle.parser.proofs.header.block_at.Goals as goal

pub returns : goal.returns
returns c =
    let e = c.read_block.ensures in record {
      block = blocked c.args.mode c.args.source.now c.args.at c.args.i c.read_block.result c.args.numbers.now c.args.shape.now c.read_block.new.numbers c.read_block.new.shape
          c.requires.0 c.requires.1.0 c.requires.1.1 c.read_block.auto.numbers c.read_block.auto.shape e.read e.onward e.within.0 e.within.1 e.few;
      aside = blocked_beside c.args.mode c.args.source.now c.args.at c.args.i c.read_block.result c.args.numbers.now c.args.shape.now c.read_block.new.numbers c.read_block.new.shape
          c.requires.0 c.requires.1.0 c.requires.1.1 c.read_block.auto.numbers c.read_block.auto.shape;
    }
