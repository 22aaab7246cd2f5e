-- `kept` reads the lines, and stores their number and the release where they are accepted. Assumes nothing.
use Rattle.parser.proofs.Blocks.{kept_refused, kept_stored}
use Rattle.parser.proofs.header.kept.Goals as goal

pub block_at-b-requires : goal.block_at-b-requires
block_at-b-requires c = c.requires

pub shape_of-numbers-in-Some : goal.shape_of-numbers-in-Some
shape_of-numbers-in-Some c = c.block_at-b.auto.numbers

pub shape_of-shape-in-Some : goal.shape_of-shape-in-Some
shape_of-shape-in-Some c = c.block_at-b.auto.shape

pub returns-in-Some : goal.returns-in-Some
returns-in-Some c =
    kept_refused _ _ _ _ _ _ _ _ _ c.block_at-b.ensures.block c.block_at-b.ensures.aside _ c.in-Some.is

pub returns : goal.returns
returns c =
    kept_stored _ _ _ _ _ _ _ _ _ c.block_at-b.ensures.block c.block_at-b.ensures.aside c.requires.0 _ c.release_at-release.ensures
