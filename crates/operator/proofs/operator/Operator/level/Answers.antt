-- `level` asks for the stages in the definition's order: each way out is one case of it.
-- Assumes nothing.
use mathlib.Core.Path.{ap}
use Rattle.std.specs.Prelude.{Some}
use Rattle.operator.specs.Lanes.{decay_level, release_level}
use Rattle.operator.specs.Evaluation.{level_of}
use Rattle.operator.proofs.operator.Operator.level.Goals as goal

pub returns-then-t-attack : goal.returns-then-t-attack
unfolding level_of
returns-then-t-attack c = rw (c.if-t-attack.true, level_of)

pub returns-then-t-attack-2 : goal.returns-then-t-attack-2
unfolding level_of decay_level
returns-then-t-attack-2 c = rw (c.if-t-attack.false, c.if-t-d.true, c.if-t-attack-2.true, level_of) (ap Some c.decay_level.ensures)

pub returns-then-t-d : goal.returns-then-t-d
unfolding level_of
returns-then-t-d c = rw (c.if-t-attack.false, c.if-t-d.true, c.if-t-attack-2.false, level_of) (rw c.if-t-d.true)

pub returns-then-t-d-2 : goal.returns-then-t-d-2
unfolding level_of release_level
returns-then-t-d-2 c = rw (c.if-t-attack.false, c.if-t-d.false, level_of) (rw c.if-t-d.false (rw c.if-t-d-2.true (ap Some c.release_level.ensures)))

pub returns : goal.returns
unfolding level_of
returns c = rw (c.if-t-attack.false, c.if-t-d.false, level_of) (rw c.if-t-d.false (rw c.if-t-d-2.false))
