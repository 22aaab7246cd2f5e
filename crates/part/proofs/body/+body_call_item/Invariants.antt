-- The cycle of the reader of bodies: `body` keeps a `Running` walk, `item` counts a step, and `call` has one nested call less to go; three times the nesting
-- left and a place in the cycle fall. Assumes nothing.
use lib.ListN.{length}
use Rattle.part.specs.Body.{inside}
use Rattle.part.specs.Columns.{held, SameColumns}
use Rattle.part.proofs.Running.{Running}
use Prim.Native.Nat.{◌+◌, ◌*◌, ◌-◌}
use Rattle.part.proofs.body.+body_call_item.Given as goal

abbrev pub decreases-body : goal.decreases-body
decreases-body l = 3 * l.nest + 2

abbrev pub decreases-call : goal.decreases-call
decreases-call l = 3 * l.nest

abbrev pub decreases-item : goal.decreases-item
decreases-item l = 3 * l.nest + 1

abbrev pub invariant-body-loop-s : goal.invariant-body-loop-s
invariant-body-loop-s l =
    Running (held l.book) l.line (inside (held l.book) l.nest l.line) l.text l.initial.s l.initial.columns.floats.now l.initial.columns.instruments.now l.initial.columns.loops.now l.at l.s l.columns.floats.now l.columns.instruments.now l.columns.loops.now
    × SameColumns l.initial.columns l.columns

abbrev pub decreases-body-loop-s : goal.decreases-body-loop-s
decreases-body-loop-s l = length l.text - l.at
