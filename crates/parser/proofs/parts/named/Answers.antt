-- `named` leaves the column as it was, or stores the name's places behind the others. Assumes nothing.
use native.Mathlib.Omega.{arith}
use lib.ListN.{length-set}
use Rattle.parser.proofs.Storing.{named_known, named_new}
use Rattle.parser.proofs.parts.named.Goals as goal

pub returns-then-k-parts : goal.returns-then-k-parts
returns-then-k-parts c = named_known _ _ _ _ _ c.if-k-parts.true

pub bounds-loops-at-2 : goal.bounds-loops-at-2
bounds-loops-at-2 c = simp length-set (omega arith)

pub returns : goal.returns
returns c = named_new _ _ _ _ _ c.if-k-parts.false c.requires.0
