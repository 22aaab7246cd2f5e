-- `sine` lends the table that it makes. Assumes nothing.
use Rattle.sine.proofs.turn.sine.Goals as goal

pub returns : goal.returns
returns c = rw c.table-table.ensures at c.sine_by.ensures
