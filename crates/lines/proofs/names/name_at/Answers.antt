-- `name_at` passes over the blanks, the name and the blanks behind it. Assumes nothing.
use Rattle.lines.proofs.Named.{name_found}
use Rattle.lines.proofs.names.name_at.Goals as goal

pub returns : goal.returns
returns c = name_found _ _ _ _ c.blanks_end-from.ensures c.ink_end-end.ensures c.blanks_end-next.ensures
