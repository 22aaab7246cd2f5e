-- `laid` makes each field of the sheet from the columns. Assumes nothing.
use Rattle.parser.proofs.Sheeting.{sheet_laid}
use Rattle.parser.proofs.ending.laid.Goals as goal

pub returns : goal.returns
returns c s places ls ms bs ns rs w g m =
    sheet_laid s places _ _ _ ls _ w g _ m _ _ _ c.counts_of.ensures c.notes_of.ensures c.table_of.ensures
