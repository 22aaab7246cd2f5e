-- `empty_sheet` lays no parts and no instruments out. Assumes nothing.
use Rattle.parser.proofs.Sheeting.{sheet_empty}
use Rattle.parser.proofs.ending.empty_sheet.Goals as goal

pub returns : goal.returns
returns c =
    sheet_empty _ _ _ _ _ _ _ _ _ c.counts_of.ensures c.notes_of.ensures c.table_of.ensures
