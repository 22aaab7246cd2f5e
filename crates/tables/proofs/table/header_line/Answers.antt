-- `header_line` meets its contract: one law for each of its ways out. Assumes nothing.
use Rattle.std.proofs.Common.{sym, ◌∙◌, arith}
use Rattle.tables.proofs.HeaderLines.{header_many, header_unnamed, header_taken, header_full, header_new}
use Rattle.tables.proofs.table.header_line.Goals as goal
use Rattle.tables.proofs.table.header_line.Goals.{
  then-count-gt-INSTRUMENTS-via-then-count-gt-INSTRUMENTS,
  then-count-gt-INSTRUMENTS-via-else-count-gt-INSTRUMENTS+then-names,
}

pub returns-then-count-gt-INSTRUMENTS : goal.returns-then-count-gt-INSTRUMENTS
returns-then-count-gt-INSTRUMENTS c =
    let a = c.args in
    elim c.then-count-gt-INSTRUMENTS.branch [
      | then-count-gt-INSTRUMENTS-via-then-count-gt-INSTRUMENTS w ↦
          let said = header_many a.source.now a.from a.end a.count a.names.now w.if-count-gt-INSTRUMENTS.true in
          record { number = said.0; names = said.1 }
      | then-count-gt-INSTRUMENTS-via-else-count-gt-INSTRUMENTS+then-names w ↦
          let said = header_unnamed a.source.now a.from a.end a.count a.names.now w.if-count-gt-INSTRUMENTS.false w.if-names.true in
          record { number = said.0; names = said.1 }
    ]

pub returns-then-is_taken : goal.returns-then-is_taken
returns-then-is_taken c =
    let a = c.args in
    let said = header_taken a.source.now a.from a.end a.count a.names.now c.if-count-gt-INSTRUMENTS.false c.if-names.false c.min-to.result c.min-begin.result c.min-to.ensures c.min-begin.ensures (sym c.is_taken.ensures ∙ c.if-is_taken.true) in
    record { number = said.0; names = said.1 }

pub returns-then-count-ge-INSTRUMENTS : goal.returns-then-count-ge-INSTRUMENTS
returns-then-count-ge-INSTRUMENTS c =
    let a = c.args in
    let said = header_full a.source.now a.from a.end a.count a.names.now c.if-count-gt-INSTRUMENTS.false c.if-names.false c.min-to.result c.min-begin.result c.min-to.ensures c.min-begin.ensures (sym c.is_taken.ensures ∙ c.if-is_taken.false) (omega arith) in
    record { number = said.0; names = said.1 }

pub returns : goal.returns
returns c =
    let a = c.args in
    let said = header_new a.source.now a.from a.end a.count a.names.now c.if-count-gt-INSTRUMENTS.false c.if-names.false c.min-to.result c.min-begin.result c.min-to.ensures c.min-begin.ensures (sym c.is_taken.ensures ∙ c.if-is_taken.false) (omega arith) _ c.put_entry.ensures in
    record { number = said.0; names = said.1 }
