-- `macro_line` meets its contract: one law for each of its ways out. Assumes nothing.
use Rattle.std.proofs.Common.{sym, ◌∙◌, arith}
use Rattle.tables.proofs.MacroLines.{name_places, name_ends, macro_many, macro_unnamed, macro_bare, macro_five, macro_taken, macro_full, macro_new}
use Rattle.tables.proofs.table.macro_line.Goals as goal
use Rattle.tables.proofs.table.macro_line.Goals.{
  then-count-gt-MACROS-via-then-count-gt-MACROS,
  then-count-gt-MACROS-via-else-count-gt-MACROS+then-names,
  then-count-gt-MACROS-via-else-count-gt-MACROS+else-names+then-bodies,
}

pub returns-then-count-gt-MACROS : goal.returns-then-count-gt-MACROS
returns-then-count-gt-MACROS c =
    let a = c.args in
    elim c.then-count-gt-MACROS.branch [
      | then-count-gt-MACROS-via-then-count-gt-MACROS w ↦
          let said = macro_many a.line a.source.now a.from a.end a.count a.names.now a.bodies.now w.if-count-gt-MACROS.true in
          record { number = said.0; names = said.1.0; bodies = said.1.1 }
      | then-count-gt-MACROS-via-else-count-gt-MACROS+then-names w ↦
          let said = macro_unnamed a.line a.source.now a.from a.end a.count a.names.now a.bodies.now w.if-count-gt-MACROS.false w.if-names.true in
          record { number = said.0; names = said.1.0; bodies = said.1.1 }
      | then-count-gt-MACROS-via-else-count-gt-MACROS+else-names+then-bodies w ↦
          let said = macro_bare a.line a.source.now a.from a.end a.count a.names.now a.bodies.now w.if-count-gt-MACROS.false w.if-names.false w.if-bodies.true in
          record { number = said.0; names = said.1.0; bodies = said.1.1 }
    ]

pub returns-then-not-two : goal.returns-then-not-two
returns-then-not-two c =
    let a = c.args in
    let said = macro_five a.line a.source.now a.from a.end a.count a.names.now a.bodies.now c.if-count-gt-MACROS.false c.if-names.false c.if-bodies.false c.min-to.result c.min-begin.result c.min-to.ensures c.min-begin.ensures c.name_at-name_from.result c.name_at-name_from.ensures c.if-not-two.true in
    record { number = said.0; names = said.1.0; bodies = said.1.1 }

-- the name stands in the line, and the line in the source
pub slice_bounds-is_taken-count : goal.slice_bounds-is_taken-count
slice_bounds-is_taken-count c =
    (name_places c.args.source.now c.min-begin.result c.min-to.result c.name_at-name_from.result c.name_at-name_from.ensures).0

pub slice_bounds-is_taken-start : goal.slice_bounds-is_taken-start
slice_bounds-is_taken-start c =
    (name_places c.args.source.now c.min-begin.result c.min-to.result c.name_at-name_from.result c.name_at-name_from.ensures).0

pub slice_bounds-is_taken-end : goal.slice_bounds-is_taken-end
slice_bounds-is_taken-end c =
    (name_places c.args.source.now c.min-begin.result c.min-to.result c.name_at-name_from.result c.name_at-name_from.ensures).1

pub returns-then-is_taken : goal.returns-then-is_taken
returns-then-is_taken c =
    let a = c.args in
    let said = macro_taken a.line a.source.now a.from a.end a.count a.names.now a.bodies.now c.if-count-gt-MACROS.false c.if-names.false c.if-bodies.false c.min-to.result c.min-begin.result c.min-to.ensures c.min-begin.ensures c.name_at-name_from.result c.name_at-name_from.ensures c.if-not-two.false (sym c.is_taken.ensures ∙ c.if-is_taken.true) in
    record { number = said.0; names = said.1.0; bodies = said.1.1 }

pub returns-then-count-ge-MACROS : goal.returns-then-count-ge-MACROS
returns-then-count-ge-MACROS c =
    let a = c.args in
    let said = macro_full a.line a.source.now a.from a.end a.count a.names.now a.bodies.now c.if-count-gt-MACROS.false c.if-names.false c.if-bodies.false c.min-to.result c.min-begin.result c.min-to.ensures c.min-begin.ensures c.name_at-name_from.result c.name_at-name_from.ensures c.if-not-two.false (sym c.is_taken.ensures ∙ c.if-is_taken.false) c.if-count-ge-MACROS.true in
    record { number = said.0; names = said.1.0; bodies = said.1.1 }

pub overflow_add-begin : goal.overflow_add-begin
overflow_add-begin c =
    let n = c.name_at-name_from in
    omega (arith, name_places c.args.source.now c.min-begin.result c.min-to.result n.result n.ensures, name_ends c.args.source.now c.min-begin.result c.min-to.result n.result n.ensures)

pub overflow_add-begin-2 : goal.overflow_add-begin-2
overflow_add-begin-2 c =
    let n = c.name_at-name_from in
    omega (arith, name_ends c.args.source.now c.min-begin.result c.min-to.result n.result n.ensures)

pub returns : goal.returns
returns c =
    let a = c.args in
    let said =
    macro_new a.line a.source.now a.from a.end a.count a.names.now a.bodies.now c.if-count-gt-MACROS.false c.if-names.false c.if-bodies.false c.min-to.result c.min-begin.result c.min-to.ensures c.min-begin.ensures c.name_at-name_from.result c.name_at-name_from.ensures c.if-not-two.false (sym c.is_taken.ensures ∙ c.if-is_taken.false) c.if-count-ge-MACROS.false _ _ c.put_entry.ensures c.put_entry-2.ensures in
    record { number = said.0; names = said.1.0; bodies = said.1.1 }
