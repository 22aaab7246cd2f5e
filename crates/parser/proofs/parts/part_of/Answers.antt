-- `part_of` meets its contract: one law for each of its ways out. Assumes nothing.
use native.Mathlib.Omega.{arith}
use borrow.Author.Tests.{not-true, not-false}
use Rattle.tables.proofs.MacroLines.{name_places, name_ends}
use Rattle.parser.proofs.Parting.{parted_other, parted_bare, parted_named}
use Rattle.parser.proofs.parts.part_of.Goals as goal

pub returns-then-not-is_part : goal.returns-then-not-is_part
returns-then-not-is_part c =
    let a = c.args in
    parted_other a.source.now a.at a.end a.parts a.loops.now (c.is_part.ensures.1 c.if-not-is_part.true)

pub returns-then-not-name : goal.returns-then-not-name
returns-then-not-name c =
    let a = c.args in
    parted_bare a.source.now a.at a.end a.parts a.loops.now c.name_at-name.result c.name_at-name.ensures (not-true _ c.if-not-name.true)

pub slice_bounds-place_of-count : goal.slice_bounds-place_of-count
slice_bounds-place_of-count c =
    let a = c.args in
    (name_places a.source.now a.at a.end _ c.name_at-name.ensures).0

pub slice_bounds-place_of-start : goal.slice_bounds-place_of-start
slice_bounds-place_of-start c =
    let a = c.args in
    (name_places a.source.now a.at a.end _ c.name_at-name.ensures).0

pub slice_bounds-place_of-end : goal.slice_bounds-place_of-end
slice_bounds-place_of-end c =
    let a = c.args in
    (name_places a.source.now a.at a.end _ c.name_at-name.ensures).1

pub overflow_add-result : goal.overflow_add-result
overflow_add-result c =
    let a = c.args in
    let i = (name_places a.source.now a.at a.end _ c.name_at-name.ensures).0 in
    let j = name_ends a.source.now a.at a.end _ c.name_at-name.ensures c.requires.0 in
    omega (arith, i, j)

pub overflow_add-result-2 : goal.overflow_add-result-2
overflow_add-result-2 c =
    let a = c.args in
    let i = (name_places a.source.now a.at a.end _ c.name_at-name.ensures).0 in
    let j = name_ends a.source.now a.at a.end _ c.name_at-name.ensures c.requires.0 in
    omega (arith, i, j)

pub returns : goal.returns
returns c =
    let n = c.name_at-name in
    let a = c.args in
    parted_named a.source.now a.at a.end a.parts a.loops.now n.result n.ensures (c.is_part.ensures.0 c.if-not-is_part.false) (not-false _ c.if-not-name.false) c.place_of.result c.place_of.ensures
