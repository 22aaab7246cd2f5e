-- `line_step` is the step of the line's kind. Assumes nothing.
use mathlib.Core.Path.{refl, ap, ◌∙◌}
use Rattle.lines.specs.Names.{between}
use Rattle.lines.specs.Tokens.{name_at}
use Rattle.meaning.specs.Sheets.{kind_of}
use Rattle.parser.specs.Columns.{place_column, tables_in}
use Rattle.parser.proofs.Going.{lined, line_small}
use Rattle.parser.proofs.LineKinds.{kind_none, kind_here, kind_empty, kind_comment, kind_header, kind_directive, kind_macro, kind_part, skipped_steps, header_stepped, directive_stepped, macro_stepped, part_stepped}
use Rattle.parser.proofs.PartWays.{way_bare}
use native.Mathlib.Omega.{arith}
use Rattle.parser.proofs.walk.line_step.Goals as goal

pub passed-requires : goal.passed-requires
passed-requires c = line_small _ _ _ _ c.requires.line.0

pub returns-then-at-end : goal.returns-then-at-end
returns-then-at-end c =
    let a = c.args in
    let p = c.requires.line in
    λ rate fs is ls f.
    skipped_steps a.mode rate a.source.now (place_column ls) a.r fs is ls (tables_in a.bodies.now a.numbers.now a.shape.now) a.end a.next p.0 f p.1 c.passed.result c.passed.ensures
    (kind_none a.source.now a.r.at a.end a.next (lined _ _ _ _ p.0) _ c.if-at-end.true (λ t n. kind_empty t n))

pub passed-requires-in-59 : goal.passed-requires-in-59
passed-requires-in-59 c = line_small _ _ _ _ c.requires.line.0

pub returns-in-59 : goal.returns-in-59
returns-in-59 c =
    let a = c.args in
    let p = c.requires.line in
    λ rate fs is ls f.
    skipped_steps a.mode rate a.source.now (place_column ls) a.r fs is ls (tables_in a.bodies.now a.numbers.now a.shape.now) a.end a.next p.0 f p.1 c.passed-in-59.result c.passed-in-59.ensures
    (kind_here a.source.now a.r.at a.end a.next (lined _ _ _ _ p.0) _ c.if-at-end.false (λ t n e. kind_comment t n (e ∙ c.in-59.is)))

pub header_step-requires : goal.header_step-requires
header_step-requires c =
    let p = c.requires.line in
    let g = p.1 in
    (p.0, (g.instruments_few, (g.numbers_length, g.shape_length)))

pub shape_of-shape-in-64 : goal.shape_of-shape-in-64
shape_of-shape-in-64 c = c.header_step.auto.shape

pub returns-in-64 : goal.returns-in-64
returns-in-64 c =
    let h = c.header_step in
    let a = c.args in
    let p = c.requires.line in
    λ rate fs is ls f.
    header_stepped a.mode rate a.source.now (place_column ls) a.r fs is ls (tables_in a.bodies.now a.numbers.now a.shape.now) a.next (place_column ls) h.result fs is ls (tables_in a.bodies.now h.new.numbers h.new.shape)
    (kind_here a.source.now a.r.at a.end a.next (lined _ _ _ _ p.0) _ c.if-at-end.false (λ t n e. kind_header t n (e ∙ c.in-64.is)))
    (h.ensures (place_column ls) fs is ls a.bodies.now f p.1)

pub directive_step-requires : goal.directive_step-requires
directive_step-requires c = c.requires.line.0

pub returns-in-35 : goal.returns-in-35
returns-in-35 c =
    let h = c.directive_step in
    let a = c.args in
    let p = c.requires.line in
    λ rate fs is ls f.
    directive_stepped a.mode rate a.source.now (place_column ls) a.r fs is ls (tables_in a.bodies.now a.numbers.now a.shape.now) a.next (place_column ls) h.result fs is ls (tables_in a.bodies.now a.numbers.now a.shape.now)
    (kind_here a.source.now a.r.at a.end a.next (lined _ _ _ _ p.0) _ c.if-at-end.false (λ t n e. kind_directive t n (e ∙ c.in-35.is)))
    (h.ensures (place_column ls) fs is ls (tables_in a.bodies.now a.numbers.now a.shape.now) f p.1)

pub macro_step-requires : goal.macro_step-requires
macro_step-requires c =
    let p = c.requires.line in
    (p.0, (p.1.macros_few, p.1.shape_length))

pub shape_of-shape-in-33 : goal.shape_of-shape-in-33
shape_of-shape-in-33 c = c.macro_step.auto.shape

pub returns-in-33 : goal.returns-in-33
returns-in-33 c =
    let h = c.macro_step in
    let a = c.args in
    let p = c.requires.line in
    λ rate fs is ls f.
    macro_stepped a.mode rate a.source.now (place_column ls) a.r fs is ls (tables_in a.bodies.now a.numbers.now a.shape.now) a.next (place_column ls) h.result fs is ls (tables_in h.new.bodies a.numbers.now h.new.shape)
    (kind_here a.source.now a.r.at a.end a.next (lined _ _ _ _ p.0) _ c.if-at-end.false (λ t n e. kind_macro t n (e ∙ c.in-33.is)))
    (h.ensures (place_column ls) fs is ls a.numbers.now f p.1)

pub passed-requires-in_default : goal.passed-requires-in_default
passed-requires-in_default c = line_small _ _ _ _ c.requires.line.0

pub returns-in_default : goal.returns-in_default
returns-in_default c =
    let a = c.args in
    let p = c.requires.line in
    let kind = kind_here a.source.now a.r.at a.end a.next (lined _ _ _ _ p.0) _ c.if-at-end.false (λ t n e. kind_part t n (λ z. omega (arith, e, z)) (λ z. omega (arith, e, z)) (λ z. omega (arith, e, z)) (λ z. omega (arith, e, z))) in
    λ rate fs is ls f.
    part_stepped a.mode rate a.source.now (place_column ls) a.r fs is ls (tables_in a.bodies.now a.numbers.now a.shape.now) a.next (place_column ls) c.passed-in_default.result fs is ls (tables_in a.bodies.now a.numbers.now a.shape.now) kind
    (way_bare rate a.source.now a.bodies.now a.numbers.now a.shape.now a.r fs is ls a.end a.next p.0 f p.1
    (name_at (between a.source.now a.r.at a.end)) refl (c.requires.bare (ap kind_of (lined _ _ _ _ p.0).line ∙ kind)) c.passed-in_default.result c.passed-in_default.ensures)
