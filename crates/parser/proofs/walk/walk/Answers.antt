-- `walk` reads a run of parts' lines and then a line that names no part; what is left gives the same end throughout. Assumes nothing.
use mathlib.Core.Path.{sym, ◌∙◌}
use Prim.Native.Nat.{ℕ, ◌-◌, ◌≤◌, ◌<◌}
use native.Mathlib.Omega.{arith}
use Rattle.parser.specs.Columns.{place_column, tables_in}
use Rattle.parser.proofs.Beginning.{walking_begun}
use Rattle.parser.proofs.Walking.{walking_begins, walking_end, walking_refused, walking_more, walking_own, run_on, run_ended, bare_as}
use Rattle.parser.proofs.walk.walk.Goals as goal

-- what is left of the source falls
falls : (at q next long : ℕ) → at ≤ q → q < next → next ≤ long → long - next < long - at
falls at q next long h m n = omega (arith, h, m, n)

pub default_instrument-requires : goal.default_instrument-requires
default_instrument-requires c =
    let p = c.requires in
    (p.1.1.0, p.1.1.1.0)

pub loop-r-init : goal.loop-r-init
loop-r-init c =
    let d = c.default_instrument in
    let a = c.args in
    let p = c.requires in
    walking_begun a.source.now a.floats.now a.bytes.now a.loops.now a.bodies.now d.new.numbers d.new.shape d.ensures.lines a.mode a.rate c.nothing_sofar-r.result c.nothing_sofar-r.ensures
    p.1.1.1.1.0 p.1.1.1.1.1.0 p.1.1.1.1.1.1 p.1.0 (d.auto.numbers ∙ p.1.1.0) (d.auto.shape ∙ p.1.1.1.0) d.ensures.releases

pub part_lines-r-requires : goal.part_lines-r-requires
part_lines-r-requires c = (c.requires.0, walking_own _ _ _ _ _ _ _ _ _ _ c.loop-r.invariant)

pub shape_of-bodies-then-r-ne0 : goal.shape_of-bodies-then-r-ne0
shape_of-bodies-then-r-ne0 c = c.loop-r.invariant.tabled.bodies_length ∙ sym c.requires.1.0

pub shape_of-numbers-then-r-ne0 : goal.shape_of-numbers-then-r-ne0
shape_of-numbers-then-r-ne0 c = c.loop-r.invariant.tabled.numbers_length ∙ sym c.requires.1.1.0

pub shape_of-shape-then-r-ne0 : goal.shape_of-shape-then-r-ne0
shape_of-shape-then-r-ne0 c = c.loop-r.invariant.tabled.shape_length ∙ sym c.requires.1.1.1.0

pub shape_of-floats-then-r-ne0 : goal.shape_of-floats-then-r-ne0
shape_of-floats-then-r-ne0 c = c.part_lines-r.auto.floats ∙ c.loop-r.invariant.fits.floats_length ∙ sym c.requires.1.1.1.1.0

pub shape_of-bytes-then-r-ne0 : goal.shape_of-bytes-then-r-ne0
shape_of-bytes-then-r-ne0 c = c.part_lines-r.auto.bytes ∙ c.loop-r.invariant.fits.bytes_length ∙ sym c.requires.1.1.1.1.1.0

pub shape_of-loops-then-r-ne0 : goal.shape_of-loops-then-r-ne0
shape_of-loops-then-r-ne0 c = c.part_lines-r.auto.loops ∙ c.loop-r.invariant.fits.loops_length ∙ sym c.requires.1.1.1.1.1.1

pub returns-then-r-ne0 : goal.returns-then-r-ne0
returns-then-r-ne0 c =
    let l = c.loop-r in
    let a = c.args in
    let y = c.part_lines-r in
    record { means = run_ended a.mode a.rate a.source.now (place_column l.loops) l.r l.floats l.bytes l.loops (tables_in l.bodies l.numbers l.shape) _ l.invariant y.result y.new.floats y.new.bytes y.new.loops (tables_in l.bodies l.numbers l.shape) (y.ensures a.mode) c.if-r-ne0.true; fits = λ z. absurd (c.if-r-ne0.true z) }

pub shape_of-bodies-then-at-source : goal.shape_of-bodies-then-at-source
shape_of-bodies-then-at-source c = c.loop-r.invariant.tabled.bodies_length ∙ sym c.requires.1.0

pub shape_of-numbers-then-at-source : goal.shape_of-numbers-then-at-source
shape_of-numbers-then-at-source c = c.loop-r.invariant.tabled.numbers_length ∙ sym c.requires.1.1.0

pub shape_of-shape-then-at-source : goal.shape_of-shape-then-at-source
shape_of-shape-then-at-source c = c.loop-r.invariant.tabled.shape_length ∙ sym c.requires.1.1.1.0

pub shape_of-floats-then-at-source : goal.shape_of-floats-then-at-source
shape_of-floats-then-at-source c = c.part_lines-r.auto.floats ∙ c.loop-r.invariant.fits.floats_length ∙ sym c.requires.1.1.1.1.0

pub shape_of-bytes-then-at-source : goal.shape_of-bytes-then-at-source
shape_of-bytes-then-at-source c = c.part_lines-r.auto.bytes ∙ c.loop-r.invariant.fits.bytes_length ∙ sym c.requires.1.1.1.1.1.0

pub shape_of-loops-then-at-source : goal.shape_of-loops-then-at-source
shape_of-loops-then-at-source c = c.part_lines-r.auto.loops ∙ c.loop-r.invariant.fits.loops_length ∙ sym c.requires.1.1.1.1.1.1

pub returns-then-at-source : goal.returns-then-at-source
returns-then-at-source c =
    let l = c.loop-r in
    let a = c.args in
    let y = c.part_lines-r in
    let w = run_on a.mode a.rate a.source.now (place_column l.loops) l.r l.floats l.bytes l.loops (tables_in l.bodies l.numbers l.shape) _ l.invariant y.result y.new.floats y.new.bytes y.new.loops (tables_in l.bodies l.numbers l.shape) (y.ensures a.mode) c.if-r-ne0.false in
    record { means = walking_end a.mode a.rate a.source.now (place_column y.new.loops) y.result y.new.floats y.new.bytes y.new.loops (tables_in l.bodies l.numbers l.shape) _ w c.if-at-source.true; fits = λ z. (w.fits, w.tabled) }

pub line_step-r-requires : goal.line_step-r-requires
line_step-r-requires c =
    let l = c.loop-r in
    let a = c.args in
    let y = c.part_lines-r in
    let w = run_on a.mode a.rate a.source.now (place_column l.loops) l.r l.floats l.bytes l.loops (tables_in l.bodies l.numbers l.shape) _ l.invariant y.result y.new.floats y.new.bytes y.new.loops (tables_in l.bodies l.numbers l.shape) (y.ensures a.mode) c.if-r-ne0.false in
    let b = walking_begins a.mode a.rate a.source.now (place_column y.new.loops) y.result y.new.floats y.new.bytes y.new.loops (tables_in l.bodies l.numbers l.shape) _ w _ c.line_at-line.ensures c.if-at-source.false c.requires.0 in
    record { line = (b, w.tabled); bare = bare_as _ _ _ c.line_at-line.ensures ((y.ensures a.mode).bare c.if-r-ne0.false c.if-at-source.false) }

pub shape_of-bodies-then-r-ne0-2 : goal.shape_of-bodies-then-r-ne0-2
shape_of-bodies-then-r-ne0-2 c = c.line_step-r.auto.bodies ∙ c.loop-r.invariant.tabled.bodies_length ∙ sym c.requires.1.0

pub shape_of-numbers-then-r-ne0-2 : goal.shape_of-numbers-then-r-ne0-2
shape_of-numbers-then-r-ne0-2 c = c.line_step-r.auto.numbers ∙ c.loop-r.invariant.tabled.numbers_length ∙ sym c.requires.1.1.0

pub shape_of-shape-then-r-ne0-2 : goal.shape_of-shape-then-r-ne0-2
shape_of-shape-then-r-ne0-2 c = c.line_step-r.auto.shape ∙ c.loop-r.invariant.tabled.shape_length ∙ sym c.requires.1.1.1.0

pub shape_of-floats-then-r-ne0-2 : goal.shape_of-floats-then-r-ne0-2
shape_of-floats-then-r-ne0-2 c = c.part_lines-r.auto.floats ∙ c.loop-r.invariant.fits.floats_length ∙ sym c.requires.1.1.1.1.0

pub shape_of-bytes-then-r-ne0-2 : goal.shape_of-bytes-then-r-ne0-2
shape_of-bytes-then-r-ne0-2 c = c.part_lines-r.auto.bytes ∙ c.loop-r.invariant.fits.bytes_length ∙ sym c.requires.1.1.1.1.1.0

pub shape_of-loops-then-r-ne0-2 : goal.shape_of-loops-then-r-ne0-2
shape_of-loops-then-r-ne0-2 c = c.part_lines-r.auto.loops ∙ c.loop-r.invariant.fits.loops_length ∙ sym c.requires.1.1.1.1.1.1

pub returns-then-r-ne0-2 : goal.returns-then-r-ne0-2
returns-then-r-ne0-2 c =
    let l = c.loop-r in
    let a = c.args in
    let y = c.part_lines-r in
    let w = run_on a.mode a.rate a.source.now (place_column l.loops) l.r l.floats l.bytes l.loops (tables_in l.bodies l.numbers l.shape) _ l.invariant y.result y.new.floats y.new.bytes y.new.loops (tables_in l.bodies l.numbers l.shape) (y.ensures a.mode) c.if-r-ne0.false in
    let b = walking_begins a.mode a.rate a.source.now (place_column y.new.loops) y.result y.new.floats y.new.bytes y.new.loops (tables_in l.bodies l.numbers l.shape) _ w _ c.line_at-line.ensures c.if-at-source.false c.requires.0 in
    let g = c.line_step-r.ensures a.rate y.new.floats y.new.bytes y.new.loops w.fits in
    record { means = walking_refused a.mode a.rate a.source.now (place_column y.new.loops) y.result y.new.floats y.new.bytes y.new.loops (tables_in l.bodies l.numbers l.shape) _ w _ _ b _ _ _ _ _ _ g c.if-r-ne0-2.true; fits = λ z. absurd (c.if-r-ne0-2.true z) }

pub loop-r-smaller : goal.loop-r-smaller
loop-r-smaller c =
    let l = c.loop-r in
    let a = c.args in
    let y = c.part_lines-r in
    let w = run_on a.mode a.rate a.source.now (place_column l.loops) l.r l.floats l.bytes l.loops (tables_in l.bodies l.numbers l.shape) _ l.invariant y.result y.new.floats y.new.bytes y.new.loops (tables_in l.bodies l.numbers l.shape) (y.ensures a.mode) c.if-r-ne0.false in
    let b = walking_begins a.mode a.rate a.source.now (place_column y.new.loops) y.result y.new.floats y.new.bytes y.new.loops (tables_in l.bodies l.numbers l.shape) _ w _ c.line_at-line.ensures c.if-at-source.false c.requires.0 in
    let g = c.line_step-r.ensures a.rate y.new.floats y.new.bytes y.new.loops w.fits in
    let o = g.onward c.if-r-ne0-2.false in
    falls _ _ _ _ ((y.ensures a.mode).onward c.if-r-ne0.false) o.0 o.1

pub loop-r-preserved : goal.loop-r-preserved
loop-r-preserved c =
    let l = c.loop-r in
    let a = c.args in
    let y = c.part_lines-r in
    let w = run_on a.mode a.rate a.source.now (place_column l.loops) l.r l.floats l.bytes l.loops (tables_in l.bodies l.numbers l.shape) _ l.invariant y.result y.new.floats y.new.bytes y.new.loops (tables_in l.bodies l.numbers l.shape) (y.ensures a.mode) c.if-r-ne0.false in
    let b = walking_begins a.mode a.rate a.source.now (place_column y.new.loops) y.result y.new.floats y.new.bytes y.new.loops (tables_in l.bodies l.numbers l.shape) _ w _ c.line_at-line.ensures c.if-at-source.false c.requires.0 in
    let g = c.line_step-r.ensures a.rate y.new.floats y.new.bytes y.new.loops w.fits in
    walking_more a.mode a.rate a.source.now (place_column y.new.loops) y.result y.new.floats y.new.bytes y.new.loops (tables_in l.bodies l.numbers l.shape) _ w _ _ b _ _ _ _ _ _ g c.if-r-ne0-2.false

pub shape_of-bodies : goal.shape_of-bodies
shape_of-bodies c = c.loop-r.invariant.tabled.bodies_length ∙ sym c.requires.1.0

pub shape_of-numbers : goal.shape_of-numbers
shape_of-numbers c = c.loop-r.invariant.tabled.numbers_length ∙ sym c.requires.1.1.0

pub shape_of-shape : goal.shape_of-shape
shape_of-shape c = c.loop-r.invariant.tabled.shape_length ∙ sym c.requires.1.1.1.0

pub shape_of-floats : goal.shape_of-floats
shape_of-floats c = c.loop-r.invariant.fits.floats_length ∙ sym c.requires.1.1.1.1.0

pub shape_of-bytes : goal.shape_of-bytes
shape_of-bytes c = c.loop-r.invariant.fits.bytes_length ∙ sym c.requires.1.1.1.1.1.0

pub shape_of-loops : goal.shape_of-loops
shape_of-loops c = c.loop-r.invariant.fits.loops_length ∙ sym c.requires.1.1.1.1.1.1

pub returns : goal.returns
returns c =
    let i = c.loop-r.invariant in
    record { means = walking_end _ _ _ _ _ _ _ _ _ _ i c.loop-r-test.false; fits = λ z. (i.fits, i.tabled) }
