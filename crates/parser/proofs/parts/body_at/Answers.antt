-- `body_at` lends the part's regions to `read_part`. Assumes nothing.
use Prim.Native.Nat.{◌+◌, ◌*◌, ◌≤◌}
use native.Mathlib.Omega.{arith}
use lib.ListN.{length}
use Rattle.part.specs.Columns.{book_in}
use Rattle.parser.proofs.Pieces.{back_long}
use Rattle.parser.proofs.Playing.{body_came, body_places}
use Rattle.parser.proofs.parts.body_at.Goals as goal

pub overflow_mul-a : goal.overflow_mul-a
overflow_mul-a c = omega (arith, c.requires.0)

pub overflow_mul-b : goal.overflow_mul-b
overflow_mul-b c = omega (arith, c.requires.0)

pub overflow_mul-d : goal.overflow_mul-d
overflow_mul-d c = omega (arith, c.requires.0)

pub overflow_add-a : goal.overflow_add-a
overflow_add-a c = omega (arith, c.requires.0)

pub offset_bounds-floats-a : goal.offset_bounds-floats-a
offset_bounds-floats-a c = omega (arith, c.requires.0)

pub slice_bounds-read_part-start : goal.slice_bounds-read_part-start
slice_bounds-read_part-start c = let z : 6144 * c.args.k ≤ 6144 * c.args.k + 6144 = omega arith in z

pub slice_bounds-read_part-end : goal.slice_bounds-read_part-end
slice_bounds-read_part-end c =
    let z : 6144 * c.args.k + 6144 ≤ length c.args.floats.now = omega (arith, c.requires.0, c.requires.1.0) in z

pub overflow_add-b : goal.overflow_add-b
overflow_add-b c = omega (arith, c.requires.0)

pub slice_bounds-read_part-start-2 : goal.slice_bounds-read_part-start-2
slice_bounds-read_part-start-2 c = let z : 2048 * c.args.k ≤ 2048 * c.args.k + 2048 = omega arith in z

pub slice_bounds-read_part-end-2 : goal.slice_bounds-read_part-end-2
slice_bounds-read_part-end-2 c =
    let z : 2048 * c.args.k + 2048 ≤ length c.args.bytes.now = omega (arith, c.requires.0, c.requires.1.1.0) in z

pub overflow_add-d : goal.overflow_add-d
overflow_add-d c = omega (arith, c.requires.0)

pub offset_bounds-loops-d : goal.offset_bounds-loops-d
offset_bounds-loops-d c = omega (arith, c.requires.0)

pub slice_bounds-read_part-start-3 : goal.slice_bounds-read_part-start-3
slice_bounds-read_part-start-3 c = let z : 16 * c.args.k ≤ 16 * c.args.k + 16 = omega arith in z

pub slice_bounds-read_part-end-3 : goal.slice_bounds-read_part-end-3
slice_bounds-read_part-end-3 c =
    let z : 16 * c.args.k + 16 ≤ length c.args.loops.now = omega (arith, c.requires.0, c.requires.1.1.1.0) in z

pub shape_of-floats : goal.shape_of-floats
shape_of-floats c =
    let e = c.read_part in
    back_long 6144 c.args.k c.args.floats.now e.new.floats (omega (arith, c.requires.0, c.requires.1.0)) e.auto.floats

pub shape_of-bytes : goal.shape_of-bytes
shape_of-bytes c =
    let e = c.read_part in
    back_long 2048 c.args.k c.args.bytes.now e.new.instruments (omega (arith, c.requires.0, c.requires.1.1.0)) e.auto.instruments

pub shape_of-loops : goal.shape_of-loops
shape_of-loops c =
    let e = c.read_part in
    back_long 16 c.args.k c.args.loops.now e.new.loops (omega (arith, c.requires.0, c.requires.1.1.1.0)) e.auto.loops

pub returns : goal.returns
returns c =
    let a = c.args in
    let p = c.requires in
    let l = c.read_part.new.floats in
    let k = c.read_part.auto.floats in
    let h = c.read_part.ensures in record {
      body = body_came (book_in a.rate a.source.now a.macros.now a.bodies.now a.names.now a.releases.now) a.line a.text.now a.st c.read_part.result
          a.k a.floats.now a.bytes.now a.loops.now c.read_part.new.floats c.read_part.new.instruments c.read_part.new.loops
          p.0 p.1.0 p.1.1.0 p.1.1.1.0 p.1.1.1.1.0 p.1.1.1.1.1 c.read_part.auto.floats c.read_part.auto.instruments c.read_part.auto.loops
          (h.state, (h.columns, h.ready));
      places = body_places a.k a.loops.now c.read_part.new.loops p.0 p.1.1.1.0 c.read_part.auto.loops;
    }
