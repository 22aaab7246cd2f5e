-- `played` lends the tables as far as they are filled. Assumes nothing.
use mathlib.Core.Path.{sym}
use Prim.Native.Nat.{◌+◌, ◌*◌, ◌≤◌}
use native.Mathlib.Omega.{arith}
use lib.Seq.{length-take-le}
use lib.ListN.{length}
use Rattle.parser.proofs.PartReads.{few_as, body_as}
use Rattle.parser.proofs.parts.played.Goals as goal

pub overflow_mul-m : goal.overflow_mul-m
overflow_mul-m c = omega (arith, c.requires.tables.0)

pub overflow_mul-n : goal.overflow_mul-n
overflow_mul-n c = omega (arith, c.requires.tables.1.0)

pub overflow_add-i : goal.overflow_add-i
overflow_add-i c = omega (arith, c.requires.tables.1.0)

pub overflow_add-m : goal.overflow_add-m
overflow_add-m c = omega (arith, c.requires.tables.0)

pub slice_bounds-body_at-start : goal.slice_bounds-body_at-start
slice_bounds-body_at-start c = let z : 2048 ≤ 2048 + 2 * c.args.macros = omega arith in z

pub slice_bounds-body_at-end : goal.slice_bounds-body_at-end
slice_bounds-body_at-end c =
    let z : 2048 + 2 * c.args.macros ≤ length c.args.shape.now = omega (arith, c.requires.tables.0, c.requires.tables.1.1.1.1) in z

pub slice_bounds-body_at-end-2 : goal.slice_bounds-body_at-end-2
slice_bounds-body_at-end-2 c = sym (length-take-le _ _ (omega (arith, c.requires.tables.0, c.requires.tables.1.1.0)))

pub overflow_add-n : goal.overflow_add-n
overflow_add-n c = omega (arith, c.requires.tables.1.0)

pub slice_bounds-body_at-start-2 : goal.slice_bounds-body_at-start-2
slice_bounds-body_at-start-2 c = let z : 2176 ≤ 2176 + 2 * c.args.instruments = omega arith in z

pub slice_bounds-body_at-end-3 : goal.slice_bounds-body_at-end-3
slice_bounds-body_at-end-3 c =
    let z : 2176 + 2 * c.args.instruments ≤ length c.args.shape.now = omega (arith, c.requires.tables.1.0, c.requires.tables.1.1.1.1) in z

pub overflow_add-i-2 : goal.overflow_add-i-2
overflow_add-i-2 c = omega (arith, c.requires.tables.1.0)

pub slice_bounds-body_at-start-3 : goal.slice_bounds-body_at-start-3
slice_bounds-body_at-start-3 c = let z : 6144 ≤ 6144 + (c.args.instruments + 1) = omega arith in z

pub slice_bounds-body_at-end-4 : goal.slice_bounds-body_at-end-4
slice_bounds-body_at-end-4 c =
    let z : 6144 + (c.args.instruments + 1) ≤ length c.args.numbers.now = omega (arith, c.requires.tables.1.0, c.requires.tables.1.1.1.0) in z

pub body_at-requires : goal.body_at-requires
body_at-requires c =
    let p = c.requires.columns in
    (p.0, (p.1.0, (p.1.1.0, (p.1.1.1.0, (few_as c.args.numbers.now (c.args.instruments + 1) c.requires.tables.1.0, p.1.1.1.1)))))

pub shape_of-floats : goal.shape_of-floats
shape_of-floats c = c.body_at.auto.floats

pub shape_of-bytes : goal.shape_of-bytes
shape_of-bytes c = c.body_at.auto.bytes

pub shape_of-loops : goal.shape_of-loops
shape_of-loops c = c.body_at.auto.loops

pub returns : goal.returns
returns c =
    let a = c.args in
    let l = c.body_at.new.floats in record {
      body = body_as a.rate a.source.now a.bodies.now a.numbers.now a.shape.now a.macros a.instruments c.requires.tables.0 c.requires.tables.1.0 a.line a.text.now a.k a.st c.body_at.result
          a.floats.now a.bytes.now a.loops.now c.body_at.new.floats c.body_at.new.bytes c.body_at.new.loops c.body_at.ensures.body;
      places = c.body_at.ensures.places;
    }
