-- `put` writes six numbers and two behind the lines that stand in the columns. Assumes nothing.
use Rattle.std.proofs.Common.{List, ℕ, ◌+◌, ◌*◌, ◌-◌, drop, ap, ap₂, ◌∙◌, arith, ◌≡◌}
use lib.Ieee.{Float}
use borrow.Rule.Slice.PartMut.{put_mid}
use Rattle.blocks.specs.Blocks.{lines_in}
use Rattle.blocks.proofs.Kept.{one_more, numbers_behind, shape_behind}
use Rattle.blocks.proofs.block.put.Goals as goal

pub returns-clause-lines : goal.returns-clause-lines
returns-clause-lines c =
    let a = c.args in
    let r = c.requires in
    let k : 6 * a.n + 6 - 6 * a.n ≡ 6 = omega arith in
    let j : 2 * a.n + 2 - 2 * a.n ≡ 2 = omega arith in
    ap₂ (λ (xs : List Float) (ys : List ℕ).
    lines_in (a.n + 1) (put_mid (6 * a.n) (6 * a.n + 6 - 6 * a.n) a.numbers.now xs) (put_mid (2 * a.n) (2 * a.n + 2 - 2 * a.n) a.shape.now ys))
    c.copy_from_slice.ensures.after c.copy_from_slice-2.ensures.after
    ∙ one_more a.n a.numbers.now a.shape.now a.read.indent a.read.operator r.few r.wide r.high _ _ k j

pub returns-clause-numbers : goal.returns-clause-numbers
returns-clause-numbers c =
    let a = c.args in
    let r = c.requires in
    let k : 6 * a.n + 6 - 6 * a.n ≡ 6 = omega arith in
    ap (λ (xs : List Float). drop (6 * (a.n + 1)) (put_mid (6 * a.n) (6 * a.n + 6 - 6 * a.n) a.numbers.now xs)) c.copy_from_slice.ensures.after
    ∙ numbers_behind a.n a.numbers.now a.shape.now a.read.indent a.read.operator r.few r.wide r.high _ k

pub returns-clause-shape : goal.returns-clause-shape
returns-clause-shape c =
    let a = c.args in
    let r = c.requires in
    let j : 2 * a.n + 2 - 2 * a.n ≡ 2 = omega arith in
    ap (λ (ys : List ℕ). drop (2 * (a.n + 1)) (put_mid (2 * a.n) (2 * a.n + 2 - 2 * a.n) a.shape.now ys)) c.copy_from_slice-2.ensures.after
    ∙ shape_behind a.n a.numbers.now a.shape.now a.read.indent a.read.operator r.few r.wide r.high _ j
