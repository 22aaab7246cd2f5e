-- `write_blocks` keeps: so many samples are written. A block of samples that all exist continues them (`Blocks`). Assumes nothing.
use Rattle.std.proofs.Common.{◌≡◌, ℕ, ◌+◌, ◌≤◌, ◌++◌, length, take, drop, T, refl, sym, ap, subst, ◌∙◌, arith}
use lib.Seq.{length-take-le, take_at}
use lib.Ieee.{binary32, fits}
use Rattle.form.specs.Sample.{bytes_of}
use Rattle.wave.specs.File.{put}
use Rattle.sheet.specs.declared.note.Note.{Note}
use Rattle.sheet.specs.contracts.note.Note.{the_row}
use Rattle.handed.proofs.Passing.{passing}
use Rattle.evaluator.specs.Samples.{samples_from}
use Rattle.mixing.specs.Placing.{placed}
use Rattle.mixing.proofs.Walk.{mix_all_length}
use Rattle.evaluator.proofs.Owned.{each_own_tells}
use Rattle.evaluator.proofs.Rendered.{Fitting}
use Rattle.windows.proofs.Windows.{blocks_none}
use Rattle.windows.proofs.Blocks.{wrote_more, wrote_length, front_kept}
use Rattle.windows.proofs.window.write_blocks.Goals as goal

pub loop-done-init : goal.loop-done-init
loop-done-init c = (omega arith, refl, refl, record { bytes = sym (blocks_none _ _ _ _) })

pub overflow_add-start : goal.overflow_add-start
overflow_add-start c = omega (arith, c.requires.1.0, (passing c.args.rate c.args.sheet c.requires.0).length)

pub overflow_mul-done : goal.overflow_mul-done
overflow_mul-done c = omega (arith, c.requires.1.0, (passing c.args.rate c.args.sheet c.requires.0).length)

pub slice_bounds-write_samples-end : goal.slice_bounds-write_samples-end
slice_bounds-write_samples-end c =
    let a = c.args in
    let l = c.loop-done in
    let k = c.min-k.result in
    let kept : length (c.mix.new.out ++ drop k l.block) ≡ 16384 =
    front_kept k l.block c.mix.new.out (ap length c.mix.ensures ∙ mix_all_length 0 (placed a.rate a.sheet) (a.start + l.done) (take k l.block)) ∙ l.invariant.1 in
    let within : k ≤ length (c.mix.new.out ++ drop k l.block) = subst (λ (n : ℕ). k ≤ n) (sym kept) (omega (arith, c.min-k.ensures)) in
    sym (length-take-le k (c.mix.new.out ++ drop k l.block) within)

pub overflow_add-done : goal.overflow_add-done
overflow_add-done c = omega (arith, c.requires.1.0, (passing c.args.rate c.args.sheet c.requires.0).length)

pub loop-done-preserved : goal.loop-done-preserved
loop-done-preserved c =
    let a = c.args in
    let l = c.loop-done in
    let k = c.min-k.result in
    let m = c.mix in
    let more : l.done + k ≤ a.n = omega arith in
    let part : length (take k l.block) ≡ k = length-take-le k l.block (omega arith) in
    let long = ap length m.ensures ∙ mix_all_length 0 (placed a.rate a.sheet) (a.start + l.done) (take k l.block) in
    let made = take_at m.new.out (drop k l.block) k (long ∙ part) ∙ m.ensures in
    let fitting : Fitting a.sheet =
    each_own_tells the_row.own_val (λ (n : Note). T (fits binary32 n.duration)) (λ (n : Note) u h. subst T (sym h.1.1.1.1.0.1) tt) a.sheet.notes _
    c.well_formed.0.1.1.1.1.0.1.1 in
    let g = wrote_more a.rate a.sheet c.well_formed.1.1.1.0.1 c.requires.0 fitting a.start a.at a.n a.buffer.now c.requires.1.0 c.requires.1.1 l.done k l.buffer _
    (take k l.block) _ l.invariant.3 part more made c.write_samples.ensures.bytes in (
      more,
      front_kept k l.block m.new.out long ∙ l.invariant.1,
      wrote_length a.rate a.sheet c.well_formed.1.1.1.0.1 c.requires.0 fitting a.start a.at a.n a.buffer.now c.requires.1.0 c.requires.1.1 _ _ g more,
      g,
    )

pub shape_of-buffer : goal.shape_of-buffer
shape_of-buffer c = c.loop-done.invariant.2

pub returns : goal.returns
returns c =
    let a = c.args in
    let l = c.loop-done in
    let e : l.done ≡ a.n = omega arith in
    l.invariant.3.bytes ∙ ap (λ (k : ℕ). put a.buffer.now a.at (bytes_of (samples_from (placed a.rate a.sheet) a.start k))) e
