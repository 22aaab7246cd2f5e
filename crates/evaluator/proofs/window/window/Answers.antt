-- `window` asks 28 and 29 in their order; then what mixing leaves is the window, by the front law. That each duration is an f32 is told by owning the
-- sheet. Assumes nothing.
use mathlib.Core.Path.{sym, ap, ap₂, subst, ◌∙◌}
use Prim.Native.Nat.{ℕ, ◌-◌, ◌≤◌, ◌<◌, min}
use native.Mathlib.Omega.{arith}
use Rattle.std.proofs.lemmas.Result.{err_from_is_err_and}
use lib.Dec.{T}
use lib.ListN.{length}
use lib.Ieee.{binary32, fits}
use Rattle.sheet.specs.declared.note.Note.{Note}
use Rattle.sheet.specs.Parts.{length_of}
use Rattle.sheet.specs.Refusals.{going}
use Rattle.handed.proofs.Answers.{check_refused, check_passed}
use Rattle.mixing.specs.Placing.{placed}
use Rattle.evaluator.proofs.Owned.{each_own_tells}
use Rattle.sheet.specs.contracts.note.Note.{the_row}
use Rattle.evaluator.proofs.Rendered.{Fitting, mixed_is}
use Rattle.evaluator.proofs.Windows.{window_28, window_29, window_taken, window_refused, window_is, windowed_length}
use Rattle.evaluator.proofs.window.window.Goals as goal

pub returns-in_err-samples : goal.returns-in_err-samples
returns-in_err-samples c =
    let a = c.args in
    let p = err_from_is_err_and c.from_residual.result c.from_residual.ensures.1 in
    let why = check_refused a.rate a.sheet _ c.in_err-samples.ensures in
    let w = window_28 a.rate a.sheet a.start (length a.out.now) why.1 in
    record { answer = rw (p.1, p.2, why.0) (sym w); values = sym (window_refused a.rate a.sheet a.start 28 0 a.out.now w) }

pub returns-then-start-samples : goal.returns-then-start-samples
returns-then-start-samples c =
    let a = c.args in
    let passed = check_passed a.rate a.sheet _ c.in_ok-samples.ensures in
    let l : length_of a.rate a.sheet < a.start = omega (arith, passed.1, c.if-start-samples.true) in
    let w = window_29 a.rate a.sheet a.start (length a.out.now) passed.0 l in
    record { answer = sym w; values = sym (window_refused a.rate a.sheet a.start 29 0 a.out.now w) }

pub returns : goal.returns
returns c =
    let a = c.args in
    let m = c.mix in
    let passed = check_passed a.rate a.sheet _ c.in_ok-samples.ensures in
    let e = passed.0 in
    let n = passed.1 in
    let l : a.start ≤ length_of a.rate a.sheet = omega (arith, n, c.if-start-samples.false) in
    let fitting : Fitting a.sheet =
    each_own_tells the_row.own_val (λ (n : Note). T (fits binary32 n.duration)) (λ (n : Note) u h. subst T (sym h.1.1.1.1.0.1) tt) a.sheet.notes _
    c.well_formed.0.1.1.1.1.0.1.1 in
    let v = m.ensures ∙ mixed_is a.rate a.sheet c.well_formed.1.1.0.1 e fitting a.start a.out.now in
    let o = ap length v ∙ windowed_length (placed a.rate a.sheet) (length_of a.rate a.sheet) a.start a.out.now in record {
      answer = ap going (c.min.ensures ∙ ap₂ (λ (x y : ℕ). min x (y - a.start)) o n) ∙ sym (window_taken a.rate a.sheet a.start (length a.out.now) e l);
      values = v ∙ sym (window_is a.rate a.sheet a.start a.out.now e);
    }
