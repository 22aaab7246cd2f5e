-- `write_header` asks 28 and 30 in their order; a sheet that passes has so few samples that the size field holds them. Assumes nothing.
use mathlib.Core.Path.{sym, ap, ◌∙◌}
use Prim.Native.Nat.{ℕ, ◌≤◌}
use native.Mathlib.Omega.{arith}
use lib.ListN.{length}
use Rattle.form.specs.Form.{header}
use Rattle.wave.specs.File.{put}
use Rattle.wave.proofs.Writes.{header_put}
use Rattle.std.proofs.lemmas.Result.{err_from_is_err_and}
use Rattle.handed.proofs.Answers.{check_refused, check_passed}
use Rattle.handed.proofs.Passing.{passing}
use Rattle.engine.proofs.Answers.{header_28, header_30, header_taken, header_refused, header_written_law}
use Rattle.engine.proofs.file.write_header.Goals as goal

pub returns-in_err-samples : goal.returns-in_err-samples
returns-in_err-samples c =
    let a = c.args in
    let p = err_from_is_err_and c.from_residual.result c.from_residual.ensures.1 in
    let why = check_refused a.rate a.sheet _ c.in_err-samples.ensures in
    let w = header_28 a.rate a.sheet a.buffer.now why.1 in
    record { answer = rw (p.1, p.2, why.0) (sym w); bytes = sym (header_refused a.rate a.sheet a.buffer.now a.size 28 0 w) }

pub returns-then-buffer-lt-HEADER_BYTES : goal.returns-then-buffer-lt-HEADER_BYTES
returns-then-buffer-lt-HEADER_BYTES c =
    let a = c.args in
    let passed = check_passed a.rate a.sheet _ c.in_ok-samples.ensures in
    let w = header_30 a.rate a.sheet a.buffer.now passed.0 c.if-buffer-lt-HEADER_BYTES.true in
    record { answer = sym w; bytes = sym (header_refused a.rate a.sheet a.buffer.now a.size 30 0 w) }

pub overflow_cast-samples : goal.overflow_cast-samples
overflow_cast-samples c =
    let passed = check_passed c.args.rate c.args.sheet _ c.in_ok-samples.ensures in
    omega (arith, passed.1, (passing c.args.rate c.args.sheet passed.0).length)

pub returns : goal.returns
returns c =
    let a = c.args in
    let passed = check_passed a.rate a.sheet _ c.in_ok-samples.ensures in
    let l : 44 ≤ length a.buffer.now = c.if-buffer-lt-HEADER_BYTES.false in
    let w = header_taken a.rate a.sheet a.buffer.now passed.0 l in record {
      answer = sym w;
      bytes = c.write_header.ensures.bytes
          ∙ header_put a.size a.rate _ a.buffer.now l
          ∙ ap (λ (m : ℕ). put a.buffer.now 0 (header a.size a.rate m)) passed.1
          ∙ sym (header_written_law a.rate a.sheet a.buffer.now a.size 44 w);
    }
