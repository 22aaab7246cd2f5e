-- `write_file` makes the two tests of the definition; then the header and the samples, written one right after the other, are the file.
-- Assumes nothing.
use mathlib.Core.Path.{ap, ◌∙◌}
use mathlib.Core.List.{List}
use Prim.Native.Nat.{ℕ, ◌+◌, ◌*◌, ◌≤◌}
use native.Mathlib.Omega.{arith}
use lib.ListN.{length}
use lib.Dec.{lit≤}
use mir.Syntax.{w32, w64}
use mir.Val.{Fits}
use borrow.Author.Tests.{le-leb, lt-leb}
use Rattle.wave.specs.File.{samples_in, told, file_told, file_in}
use Rattle.wave.proofs.Told.{header_fits}
use Rattle.wave.proofs.Writes.{file_put}
use Rattle.wave.proofs.file.write_file.Goals as goal

-- sizes of a file of so many samples, over plain numbers
data_fits : (n : ℕ) → n ≤ 2000000000 → Fits w64 (2 * n)
data_fits n h = omega arith

size_fits : (k n : ℕ) → k ≤ 44 → n ≤ 2000000000 → Fits w64 (k + 2 * n)
size_fits k n l h = omega arith

count_field : (n : ℕ) → n ≤ 2000000000 → Fits w32 n
count_field n h = omega arith

pub returns-then-n-gt-SAMPLES_MOST : goal.returns-then-n-gt-SAMPLES_MOST
unfolding told file_told file_in
returns-then-n-gt-SAMPLES_MOST c =
    record { answer = rw (lt-leb _ _ c.if-n-gt-SAMPLES_MOST.true, file_told); bytes = rw (lt-leb _ _ c.if-n-gt-SAMPLES_MOST.true, file_in) }

pub returns-then-buffer-n : goal.returns-then-buffer-n
unfolding told file_told file_in
returns-then-buffer-n c =
    let few = c.if-n-gt-SAMPLES_MOST.false in
    record { answer = rw (le-leb _ _ few, lt-leb _ _ c.if-buffer-n.true, file_told); bytes = rw (le-leb _ _ few, lt-leb _ _ c.if-buffer-n.true, file_in) }

-- there is room for the header
pub returns-in_err-write_header : goal.returns-in_err-write_header
returns-in_err-write_header c =
    let long : 44 ≤ length c.args.buffer.now = omega arith in
    header_fits (length c.args.buffer.now) _ long c.in_err-write_header.ensures.answer

pub overflow_cast-n : goal.overflow_cast-n
overflow_cast-n c = count_field _ c.if-n-gt-SAMPLES_MOST.false

pub overflow_mul-result : goal.overflow_mul-result
overflow_mul-result c = data_fits _ c.if-n-gt-SAMPLES_MOST.false

pub overflow_add-result : goal.overflow_add-result
overflow_add-result c = size_fits _ _ (lit≤ tt) c.if-n-gt-SAMPLES_MOST.false

pub returns : goal.returns
unfolding told file_told file_in
returns c =
    let room = c.if-buffer-n.false in
    let few = c.if-n-gt-SAMPLES_MOST.false in
    record {
      answer = rw (le-leb _ _ few, le-leb _ _ room, file_told);
      bytes = rw (le-leb _ _ few, le-leb _ _ room, file_in)
          (c.write_samples.ensures.bytes
          ∙ ap (λ (b : List ℕ). samples_in b 44 c.args.samples.now) c.write_header.ensures.bytes
          ∙ file_put c.args.size c.args.rate c.args.samples.now c.args.buffer.now room);
    }
