-- Laws of the file: how many samples a window of it has, and that the header with a window of all samples is the file of the sheet's samples, whose
-- length field counts exactly those. Assumes nothing.
use mathlib.Core.Path.{◌≡◌, sym, ap, ◌∙◌}
use mathlib.Core.Bool.{true}
use mathlib.Core.Logic.{⊎_elim}
use mathlib.Core.List.{List, ◌++◌}
use Prim.Native.Nat.{ℕ, ◌+◌, ◌-◌, ◌*◌, ◌/◌, ◌≤◌, min}
use native.Mathlib.Omega.{arith}
use lib.ListN.{length}
use lib.Ieee.{Float}
use borrow.Author.Tests.{le-leb}
use Rattle.form.specs.declared.size.Size.{Size}
use Rattle.form.specs.Form.{header}
use Rattle.form.specs.Sample.{bytes_of}
use Rattle.wave.specs.File.{put, room_at, fits_file, file_in}
use Rattle.form.proofs.Published.{header_length}
use Rattle.wave.proofs.Writes.{put_length, put_put}
use Rattle.sheet.specs.declared.sheet.Sheet.{Sheet}
use Rattle.sheet.specs.Parts.{length_of}
use Rattle.handed.specs.Check.{is_sheet}
use Rattle.handed.proofs.Passing.{passing}
use Rattle.evaluator.specs.Samples.{samples_from}
use Rattle.mixing.specs.Placing.{placed}
use Rattle.evaluator.proofs.Samples.{samples_length}
use Rattle.windows.specs.Written.{written_of, written_in}
use Rattle.engine.specs.Files.{header_in}
use Rattle.windows.proofs.Windows.{fitting, written_or, written_is}
use Rattle.engine.specs.Stream.{count_in}
use Rattle.engine.proofs.Answers.{header_taken, header_written_law}

module _ (rate : ℕ) (s : Sheet) (e : is_sheet rate s ≡ true) where
  -- a window has the samples that exist and fit whole
  pub written_count : (start : ℕ) (buffer : List ℕ) (at : ℕ) → count_in (written_of rate s start (length buffer) at) ≡ fitting rate s e start buffer at
  unfolding count_in
  written_count start buffer at = ⊎_elim (λ g. ap count_in g) (λ w. ap count_in w.2 ∙ sym w.3) (written_or rate s e start buffer at)

-- what the file of samples that fit leaves in a buffer
file_is : (size : Size) (rate : ℕ) (xs : List Float) (buffer : List ℕ) (n : ℕ) → length xs ≡ n → n ≤ 2000000000 → 44 + 2 * n ≤ length buffer
    → file_in size rate xs buffer ≡ put buffer 0 (header size rate n ++ bytes_of xs)
unfolding file_in fits_file
file_is size rate xs buffer n e small h =
    rw (le-leb (length xs) 2000000000 (omega arith), le-leb (44 + 2 * length xs) (length buffer) (omega arith), file_in)
    (ap (λ (k : ℕ). put buffer 0 (header size rate k ++ bytes_of xs)) e)

-- the header, and behind it a window of all samples: the file of the sheet's samples. Its length field says how many bytes they have.
pub whole_file : (size : Size) (rate : ℕ) (s : Sheet) (buffer : List ℕ) → is_sheet rate s ≡ true → 44 + 2 * length_of rate s ≤ length buffer
    → written_in rate s 0 (header_in size rate s buffer) 44 ≡ file_in size rate (samples_from (placed rate s) 0 (length_of rate s)) buffer
unfolding room_at
whole_file size rate s buffer e h =
    let ps = placed rate s in
    let n = length_of rate s in
    let xs = samples_from ps 0 n in
    let head = header size rate n in
    let headed : header_in size rate s buffer ≡ put buffer 0 head = header_written_law rate s buffer size 44 (header_taken rate s buffer e (omega arith)) in
    let long : length head ≡ 44 = header_length size rate n in
    let fits : 0 + length head ≤ length buffer = omega arith in
    let same : length (put buffer 0 head) ≡ length buffer = put_length buffer 0 head fits in
    let all : min ((length (put buffer 0 head) - 44) / 2) (n - 0) ≡ n = omega arith in
    ap (λ (b : List ℕ). written_in rate s 0 b 44) headed
    ∙ written_is rate s e 0 (put buffer 0 head) 44
    ∙ ap (λ (k : ℕ). put (put buffer 0 head) 44 (bytes_of (samples_from ps 0 k))) all
    ∙ put_put buffer 0 head fits (bytes_of xs) 44 (omega arith)
    ∙ sym (file_is size rate xs buffer n (samples_length ps 0 n) (passing rate s e).length h)
