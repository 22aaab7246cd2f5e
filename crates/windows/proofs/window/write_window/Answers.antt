-- `write_window` asks 28, 29 and 30 in their order; what is written then are samples that exist and fit. Assumes nothing.
use mathlib.Core.Path.{◌≡◌, sym, ap, ◌∙◌}
use Prim.Native.Nat.{ℕ, ◌+◌, ◌-◌, ◌*◌, ◌/◌, ◌≤◌, ◌<◌, min}
use native.Mathlib.Omega.{arith}
use lib.ListN.{length}
use Rattle.wave.specs.File.{room_at}
use Rattle.sheet.specs.Parts.{length_of}
use Rattle.sheet.specs.Refusals.{going}
use Rattle.std.proofs.lemmas.Result.{err_from_is_err_and}
use Rattle.handed.proofs.Answers.{check_refused, check_passed}
use Rattle.mixing.specs.Placing.{placed}
use Rattle.windows.proofs.Answers.{written_28, written_29, written_past, written_short, written_room, written_none, written_refused, written_put}
use Rattle.windows.proofs.Windows.{blocks_none}
use Rattle.windows.proofs.window.write_window.Goals as goal

-- where none of some samples fits, under two bytes are left
short : (room samples start n : ℕ) → n ≡ min (room / 2) (samples - start) → n ≡ 0 → start < samples → room < 2
short room samples start n e z l = omega arith

-- samples that exist and fit whole are inside the sheet and the buffer
fits_whole : (room at samples start n : ℕ) → n ≡ min (room_at room at) (samples - start) → at ≤ room → start ≤ samples
    → (start + n ≤ samples) × (at + 2 * n ≤ room)
unfolding room_at
fits_whole room at samples start n e p l = (omega arith, omega arith)

-- and where there is one, two bytes are there for it
has_room : (room at left n : ℕ) → n ≡ min (room_at room at) left → ¬ (n ≡ 0) → 2 ≤ room - at
unfolding room_at
has_room room at left n e z = omega arith

pub returns-in_err-samples : goal.returns-in_err-samples
returns-in_err-samples c =
    let a = c.args in
    let p = err_from_is_err_and c.from_residual.result c.from_residual.ensures.1 in
    let why = check_refused a.rate a.sheet _ c.in_err-samples.ensures in
    let w = written_28 a.rate a.sheet a.buffer.now a.start a.at why.1 in
    record { answer = rw (p.1, p.2, why.0) (sym w); bytes = sym (written_refused a.rate a.sheet a.buffer.now a.start a.at 28 0 w) }

pub returns-then-start-samples : goal.returns-then-start-samples
returns-then-start-samples c =
    let a = c.args in
    let passed = check_passed a.rate a.sheet _ c.in_ok-samples.ensures in
    let l : length_of a.rate a.sheet < a.start = omega (arith, passed.1, c.if-start-samples.true) in
    let w = written_29 a.rate a.sheet a.buffer.now a.start a.at passed.0 l in
    record { answer = sym w; bytes = sym (written_refused a.rate a.sheet a.buffer.now a.start a.at 29 0 w) }

pub returns-then-at-buffer : goal.returns-then-at-buffer
returns-then-at-buffer c =
    let a = c.args in
    let passed = check_passed a.rate a.sheet _ c.in_ok-samples.ensures in
    let l : a.start ≤ length_of a.rate a.sheet = omega (arith, passed.1, c.if-start-samples.false) in
    let w = written_past a.rate a.sheet a.buffer.now a.start a.at passed.0 l c.if-at-buffer.true in
    record { answer = sym w; bytes = sym (written_refused a.rate a.sheet a.buffer.now a.start a.at 30 0 w) }

pub returns-then-start-samples-2 : goal.returns-then-start-samples-2
returns-then-start-samples-2 c =
    let a = c.args in
    let passed = check_passed a.rate a.sheet _ c.in_ok-samples.ensures in
    let l : a.start ≤ length_of a.rate a.sheet = omega (arith, passed.1, c.if-start-samples.false) in
    let more : a.start < length_of a.rate a.sheet = omega (arith, passed.1, c.if-start-samples-2.true) in
    let w = written_short a.rate a.sheet a.buffer.now a.start a.at passed.0 l c.if-at-buffer.false more
    (short (length a.buffer.now - a.at) _ _ _ c.min-n.ensures c.if-n-eq0.true c.if-start-samples-2.true) in
    record { answer = sym w; bytes = sym (written_refused a.rate a.sheet a.buffer.now a.start a.at 30 0 w) }

pub returns-then-n-eq0 : goal.returns-then-n-eq0
unfolding room_at
returns-then-n-eq0 c =
    let a = c.args in
    let passed = check_passed a.rate a.sheet _ c.in_ok-samples.ensures in
    let l : a.start ≤ length_of a.rate a.sheet = omega (arith, passed.1, c.if-start-samples.false) in
    let none : length_of a.rate a.sheet ≤ a.start = omega (arith, passed.1, c.if-start-samples-2.false) in
    let w = written_none a.rate a.sheet a.buffer.now a.start a.at passed.0 l c.if-at-buffer.false none in
    let z : min (room_at (length a.buffer.now) a.at) (length_of a.rate a.sheet - a.start) ≡ 0 = omega (arith, none) in
    let v = w ∙ ap going z in
    record { answer = sym v; bytes = sym (written_put a.rate a.sheet a.buffer.now a.start a.at 0 v ∙ blocks_none (placed a.rate a.sheet) a.buffer.now a.at a.start) }

pub write_blocks-requires : goal.write_blocks-requires
unfolding room_at
write_blocks-requires c =
    let a = c.args in
    let passed = check_passed a.rate a.sheet _ c.in_ok-samples.ensures in
    let l : a.start ≤ length_of a.rate a.sheet = omega (arith, passed.1, c.if-start-samples.false) in
    let n = c.min-n.ensures ∙ ap (λ (n : ℕ). min ((length a.buffer.now - a.at) / 2) (n - a.start)) passed.1 in
    let f = fits_whole (length a.buffer.now) a.at (length_of a.rate a.sheet) a.start c.min-n.result n c.if-at-buffer.false l in
    (passed.0, (f.0, f.1))

pub returns : goal.returns
unfolding room_at
returns c =
    let a = c.args in
    let passed = check_passed a.rate a.sheet _ c.in_ok-samples.ensures in
    let l : a.start ≤ length_of a.rate a.sheet = omega (arith, passed.1, c.if-start-samples.false) in
    let n = c.min-n.ensures ∙ ap (λ (n : ℕ). min ((length a.buffer.now - a.at) / 2) (n - a.start)) passed.1 in
    let w = written_room a.rate a.sheet a.buffer.now a.start a.at passed.0 l c.if-at-buffer.false (has_room (length a.buffer.now) a.at _ _ n c.if-n-eq0.false)
    ∙ ap going (sym n) in
    record { answer = sym w; bytes = c.write_blocks.ensures ∙ sym (written_put a.rate a.sheet a.buffer.now a.start a.at c.min-n.result w) }
