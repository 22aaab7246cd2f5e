-- `next_bytes` is the header or a window, at the place where the file has it. Assumes nothing.
use mathlib.Core.Path.{◌≡◌, sym, ap, ◌∙◌}
use Prim.Native.Nat.{ℕ, ◌+◌, ◌-◌, ◌*◌, ◌/◌, ◌%◌, ◌≤◌}
use native.Mathlib.Omega.{arith}
use lib.ListN.{length}
use Rattle.std.proofs.Common.{Result, Ok, Err, refl}
use Rattle.std.specs.Result.{result_unwrap_or}
use Rattle.sheet.specs.declared.refusal.Refusal.{Refusal}
use Rattle.sheet.specs.Answers.{answered}
use Rattle.engine.specs.Stream.{count_in, next_of, next_in}
use Rattle.engine.proofs.Counted.{next_first, next_samples, next_in_header, next_in_sample, count_most}
use Rattle.engine.proofs.HandedOn.{header_next, samples_next_law, none_handed}
use Rattle.engine.proofs.stream.next_bytes.Goals as goal

-- a place behind the header that no sample has its second byte at
even_place : (at : ℕ) → 44 ≤ at → ¬ ((at - 44) % 2 ≡ 1) → at ≡ 44 + 2 * ((at - 44) / 2)
even_place at l o = omega arith

-- none where it was refused
counted : (r : Result ℕ Refusal) → result_unwrap_or r 0 ≡ count_in (answered r)
unfolding count_in
counted (Ok n) = refl
counted (Err why) = refl

pub returns-then-at-eq0 : goal.returns-then-at-eq0
returns-then-at-eq0 c =
    let a = c.args in
    let w = c.write_header.ensures in
    let z = c.if-at-eq0.true in record {
      count = c.unwrap_or.ensures
          ∙ counted c.write_header.result
          ∙ ap count_in w.answer
          ∙ sym (next_first a.rate a.sheet a.buffer.now)
          ∙ ap (next_of a.rate a.sheet (length a.buffer.now)) (sym z);
      bytes = w.bytes ∙ header_next a.size a.rate a.sheet a.buffer.now ∙ ap (next_in a.size a.rate a.sheet a.buffer.now) (sym z);
    }

pub returns-then-at-lt-HEADER_BYTES : goal.returns-then-at-lt-HEADER_BYTES
returns-then-at-lt-HEADER_BYTES c =
    let a = c.args in
    let n = next_in_header a.rate a.sheet a.buffer.now a.at c.if-at-eq0.false c.if-at-lt-HEADER_BYTES.true in
    record { count = n; bytes = none_handed a.size a.rate a.sheet a.buffer.now a.at (sym n) }

pub returns-then-behind-eq1 : goal.returns-then-behind-eq1
returns-then-behind-eq1 c =
    let a = c.args in
    let n = next_in_sample a.rate a.sheet a.buffer.now a.at c.if-at-lt-HEADER_BYTES.false c.if-behind-eq1.true in
    record { count = n; bytes = none_handed a.size a.rate a.sheet a.buffer.now a.at (sym n) }

pub overflow_mul-result : goal.overflow_mul-result
overflow_mul-result c =
    let a = c.args in
    let w = c.write_window.ensures in
    record { fits = omega (arith, c.unwrap_or-2.ensures ∙ counted c.write_window.result ∙ ap count_in w.answer, count_most a.rate a.sheet a.buffer.now ((a.at - 44) / 2)) }

pub returns : goal.returns
returns c =
    let a = c.args in
    let w = c.write_window.ensures in
    let i = (a.at - 44) / 2 in
    let h : a.at ≡ 44 + 2 * i = even_place a.at c.if-at-lt-HEADER_BYTES.false c.if-behind-eq1.false in record { count = ap (λ (n : ℕ). 2 * n) (c.unwrap_or-2.ensures ∙ counted c.write_window.result ∙ ap count_in w.answer) ∙ sym (next_samples a.rate a.sheet a.buffer.now a.at i h); bytes = w.bytes ∙ samples_next_law a.size a.rate a.sheet a.buffer.now a.at i h }
