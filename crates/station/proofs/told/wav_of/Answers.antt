-- `wav_of` is the engine's header with a window of all samples behind it, where they fit. Assumes nothing.
use mathlib.Core.Path.{◌≡◌, sym, ap, subst, ◌∙◌}
use mathlib.Core.List.{List}
use Prim.Native.Nat.{ℕ, ◌+◌, ◌*◌, ◌≤◌, ◌<◌}
use native.Mathlib.Omega.{arith}
use lib.ListN.{length}
use borrow.Author.Rules.{rules}
use Rattle.sheet.specs.Parts.{length_of}
use Rattle.sheet.specs.Refusals.{going}
use Rattle.std.proofs.Common.{Result, true}
use Rattle.std.specs.Result.{result_unwrap_or}
use Rattle.sheet.specs.declared.sheet.Sheet.{Sheet}
use Rattle.sheet.specs.declared.refusal.Refusal.{Refusal}
use Rattle.handed.specs.Check.{is_sheet, checked_of}
use Rattle.handed.proofs.Answers.{check_counts}
use Rattle.handed.proofs.Passing.{passing}
use Rattle.windows.specs.Written.{written_in}
use Rattle.station.specs.Calls.{told, sheet_in}
use Rattle.station.proofs.Texts.{text_refused, text_going, sheet_passes}
use Rattle.station.proofs.Asked.{wav_told_refused, wav_kept, wav_told_short, wav_short_kept, wav_told_room, wav_pieces}
use Rattle.station.proofs.told.wav_of.Goals as goal

pub returns-then-text-ne0 : goal.returns-then-text-ne0
returns-then-text-ne0 c =
    let a = c.args in
    let q = c.read-text in
    let e = text_refused a.mode a.source.now q.result q.ensures c.if-text-ne0.true in
    record { answer = c.turned_away.ensures ∙ sym (wav_told_refused a.mode a.source.now _ _ e (length a.buffer.now)); bytes = sym (wav_kept a.mode a.source.now _ _ e a.riff a.buffer.now) }

-- the samples of the text's sheet
counted : (s : Sheet) (r : Result ℕ Refusal) (n : ℕ) → r ≡ checked_of 44100 s → n ≡ result_unwrap_or r 0 → is_sheet 44100 s ≡ true → n ≡ length_of 44100 s
counted s r n e f p = f ∙ ap (λ q. result_unwrap_or q 0) (e ∙ check_counts 44100 s p)

pub overflow_mul-size : goal.overflow_mul-size
overflow_mul-size c =
    let e = text_going c.args.mode c.args.source.now c.read-text.result c.read-text.ensures c.if-text-ne0.false in
    let p = sheet_passes _ _ _ e in
    let n = counted _ _ _ c.check.ensures c.unwrap_or.ensures p in
    omega (arith, n, (passing 44100 _ p).length)

pub overflow_add-size : goal.overflow_add-size
overflow_add-size c =
    let e = text_going c.args.mode c.args.source.now c.read-text.result c.read-text.ensures c.if-text-ne0.false in
    let p = sheet_passes _ _ _ e in
    let n = counted _ _ _ c.check.ensures c.unwrap_or.ensures p in
    omega (arith, n, (passing 44100 _ p).length)

pub returns-then-buffer-size : goal.returns-then-buffer-size
returns-then-buffer-size c =
    let a = c.args in
    let e = text_going a.mode a.source.now c.read-text.result c.read-text.ensures c.if-text-ne0.false in
    let n = counted _ _ _ c.check.ensures c.unwrap_or.ensures (sheet_passes _ _ _ e) in
    let short : length a.buffer.now < 44 + 2 * length_of 44100 c.read-text.result.sheet = subst (λ (k : ℕ). length a.buffer.now < 44 + 2 * k) n c.if-buffer-size.true in record {
      answer = rw c.number.ensures (ap (λ (k : ℕ). record { count = 44 + 2 * k; refusal = 30; line = 0 }) n) ∙ sym (wav_told_short a.mode a.source.now _ e (length a.buffer.now) short);
      bytes = sym (wav_short_kept a.mode a.source.now _ e a.riff a.buffer.now short);
    }

pub returns : goal.returns
returns c =
    let a = c.args in
    let s = c.read-text.result.sheet in
    let e = text_going a.mode a.source.now c.read-text.result c.read-text.ensures c.if-text-ne0.false in
    let n = counted _ _ _ c.check.ensures c.unwrap_or.ensures (sheet_passes _ _ _ e) in
    let room : 44 + 2 * length_of 44100 s ≤ length a.buffer.now = subst (λ (m : ℕ). 44 + 2 * m ≤ length a.buffer.now) n c.if-buffer-size.false in record {
      answer = c.so_many.ensures ∙ ap (λ (m : ℕ). told (going (44 + 2 * m))) n ∙ sym (wav_told_room a.mode a.source.now s e (length a.buffer.now) room);
      bytes = c.write_window.ensures.bytes
          ∙ ap (λ (t : List ℕ). written_in 44100 s 0 t 44) c.write_header.ensures.bytes
          ∙ wav_pieces a.mode a.source.now s e a.riff a.buffer.now room;
    }
