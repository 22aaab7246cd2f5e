-- `put` stores the four bytes one behind the other, and the slice stays as long as it was. Assumes nothing.
use Rattle.std.proofs.Common.{◌≡◌, ◌+◌, ◌-◌, sym, ap, refl, ◌∙◌, arith}
use Rattle.std.proofs.lemmas.Slice.{put_mid-paste}
use Rattle.std.proofs.lemmas.List.Edits.{sets-eq}
use Rattle.fields.specs.Word.{bytes_of}
use Rattle.fields.proofs.word.put.Goals as goal

pub returns : goal.returns
unfolding bytes_of
returns c =
    let a = c.args in
    let e : c.copy_from_slice.new.self ≡ bytes_of a.w = c.copy_from_slice.ensures.after ∙ c.to_le_bytes-bytes.ensures ∙ ap bytes_of (omega arith) in
    put_mid-paste a.i (a.i + 4 - a.i) a.s.now c.copy_from_slice.new.self (bytes_of a.w) 4 e (omega arith) refl ∙ sym (sets-eq (bytes_of a.w) a.s.now a.i (omega arith))
