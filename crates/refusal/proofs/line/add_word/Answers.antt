-- `add_word` copies the word behind what is there. Assumes nothing.
use Rattle.std.proofs.Common.{refl, ◌∙◌, length, arith}
use Rattle.std.proofs.lemmas.Slice.{put_mid-paste}
use Rattle.refusal.proofs.Starts.{pasted}
use Rattle.refusal.proofs.line.add_word.Goals as goal

pub returns-clause-bytes : goal.returns-clause-bytes
returns-clause-bytes c =
    let a = c.args in
    λ front behind e p.
    put_mid-paste a.at _ a.text.now _ a.word.now (length a.word.now) c.copy_from_slice.ensures.after (omega arith) refl ∙ pasted front behind a.text.now a.word.now a.at e p
