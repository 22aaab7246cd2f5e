-- `put_bytes` stores the bytes one behind the other. Assumes nothing.
use Rattle.std.proofs.Common.{◌≡◌, ℕ, ◌+◌, ◌≤◌, List, ◌++◌, length, take, drop, append_assoc, sym, ap, ◌∙◌, arith}
use lib.Seq.{sets, sets-eq, drop-drop}
use borrow.Rule.Slice.PartMut.{put_mid}
use Rattle.ask_numbers.proofs.block.put_bytes.Goals as goal

-- bytes copied over as many are those bytes stored one after the other
copied : (xs bs : List ℕ) (at k : ℕ) → k ≡ length bs → at + length bs ≤ length xs → put_mid at k xs bs ≡ sets xs at bs
copied xs bs at k e h =
    ap (λ (rest : List ℕ). take at xs ++ (bs ++ rest)) (drop-drop k at xs ∙ ap (λ (n : ℕ). drop (at + n) xs) e)
    ∙ sym (sets-eq bs xs at h ∙ append_assoc (take at xs) bs (drop (at + length bs) xs))

pub returns : goal.returns
returns c = rw c.copy_from_slice.ensures.after (copied c.args.out.now c.args.bytes.now c.args.at _ (omega arith) (omega arith))
