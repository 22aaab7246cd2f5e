-- The four bytes that `with_number` copies are those of the definition. Assumes nothing.
use Rattle.std.proofs.Common.{◌≡◌, ℕ, ◌+◌, ◌-◌, ◌/◌, ◌%◌, ◌≤◌, List, [], ◌∷◌, length, take, drop, ◌++◌, append_assoc, sym, ap, ◌∙◌, arith}
use native.Mathlib.Nat.{div-div-eq-div-mul}
use lib.Seq.{sets, sets-eq, drop-drop}
use borrow.Rule.Slice.PartMut.{put_mid}
use Rattle.form.specs.Form.{le}
use Rattle.form.proofs.header.with_number.Goals as goal

-- bytes copied over as many are those bytes stored one after the other
copied : (xs bs : List ℕ) (at k : ℕ) → k ≡ length bs → at + length bs ≤ length xs → put_mid at k xs bs ≡ sets xs at bs
copied xs bs at k e h =
    ap (λ (rest : List ℕ). take at xs ++ (bs ++ rest)) (drop-drop k at xs ∙ ap (λ (n : ℕ). drop (at + n) xs) e)
    ∙ sym (sets-eq bs xs at h ∙ append_assoc (take at xs) bs (drop (at + length bs) xs))

-- the four lower bytes of a number
lower : (v : ℕ) → v % 256 ∷ v / 256 % 256 ∷ v / 65536 % 256 ∷ v / 16777216 % 256 ∷ [] ≡ le 4 v
unfolding le
lower v = rw (sym (div-div-eq-div-mul v 256 256), sym (div-div-eq-div-mul v 65536 256), sym (div-div-eq-div-mul v 256 256))

pub returns : goal.returns
unfolding le
returns c =
    let bytes = le 4 c.args.v in
    let e : c.copy_from_slice.new.self ≡ bytes = c.copy_from_slice.ensures.after ∙ ap (λ (s : List ℕ). take 4 s) c.to_le_bytes.ensures ∙ lower _ ∙ ap (le 4) (omega arith) in
    let four : c.args.at + 4 - c.args.at ≡ 4 = omega arith in
    rw e (copied c.args.form bytes c.args.at _ four (omega arith))
