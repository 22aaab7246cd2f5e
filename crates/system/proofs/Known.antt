-- Known bytes of a reader and of a writer, over several calls. Assumes nothing.
use Rattle.std.proofs.Common.{◌≡◌, ℕ, ◌+◌, ◌-◌, ◌≤◌, Option, None, Some, List, ◌++◌, length, take, drop, sym, ap, ◌∙◌, subst, append_assoc, le_refl, drop_at, length-take-le}
use Rattle.std.proofs.lemmas.List.{take_rest, take-append-le}
use Rattle.std.proofs.lemmas.Slice.{take-put_mid_below}
use Rattle.std.proofs.Math.Seq.{take-add}
use borrow.Rule.Slice.PartMut.{put_mid, post_of}
use Rattle.std.specs.Io.KnownBytes.{Appends, Consumes}

Appends-trans : (a b c : Option (List ℕ)) (bs cs : List ℕ) → Appends a b bs → Appends b c cs → Appends a c (bs ++ cs)
Appends-trans None b c bs cs p q = tt
Appends-trans (Some x) None c bs cs p q = absurd p
Appends-trans (Some x) (Some y) None bs cs p q = absurd q
Appends-trans (Some x) (Some y) (Some z) bs cs p q = q ∙ ap (λ l. l ++ cs) p ∙ append_assoc x bs cs

-- the next bytes of a part behind its first ones
pub Appends-next : (a b c : Option (List ℕ)) (part : List ℕ) (done n : ℕ) → Appends a b (take done part)
    → Appends b c (take n (take (length part - done) (drop done part))) → Appends a c (take (done + n) part)
Appends-next a b c part done n p q =
    let rest = ap (take n) (take_rest part done) in
    subst (Appends a c) (ap (λ l. take done part ++ l) rest ∙ sym (take-add done n part)) (Appends-trans a b c _ _ p q)

Consumes-trans : (a b c : Option (List ℕ)) (bs cs : List ℕ) → Consumes a b bs → Consumes b c cs → Consumes a c (bs ++ cs)
Consumes-trans None b c bs cs p q = tt
Consumes-trans (Some x) None c bs cs p q = absurd p
Consumes-trans (Some x) (Some y) None bs cs p q = absurd q
Consumes-trans (Some x) (Some y) (Some z) bs cs p q = p ∙ ap (λ l. bs ++ l) q ∙ sym (append_assoc bs cs z)

-- what was read into the rest of a buffer stands behind its first bytes
take-read : (done k n : ℕ) (bytes last : List ℕ) → done ≤ length bytes → n ≤ length last
    → take (done + n) (put_mid done k bytes last) ≡ take done bytes ++ take n last
take-read done k n bytes last within fits =
    let after = post_of done k bytes in
    let rest = drop_at (take done bytes) (last ++ after) done (length-take-le done bytes within) in
    take-add done n (put_mid done k bytes last)
    ∙ ap (λ l. l ++ take n (drop done (put_mid done k bytes last))) (take-put_mid_below done k bytes last done (le_refl _) within)
    ∙ ap (λ l. take done bytes ++ take n l) rest
    ∙ ap (λ l. take done bytes ++ l) (take-append-le n last after fits)

-- the next bytes that are read into the rest of a buffer
pub Consumes-next : (a b c : Option (List ℕ)) (done k n : ℕ) (bytes last : List ℕ) → done ≤ length bytes → n ≤ length last
    → Consumes a b (take done bytes) → Consumes b c (take n last) → Consumes a c (take (done + n) (put_mid done k bytes last))
Consumes-next a b c done k n bytes last within fits p q =
    subst (Consumes a c) (sym (take-read done k n bytes last within fits)) (Consumes-trans a b c _ _ p q)
