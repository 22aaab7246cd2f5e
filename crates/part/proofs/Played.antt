-- The notes of columns whose end is laid down again and again: the notes there were, with their end so many times and a front of it once more.
-- Assumes nothing.
use mathlib.Core.Path.{◌≡◌, refl, sym, ap, ap₂, ◌∙◌}
use mathlib.Core.List.{List, [], ◌∷◌, ◌++◌}
use Prim.Native.Nat.{ℕ, zero, suc, ◌+◌, ◌-◌, ◌*◌, ◌≤◌, ◌<◌}
use native.Mathlib.Omega.{arith}
use lib.ListN.{length, take, drop, get_or, length-drop}
use lib.Seq.{length-take-le, take_all, take-take, take_at, drop_at, drop-drop}
use lib.Ieee.{Float}
use Rattle.ieee.specs.Constants.{plus_zero}
use Rattle.sheet.specs.declared.note.Note.{Note}
use Rattle.loops.specs.Loops.{copies}
use Rattle.loops.specs.Again.{laid_again}
use Rattle.loops.proofs.Repeats.{copies_length, laid_passes}
use Rattle.columns.specs.Columns.{notes_in}
use Rattle.columns.proofs.Columns.{notes_append, notes_front}

notes_take : (k : ℕ) (fs : List Float) (is : List ℕ) → notes_in fs (take k is) ≡ take k (notes_in fs is)
unfolding notes_in
notes_take zero fs is = refl
notes_take (suc k) fs [] = refl
notes_take (suc k) fs (i ∷ is) =
    ap
    (λ (ns : List Note). record { amplitude = get_or fs 0 plus_zero; frequency = get_or fs 1 plus_zero; duration = get_or fs 2 plus_zero; instrument = i } ∷ ns)
    (notes_take k (drop 3 fs) is)

notes_drop : (k : ℕ) (fs : List Float) (is : List ℕ) → notes_in (drop (3 * k) fs) (drop k is) ≡ drop k (notes_in fs is)
unfolding notes_in
notes_drop zero fs is = let e : 3 * 0 ≡ 0 = omega arith in ap (λ (j : ℕ). notes_in (drop j fs) is) e
notes_drop (suc k) fs [] = refl
notes_drop (suc k) fs (i ∷ is) =
    let e : 3 * suc k ≡ 3 + 3 * k = omega arith in
    ap (λ (gs : List Float). notes_in gs (drop k is)) (ap (λ (j : ℕ). drop j fs) e ∙ sym (drop-drop (3 * k) 3 fs)) ∙ notes_drop k (drop 3 fs) is

notes_both : (fs gs : List Float) (is js : List ℕ) → length fs ≡ 3 * length is → notes_in (fs ++ gs) (is ++ js) ≡ notes_in fs is ++ notes_in gs js
notes_both fs gs is js e =
    notes_append (fs ++ gs) is js
    ∙ ap₂ (λ (ms ns : List Note). ms ++ ns)
    (notes_front (fs ++ gs) fs is (3 * length is) (omega arith) (take_at fs gs (3 * length is) e ∙ sym (take_all (3 * length is) fs (omega arith))))
    (ap (λ (hs : List Float). notes_in hs js) (drop_at fs gs (3 * length is) e))

notes_copies : (k : ℕ) (fs : List Float) (is : List ℕ) → length fs ≡ 3 * length is → notes_in (copies k fs) (copies k is) ≡ copies k (notes_in fs is)
unfolding copies notes_in
notes_copies zero fs is e = refl
notes_copies (suc k) fs is e = notes_both fs (copies k fs) is (copies k is) e ∙ ap (λ (ns : List Note). notes_in fs is ++ ns) (notes_copies k fs is e)

pub notes_repeated : (fs : List Float) (is : List ℕ) (start n end further last : ℕ) → start < n → 3 * n ≤ length fs → n ≤ length is → 3 * end ≤ length fs
    → end ≤ length is → last ≤ n - start → end ≡ start + further * (n - start) + last
    → notes_in (take (3 * end) (laid_again (3 * start) (3 * n) (3 * end) fs)) (take end (laid_again start n end is))
    ≡ take start (notes_in fs (take n is)) ++ (copies further (drop start (notes_in fs (take n is))) ++ take last (drop start (notes_in fs (take n is))))
notes_repeated fs is start n end further last filled floats instruments floats_fit instruments_fit h e =
    let ns = notes_in fs (take n is) in
    let F = take (3 * start) fs in
    let I = take start is in
    let G = drop (3 * start) (take (3 * n) fs) in
    let B = drop start (take n is) in
    let l_f : length F ≡ 3 * start = length-take-le (3 * start) fs (omega arith) in
    let l_i : length I ≡ start = length-take-le start is (omega arith) in
    let l_g : length G ≡ 3 * n - 3 * start = length-drop (3 * start) (take (3 * n) fs) ∙ ap (λ (k : ℕ). k - 3 * start) (length-take-le (3 * n) fs floats) in
    let l_b : length B ≡ n - start = length-drop start (take n is) ∙ ap (λ (k : ℕ). k - start) (length-take-le n is instruments) in
    let l_c : length (copies further G) ≡ 3 * length (copies further B) =
    copies_length further G
    ∙ ap (λ (k : ℕ). further * k) (let q : length G ≡ 3 * length B = omega arith in q)
    ∙ (let q : further * (3 * length B) ≡ 3 * (further * length B) = omega arith in q)
    ∙ ap (λ (k : ℕ). 3 * k) (sym (copies_length further B)) in
    let t : further * (3 * n - 3 * start) ≡ 3 * (further * (n - start)) =
    ap (λ (k : ℕ). further * k) (let q : 3 * n - 3 * start ≡ 3 * (n - start) = omega arith in q)
    ∙ (let q : further * (3 * (n - start)) ≡ 3 * (further * (n - start)) = omega arith in q) in
    let body : notes_in G B ≡ drop start ns =
    notes_drop start (take (3 * n) fs) (take n is)
    ∙ ap (drop start)
    (notes_front (take (3 * n) fs) fs (take n is) (3 * n) (omega (arith, length-take-le n is instruments)) (take-take (3 * n) (3 * n) fs (omega arith))) in
    let front : notes_in F I ≡ take start ns =
    notes_front F fs I (3 * start) (omega arith) (take-take (3 * start) (3 * start) fs (omega arith))
    ∙ ap (notes_in fs) (sym (take-take start n is (omega arith)))
    ∙ notes_take start fs (take n is) in
    let rest : notes_in (take (3 * last) G) (take last B) ≡ take last (drop start ns) =
    notes_front (take (3 * last) G) G (take last B) (3 * last) (omega (arith, length-take-le last B (omega arith))) (take-take (3 * last) (3 * last) G (omega arith))
    ∙ notes_take last G B
    ∙ ap (take last) body in
    ap₂ notes_in
    (laid_passes fs (3 * start) (3 * n) (3 * end) (omega arith) floats floats_fit further (3 * last) (omega arith) (omega arith))
    (laid_passes is start n end filled instruments instruments_fit further last h e)
    ∙ notes_both F (copies further G ++ take (3 * last) G) I (copies further B ++ take last B) (omega arith)
    ∙ ap₂ (λ (ms qs : List Note). ms ++ qs) front
    (notes_both (copies further G) (take (3 * last) G) (copies further B) (take last B) l_c
    ∙ ap₂ (λ (ms qs : List Note). ms ++ qs) (notes_copies further G B (omega arith) ∙ ap (copies further) body) rest)
