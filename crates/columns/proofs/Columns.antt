-- Laws of notes in two columns: how many there are, what columns one behind the other hold, and which numbers matter. Assumes nothing.
use mathlib.Core.Path.{◌≡◌, refl, sym, ap, ◌∙◌}
use mathlib.Core.List.{List, [], ◌∷◌, ◌++◌}
use Prim.Native.Nat.{ℕ, suc, ◌+◌, ◌*◌, ◌≤◌, ◌<◌}
use native.Mathlib.Omega.{arith}
use lib.ListN.{length, take, drop, get_or}
use lib.Seq.{drop-drop, get_or-take, get_or-drop}
use lib.Ieee.{Float}
use Rattle.ieee.specs.Constants.{plus_zero}
use Rattle.sheet.specs.declared.note.Note.{Note}
use Rattle.columns.specs.Columns.{notes_in}

pub notes_length : (fs : List Float) (is : List ℕ) → length (notes_in fs is) ≡ length is
unfolding notes_in
notes_length fs [] = refl
notes_length fs (i ∷ is) = ap suc (notes_length (drop 3 fs) is)

-- columns one behind the other
pub notes_append : (fs : List Float) (is js : List ℕ) → notes_in fs (is ++ js) ≡ notes_in fs is ++ notes_in (drop (3 * length is) fs) js
unfolding notes_in
notes_append fs [] js = refl
notes_append fs (i ∷ is) js =
    ap
    (λ (ns : List Note). record { amplitude = get_or fs 0 plus_zero; frequency = get_or fs 1 plus_zero; duration = get_or fs 2 plus_zero; instrument = i } ∷ ns)
    (notes_append (drop 3 fs) is js
    ∙ ap (λ (gs : List Float). notes_in (drop 3 fs) is ++ notes_in gs js)
    (drop-drop (3 * length is) 3 fs ∙ ap (λ (k : ℕ). drop k fs) (let e : 3 + 3 * length is ≡ 3 * suc (length is) = omega arith in e)))

-- only the numbers of these notes matter
note_of : Float → Float → Float → ℕ → Note
note_of a f d i = record { amplitude = a; frequency = f; duration = d; instrument = i }

pub notes_same : (fs gs : List Float) (is : List ℕ) → ((j : ℕ) → j < 3 * length is → get_or fs j plus_zero ≡ get_or gs j plus_zero) → notes_in fs is ≡ notes_in gs is
unfolding notes_in note_of
notes_same fs gs [] h = refl
notes_same fs gs (i ∷ is) h =
    let rest : notes_in (drop 3 fs) is ≡ notes_in (drop 3 gs) is =
    notes_same (drop 3 fs) (drop 3 gs) is
    (λ j k. get_or-drop 3 fs j plus_zero ∙ h (3 + j) (omega (arith, k)) ∙ sym (get_or-drop 3 gs j plus_zero)) in
    ap (λ (x : Float). note_of x (get_or fs 1 plus_zero) (get_or fs 2 plus_zero) i ∷ notes_in (drop 3 fs) is) (h 0 (omega arith))
    ∙ ap (λ (x : Float). note_of (get_or gs 0 plus_zero) x (get_or fs 2 plus_zero) i ∷ notes_in (drop 3 fs) is) (h 1 (omega arith))
    ∙ ap (λ (x : Float). note_of (get_or gs 0 plus_zero) (get_or gs 1 plus_zero) x i ∷ notes_in (drop 3 fs) is) (h 2 (omega arith))
    ∙ ap (λ (ns : List Note). note_of (get_or gs 0 plus_zero) (get_or gs 1 plus_zero) (get_or gs 2 plus_zero) i ∷ ns) rest

-- so columns with the same front have the same notes
pub notes_front : (fs gs : List Float) (is : List ℕ) (k : ℕ) → 3 * length is ≤ k → take k fs ≡ take k gs → notes_in fs is ≡ notes_in gs is
notes_front fs gs is k h e =
    notes_same fs gs is
    (λ j l. sym (get_or-take k fs j plus_zero (omega (arith, l, h))) ∙ ap (λ (xs : List Float). get_or xs j plus_zero) e ∙ get_or-take k gs j plus_zero (omega (arith, l, h)))
