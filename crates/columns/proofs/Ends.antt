-- The end of the notes of two columns, while code goes through them. Assumes nothing.
use mathlib.Core.Path.{◌≡◌, refl, sym, ap, ◌∙◌}
use mathlib.Core.List.{List, [], ◌∷◌}
use Prim.Native.Nat.{ℕ, suc, ◌+◌, ◌*◌, ◌≤◌, ◌<◌, max}
use native.Mathlib.Omega.{arith}
use lib.ListN.{length, drop, get_or, drop_of_length-le}
use lib.Seq.{drop-cons, drop-drop, get_or-drop}
use lib.Ieee.{Float, nan, binary32, add}
use Rattle.ieee.specs.Constants.{plus_zero}
use Rattle.tone.specs.Time.{length_of}
use Rattle.columns.specs.Columns.{notes_in}
use Rattle.sheet.specs.Lengths.{sounding_of, samples_of, end_of}

-- i notes are done: the next begins at `start`, `end` is the largest end of those, and with the rest it comes to the end of all
pub record Ending (rate : ℕ) (releases fs : List Float) (is : List ℕ) (i start end : ℕ) : Type 0 where
  pub short : start ≤ i * 16777216
  whole : max end (end_of rate releases start (notes_in (drop (3 * i) fs) (drop i is))) ≡ end_of rate releases 0 (notes_in fs is)

module _ (rate : ℕ) (releases fs : List Float) (is : List ℕ) where
  pub ending_start : Ending rate releases fs is 0 0 0
  ending_start = record { short = omega arith; whole = omega arith }

  -- the end of a note and of those behind it
  one_more : (gs : List Float) (j start : ℕ) (js : List ℕ)
      → end_of rate releases start (notes_in gs (j ∷ js))
      ≡ max (start + samples_of (length_of rate (add binary32 (get_or gs 2 plus_zero) (get_or releases j nan))))
      (end_of rate releases (start + samples_of (length_of rate (get_or gs 2 plus_zero))) (notes_in (drop 3 gs) js))
  unfolding end_of notes_in sounding_of
  one_more gs j start js = refl

  none_more : (gs : List Float) (start : ℕ) → end_of rate releases start (notes_in gs []) ≡ 0
  unfolding end_of notes_in
  none_more gs start = refl

  module _ (i start end : ℕ) (e : Ending rate releases fs is i start end) where
    pub ending_more : (d r : Float) (a b end' : ℕ) → i < length is → d ≡ get_or fs (3 * i + 2) plus_zero → r ≡ get_or releases (get_or is i 0) nan
        → a ≡ samples_of (length_of rate (add binary32 d r)) → b ≡ samples_of (length_of rate d) → b ≤ 16777216 → end' ≡ max end (start + a)
        → Ending rate releases fs is (i + 1) (start + b) end'
    ending_more d r a b end' l p q f g h m =
        let F = drop (3 * i) fs in
        let j = get_or is i 0 in
        let two : get_or F 2 plus_zero ≡ d = get_or-drop (3 * i) fs 2 plus_zero ∙ sym p in
        let sounds : samples_of (length_of rate (add binary32 (get_or F 2 plus_zero) (get_or releases j nan))) ≡ a =
        ap (λ (x : Float). samples_of (length_of rate (add binary32 x (get_or releases j nan)))) two
        ∙ ap (λ (x : Float). samples_of (length_of rate (add binary32 d x))) (sym q)
        ∙ sym f in
        let lasts : samples_of (length_of rate (get_or F 2 plus_zero)) ≡ b = ap (λ (x : Float). samples_of (length_of rate x)) two ∙ sym g in
        let numbers : drop 3 F ≡ drop (3 * (i + 1)) fs = drop-drop 3 (3 * i) fs ∙ ap (λ (k : ℕ). drop k fs) (let z : 3 * i + 3 ≡ 3 * (i + 1) = omega arith in z) in
        let players : drop (suc i) is ≡ drop (i + 1) is = ap (λ (k : ℕ). drop k is) (let z : suc i ≡ i + 1 = omega arith in z) in
        let here =
        ap (λ (js : List ℕ). end_of rate releases start (notes_in F js)) (drop-cons is i 0 l)
        ∙ one_more F j start (drop (suc i) is)
        ∙ ap (λ (k : ℕ). max (start + k) (end_of rate releases (start + samples_of (length_of rate (get_or F 2 plus_zero))) (notes_in (drop 3 F) (drop (suc i) is)))) sounds
        ∙ ap (λ (k : ℕ). max (start + a) (end_of rate releases (start + k) (notes_in (drop 3 F) (drop (suc i) is)))) lasts
        ∙ ap (λ (gs : List Float). max (start + a) (end_of rate releases (start + b) (notes_in gs (drop (suc i) is)))) numbers
        ∙ ap (λ (js : List ℕ). max (start + a) (end_of rate releases (start + b) (notes_in (drop (3 * (i + 1)) fs) js))) players in
        record { short = omega (arith, h, e.short); whole = omega (arith, here, m, e.whole) }

    pub ending_end : length is ≤ i → end ≡ end_of rate releases 0 (notes_in fs is)
    ending_end l =
        let n : end_of rate releases start (notes_in (drop (3 * i) fs) (drop i is)) ≡ 0 =
        ap (λ (js : List ℕ). end_of rate releases start (notes_in (drop (3 * i) fs) js)) (drop_of_length-le is l) ∙ none_more (drop (3 * i) fs) start in
        omega (arith, n, e.whole)
