-- Operator lines in their two columns: there are as many as are asked for, only the front of a column tells the first
-- lines, and a line put behind them is one more and leaves what stands behind it. Assumes nothing.
use mathlib.Core.Path.{◌≡◌, refl, sym, ap, ap₂, ◌∙◌}
use mathlib.Core.List.{List, [], ◌∷◌, ◌++◌}
use Prim.Native.Nat.{ℕ, zero, suc, ◌+◌, ◌*◌, ◌≤◌, ◌<◌}
use native.Mathlib.Numerals.{add-one}
use native.Mathlib.Omega.{arith}
use lib.ListN.{length, take, drop, get_or}
use lib.Seq.{drop_at, drop-drop, length-take-le, get_or-take, get_or-drop}
use borrow.Rule.Slice.PartMut.{put_mid}
use Rattle.std.proofs.lemmas.Slice.{take-put_mid_below, drop-put_mid}
use lib.Ieee.{Float, nan}
use Rattle.operator.specs.declared.operator.Operator.{Operator}
use Rattle.tree.specs.Lines.{Line}
use Rattle.blocks.specs.Blocks.{lines_in}

-- ---- a part that is written

module _ {A : Type 0} (l : List A) (at k : ℕ) (vs : List A) (e : length vs ≡ k) (h : at + k ≤ length l) where
  -- it leaves what stands before it, and what is written stands behind that
  written_front : take at (put_mid at k l vs) ≡ take at l
  written_front = take-put_mid_below at k l vs at (omega arith) (omega arith)

  written_rest : drop at (put_mid at k l vs) ≡ vs ++ drop k (drop at l)
  written_rest = drop_at (take at l) (vs ++ drop k (drop at l)) at (length-take-le at l (omega arith))

  -- and behind that is what stood there
  written_behind : (n : ℕ) → at + k ≤ n → drop n (put_mid at k l vs) ≡ drop n l
  written_behind n o = drop-put_mid at k l vs n o (omega arith) e

-- ---- lines

pub lines_length : (n : ℕ) (fs : List Float) (ss : List ℕ) → length (lines_in n fs ss) ≡ n
unfolding lines_in
lines_length zero fs ss = refl
lines_length (suc n) fs ss = ap suc (lines_length n (drop 6 fs) (drop 2 ss))

-- the last of some lines behind the others
lines_last : (n : ℕ) (fs : List Float) (ss : List ℕ) → lines_in (suc n) fs ss ≡ lines_in n fs ss ++ lines_in 1 (drop (6 * n) fs) (drop (2 * n) ss)
unfolding lines_in
lines_last zero fs ss = refl
lines_last (suc n) fs ss =
    let f : drop (6 * n) (drop 6 fs) ≡ drop (6 * suc n) fs =
    drop-drop (6 * n) 6 fs ∙ ap (λ (k : ℕ). drop k fs) (let e : 6 + 6 * n ≡ 6 * suc n = omega arith in e) in
    let s : drop (2 * n) (drop 2 ss) ≡ drop (2 * suc n) ss =
    drop-drop (2 * n) 2 ss ∙ ap (λ (k : ℕ). drop k ss) (let e : 2 + 2 * n ≡ 2 * suc n = omega arith in e) in
    ap (λ (ls : List Line). lines_in 1 fs ss ++ ls)
    (lines_last n (drop 6 fs) (drop 2 ss)
    ∙ ap₂ (λ (gs : List Float) (ts : List ℕ). lines_in n (drop 6 fs) (drop 2 ss) ++ lines_in 1 gs ts) f s)

-- only the numbers of these lines matter
lines_same : (n : ℕ) (fs gs : List Float) (ss ts : List ℕ) → ((j : ℕ) → j < 6 * n → get_or fs j nan ≡ get_or gs j nan)
    → ((j : ℕ) → j < 2 * n → get_or ss j 0 ≡ get_or ts j 0) → lines_in n fs ss ≡ lines_in n gs ts
unfolding lines_in
lines_same zero fs gs ss ts h k = refl
lines_same (suc n) fs gs ss ts h k =
    let rest : lines_in n (drop 6 fs) (drop 2 ss) ≡ lines_in n (drop 6 gs) (drop 2 ts) =
    lines_same n (drop 6 fs) (drop 6 gs) (drop 2 ss) (drop 2 ts)
    (λ j l. get_or-drop 6 fs j nan ∙ h (6 + j) (omega (arith, l)) ∙ sym (get_or-drop 6 gs j nan))
    (λ j l. get_or-drop 2 ss j 0 ∙ k (2 + j) (omega (arith, l)) ∙ sym (get_or-drop 2 ts j 0)) in
    rw (h 0 (omega arith), h 1 (omega arith), h 2 (omega arith), h 3 (omega arith), h 4 (omega arith), h 5 (omega arith), k 0 (omega arith), k 1 (omega arith), rest)

-- so columns with the same front have the same lines
lines_front : (n : ℕ) (fs gs : List Float) (ss ts : List ℕ) → take (6 * n) fs ≡ take (6 * n) gs → take (2 * n) ss ≡ take (2 * n) ts
    → lines_in n fs ss ≡ lines_in n gs ts
lines_front n fs gs ss ts e f =
    lines_same n fs gs ss ts
    (λ j l. sym (get_or-take (6 * n) fs j nan l) ∙ ap (λ (xs : List Float). get_or xs j nan) e ∙ get_or-take (6 * n) gs j nan l)
    (λ j l. sym (get_or-take (2 * n) ss j 0 l) ∙ ap (λ (xs : List ℕ). get_or xs j 0) f ∙ get_or-take (2 * n) ts j 0 l)

-- ---- one line more

-- what is written of a line in each column
abbrev pub six : Operator → List Float
six o = o.amplitude ∷ o.freqratio ∷ o.attack ∷ o.decay ∷ o.sustain ∷ o.release ∷ []

abbrev pub two : ℕ → Operator → List ℕ
two tabs o = tabs ∷ o.feedback ∷ []

module _ (n : ℕ) (fs : List Float) (ss : List ℕ) (tabs : ℕ) (o : Operator) (h : n < 32) (p : 192 ≤ length fs) (q : 64 ≤ length ss) where
  pub one_more : (k j : ℕ) → k ≡ 6 → j ≡ 2
      → lines_in (n + 1) (put_mid (6 * n) k fs (six o)) (put_mid (2 * n) j ss (two tabs o)) ≡ lines_in n fs ss ++ (record { indent = tabs; op = o } ∷ [])
  unfolding lines_in
  one_more k j e f =
      let gs = put_mid (6 * n) k fs (six o) in
      let ts = put_mid (2 * n) j ss (two tabs o) in
      ap (λ (m : ℕ). lines_in m gs ts) (add-one n)
      ∙ lines_last n gs ts
      ∙ ap₂ (λ (xs ys : List Line). xs ++ ys)
      (lines_front n gs fs ts ss (written_front fs (6 * n) k (six o) (sym e) (omega arith)) (written_front ss (2 * n) j (two tabs o) (sym f) (omega arith)))
      (ap₂ (lines_in 1) (written_rest fs (6 * n) k (six o) (sym e) (omega arith)) (written_rest ss (2 * n) j (two tabs o) (sym f) (omega arith)))

  pub numbers_behind : (k : ℕ) → k ≡ 6 → drop (6 * (n + 1)) (put_mid (6 * n) k fs (six o)) ≡ drop (6 * (n + 1)) fs
  numbers_behind k e = written_behind fs (6 * n) k (six o) (sym e) (omega arith) (6 * (n + 1)) (omega arith)

  pub shape_behind : (j : ℕ) → j ≡ 2 → drop (2 * (n + 1)) (put_mid (2 * n) j ss (two tabs o)) ≡ drop (2 * (n + 1)) ss
  shape_behind j f = written_behind ss (2 * n) j (two tabs o) (sym f) (omega arith) (2 * (n + 1)) (omega arith)
