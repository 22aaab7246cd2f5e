-- What an answer and its columns tell says which they are: the lines that were read tell what stands in front in the
-- columns, and behind that they are as before. So two answers that keep the promise of `read_block` for the same
-- arguments are the same answer, and their columns are the same. Assumes nothing.
use mathlib.Core.Path.{◌≡◌, refl, sym, ap, ap₂, subst, ◌∙◌}
use mathlib.Core.List.{List, [], ◌∷◌}
use Prim.Native.Nat.{ℕ, zero, suc, ◌+◌, ◌*◌, ◌-◌}
use native.Mathlib.Nat.{add-zero}
use native.Mathlib.Omega.{arith}
use lib.ListN.{length, drop, get_or, length-drop}
use lib.Seq.{drop-drop, get_or-drop}
use lib.Ieee.{Float, nan}
use Rattle.lines.specs.Lines.{behind_lines}
use Rattle.tree.specs.Lines.{Line}
use Rattle.std.specs.Prelude.{Option as Optional, Some, None}
use Rattle.sheet.specs.declared.refusal.Refusal.{Refusal}
use Rattle.sheet.specs.Refusals.{going}
use Rattle.sheet.proofs.Outcomes.{going_same, refused_same, going_apart}
use Rattle.strict.specs.declared.mode.Mode.{Mode}
use Rattle.sheet.proofs.Answers.{number_same}
use Rattle.blocks.specs.declared.block.Block.{Block}
use Rattle.blocks.specs.Blocks.{lines_in, block_read, first_read, block_outcome}
use Rattle.blocks.proofs.Kept.{lines_length}
use Rattle.blocks.proofs.Reading.{Answered, block}

-- ---- the answer

-- what two answers have alike
record Alike (r q : Block) : Type 0 where
  refusal : r.refusal ≡ q.refusal
  count : r.count ≡ q.count

alike : (line : ℕ) (fs gs : List Float) (ss ts : List ℕ) (m x : ℕ) (k : Optional Refusal) (n y : ℕ) (j : Optional Refusal)
    → block_outcome line (block m x k) fs ss ≡ block_outcome line (block n y j) gs ts → Alike (block m x k) (block n y j)
unfolding block_outcome
alike line fs gs ss ts m x None n y None e =
    record { refusal = refl; count = sym (lines_length m fs ss) ∙ ap length (going_same _ _ e) ∙ lines_length n gs ts }
alike line fs gs ss ts m x None n y (Some j) e = going_apart _ _ _ e
alike line fs gs ss ts m x (Some k) n y None e = going_apart _ _ _ (sym e)
alike line fs gs ss ts m x (Some k) n y (Some j) e =
    let z = refused_same (List Line) _ _ _ _ e in record { refusal = ap Some (number_same _ _ z.0); count = omega (arith, z.1) }

-- ---- the columns

module _ {A : Type 0} (d : A) where
  one_same : (xs ys : List A) → length xs ≡ length ys → get_or xs 0 d ≡ get_or ys 0 d → drop 1 xs ≡ drop 1 ys → xs ≡ ys
  one_same [] [] l e f = refl
  one_same [] (y ∷ ys) l e f = absurd (omega (arith, l))
  one_same (x ∷ xs) [] l e f = absurd (omega (arith, l))
  one_same (x ∷ xs) (y ∷ ys) l e f = ap₂ (λ (z : A) (zs : List A). z ∷ zs) e f

  -- two lists of a length that are the same behind a place, and at it
  before : (xs ys : List A) → length xs ≡ length ys → (k : ℕ) → get_or xs k d ≡ get_or ys k d
      → drop (k + 1) xs ≡ drop (k + 1) ys → drop k xs ≡ drop k ys
  before xs ys l k e f =
      let first : (zs : List A) → get_or (drop k zs) 0 d ≡ get_or zs k d =
      λ zs. get_or-drop k zs 0 d ∙ ap (λ (j : ℕ). get_or zs j d) (add-zero k) in
      one_same (drop k xs) (drop k ys)
      (length-drop k xs ∙ ap (λ (n : ℕ). n - k) l ∙ sym (length-drop k ys))
      (first xs ∙ e ∙ sym (first ys))
      (drop-drop 1 k xs ∙ f ∙ sym (drop-drop 1 k ys))

-- something of the first of some lines
first_line : {A : Type 0} → A → (Line → A) → List Line → A
first_line d f [] = d
first_line d f (l ∷ ls) = f l

-- the lines tell the front of both columns
columns_same : (n : ℕ) (fs gs : List Float) (ss ts : List ℕ) → length fs ≡ length gs → length ss ≡ length ts
    → lines_in n fs ss ≡ lines_in n gs ts → drop (6 * n) fs ≡ drop (6 * n) gs → drop (2 * n) ss ≡ drop (2 * n) ts
    → (fs ≡ gs) × (ss ≡ ts)
unfolding lines_in first_line
columns_same zero fs gs ss ts l m e f s = (f, s)
columns_same (suc n) fs gs ss ts l m e f s =
    let six : 6 + 6 * n ≡ 6 * suc n = omega arith in
    let two : 2 + 2 * n ≡ 2 * suc n = omega arith in
    let rest =
    columns_same n (drop 6 fs) (drop 6 gs) (drop 2 ss) (drop 2 ts)
    (length-drop 6 fs ∙ ap (λ (k : ℕ). k - 6) l ∙ sym (length-drop 6 gs))
    (length-drop 2 ss ∙ ap (λ (k : ℕ). k - 2) m ∙ sym (length-drop 2 ts))
    (ap (drop 1) e)
    (drop-drop (6 * n) 6 fs ∙ subst (λ (k : ℕ). drop k fs ≡ drop k gs) (sym six) f ∙ sym (drop-drop (6 * n) 6 gs))
    (drop-drop (2 * n) 2 ss ∙ subst (λ (k : ℕ). drop k ss ≡ drop k ts) (sym two) s ∙ sym (drop-drop (2 * n) 2 ts)) in
    let number = before nan fs gs l in
    let place = before 0 ss ts m in (
      number 0 (ap (first_line nan (λ x. x.op.amplitude)) e)
          (number 1 (ap (first_line nan (λ x. x.op.freqratio)) e)
          (number 2 (ap (first_line nan (λ x. x.op.attack)) e)
          (number 3 (ap (first_line nan (λ x. x.op.decay)) e)
          (number 4 (ap (first_line nan (λ x. x.op.sustain)) e)
          (number 5 (ap (first_line nan (λ x. x.op.release)) e) rest.0))))),
      place 0 (ap (first_line 0 (λ x. x.indent)) e) (place 1 (ap (first_line 0 (λ x. x.op.feedback)) e) rest.1),
    )

-- ---- both

-- what `read_block` promises of an answer and of the columns afterwards, in the clauses that tell which they are; a
-- column keeps its length
pub record Promised (mode : Mode) (source : List ℕ) (at : ℕ) (fs₀ : List Float) (ss₀ : List ℕ) (r : Block)
    (fs : List Float) (ss : List ℕ) : Type 0 where
  pub read : (line : ℕ) → block_outcome line r fs ss ≡ block_read mode line (drop at source) (length fs₀) (length ss₀)
  pub place : r.next ≡ behind_lines r.count source at
  pub front : (line : ℕ) → first_read mode line r.count (drop at source) ≡ going (lines_in r.count fs ss)
  pub numbers : drop (6 * r.count) fs ≡ drop (6 * r.count) fs₀
  pub shape : drop (2 * r.count) ss ≡ drop (2 * r.count) ss₀
  pub wide : length fs ≡ length fs₀
  pub high : length ss ≡ length ss₀

-- these are among the clauses of its contract, as its proof has them
pub promised : (mode : Mode) (source : List ℕ) (at : ℕ) (fs₀ : List Float) (ss₀ : List ℕ) (r : Block)
    (fs : List Float) (ss : List ℕ) → Answered mode source at fs₀ ss₀ fs ss r
    → length fs ≡ length fs₀ → length ss ≡ length ss₀ → Promised mode source at fs₀ ss₀ r fs ss
promised mode source at fs₀ ss₀ r fs ss a wide high =
    record {
      read = a.read;
      place = a.place;
      front = a.front;
      numbers = a.rest.0;
      shape = a.rest.1;
      wide = wide;
      high = high;
    }

module _ (mode : Mode) (source : List ℕ) (at : ℕ) (fs₀ : List Float) (ss₀ : List ℕ) (r q : Block)
    (fs gs : List Float) (ss ts : List ℕ)
    (h : Promised mode source at fs₀ ss₀ r fs ss) (k : Promised mode source at fs₀ ss₀ q gs ts) where
  same : Alike r q
  same =
      alike 0 fs gs ss ts r.count r.next r.refusal q.count q.next q.refusal
      (h.read 0 ∙ sym (k.read 0))

  pub block_same : r ≡ q
  block_same =
      ap (λ (n : ℕ). block r.count n r.refusal) h.place
      ∙ ap₂ (λ (c : ℕ) (n : Optional Refusal). block c (behind_lines c source at) n) same.count same.refusal
      ∙ sym (ap (λ (n : ℕ). block q.count n q.refusal) k.place)

  pub columns_alike : (fs ≡ gs) × (ss ≡ ts)
  columns_alike =
      let c = sym same.count in
      columns_same r.count fs gs ss ts (h.wide ∙ sym k.wide) (h.high ∙ sym k.high)
      (going_same _ _
      (sym (h.front 0)
      ∙ subst (λ (n : ℕ). first_read mode 0 n (drop at source) ≡ going (lines_in n gs ts)) c (k.front 0)))
      (h.numbers ∙ sym (subst (λ (n : ℕ). drop (6 * n) gs ≡ drop (6 * n) fs₀) c k.numbers))
      (h.shape ∙ sym (subst (λ (n : ℕ). drop (2 * n) ts ≡ drop (2 * n) ss₀) c k.shape))
