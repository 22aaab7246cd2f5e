-- The end of a sheet: whether a loop is open in some part, while code goes through the parts, and "at the end 25, 26, 27". Assumes nothing.
use mathlib.Core.Path.{◌≡◌, refl, sym, ap, ◌∙◌}
use mathlib.Core.Bool.{Bool, true, false}
use mathlib.Core.List.{List, [], ◌∷◌, map}
use Prim.Native.Nat.{ℕ, suc, ◌+◌, ◌-◌, ◌≤◌, ◌<◌, min}
use native.Mathlib.Omega.{arith}
use lib.Dec.{leb, eqb}
use lib.ListN.{get_or}
use lib.Ieee.{Float}
use borrow.Author.Tests.{le-leb, lt-leb, eq-eqb, ne_eqb}
use Rattle.tree.specs.Lines.{release_of}
use Rattle.sheet.specs.Refusals.{Outcome, going, refused, ◌>>=◌, ◌>>◌, refuse◌on◌if◌, refuse◌on◌unless◌}
use Rattle.sheet.proofs.Outcomes.{then_going, then_refused}
use Rattle.part.specs.Columns.{loops_in}
use Rattle.bank.specs.Bank.{lines_from}
use Rattle.layout.specs.Layout.{longest_from}
use Rattle.layout.specs.Regions.{region}
use Rattle.meaning.specs.declared.reading.Reading.{Reading}
use Rattle.parser.specs.declared.sofar.Sofar.{Sofar}
use Rattle.meaning.specs.Sheets.{Read, any_open, length_from, length_read, ended}
use Rattle.parser.specs.Columns.{part_at, parts_from, Tables, read_in, read_outcome, Fits}
use Rattle.meaning.specs.Layout.{laid_out}
use Rattle.parser.proofs.Going.{read_going, read_refused}
use Rattle.parser.proofs.Sheeting.{parts_many, parts_longest}

-- ---- open loops

module _ (s places : List ℕ) (q : Sofar) (fs : List Float) (is ls : List ℕ) where
  abbrev open_from : ℕ → ℕ → Bool
  open_from k n = any_open (parts_from s places q fs is ls k n)

  open_by : (k n d : ℕ) → get_or q.depths k 0 ≡ d
      → open_from k (suc n) ≡ elim (loops_in d (region 16 k ls)) [ [] ↦ open_from (k + 1) n | m ∷ ms ↦ true ]
  unfolding any_open parts_from part_at
  open_by k n d e = ap (λ (x : ℕ). elim (loops_in x (region 16 k ls)) [ [] ↦ open_from (k + 1) n | m ∷ ms ↦ true ]) e

  open_here : (k n d : ℕ) → get_or q.depths k 0 ≡ suc d → open_from k (suc n) ≡ true
  unfolding loops_in
  open_here k n d e = open_by k n (suc d) e

  open_later : (k n : ℕ) → get_or q.depths k 0 ≡ 0 → open_from k (suc n) ≡ open_from (k + 1) n
  unfolding loops_in
  open_later k n e = open_by k n 0 e

module _ (depths : List ℕ) (most : ℕ) where
  -- no loop is open in the parts before k
  pub record Shut (k : ℕ) : Type 0 where
    same : (s places : List ℕ) (q : Sofar) (fs : List Float) (is ls : List ℕ) → q.depths ≡ depths
        → open_from s places q fs is ls k (most - k) ≡ open_from s places q fs is ls 0 most

  pub shut_none : Shut 0
  shut_none = record { same = λ s places q fs is ls e. ap (open_from s places q fs is ls 0) (let z : most - 0 ≡ most = omega arith in z) }

  module _ (k : ℕ) (g : Shut k) where
    pub shut_more : k < most → get_or depths k 0 ≡ 0 → Shut (k + 1)
    shut_more h z =
        let m : suc (most - (k + 1)) ≡ most - k = omega arith in
        record {
          same = λ s places q fs is ls e.
              sym (open_later s places q fs is ls k (most - (k + 1)) (ap (λ (ds : List ℕ). get_or ds k 0) e ∙ z))
              ∙ ap (open_from s places q fs is ls k) m
              ∙ g.same s places q fs is ls e;
        }

    module _ (n : ℕ) (m : most ≡ n) (s places : List ℕ) (q : Sofar) (fs : List Float) (is ls : List ℕ) (e : q.depths ≡ depths) where
      pub shut_not : k < most → 0 < get_or depths k 0 → true ≡ open_from s places q fs is ls 0 n
      shut_not h z =
          let d = get_or depths k 0 - 1 in
          let more : suc (most - (k + 1)) ≡ most - k = omega arith in
          let deep : get_or depths k 0 ≡ suc d = omega (arith, z) in
          sym (open_here s places q fs is ls k (most - (k + 1)) d (ap (λ (ds : List ℕ). get_or ds k 0) e ∙ deep))
          ∙ ap (open_from s places q fs is ls k) more
          ∙ g.same s places q fs is ls e
          ∙ ap (open_from s places q fs is ls 0) m

      pub shut_all : most ≤ k → false ≡ open_from s places q fs is ls 0 n
      unfolding any_open parts_from
      shut_all h =
          ap (open_from s places q fs is ls k) (let z : 0 ≡ most - k = omega arith in z)
          ∙ g.same s places q fs is ls e
          ∙ ap (open_from s places q fs is ls 0) m

-- ---- the order of the refusals

-- by the three tests
abbrev judged : Bool → Bool → Bool → Read → Outcome Read
judged empty deep short r = do
  refuse 25 on 0 if empty
  refuse 26 on 0 if deep
  refuse 27 on 0 unless short
  going r

module _ (rate : ℕ) (s places : List ℕ) (q : Sofar) (fs : List Float) (is ls : List ℕ) (t : Tables) where
  abbrev whole : Read
  whole = read_in s places q fs is ls t

  abbrev opens : Bool
  opens = any_open (parts_from s places q fs is ls 0 q.parts)

  judged_so : (a b c : Bool) → eqb q.parts 0 ≡ a → opens ≡ b
      → leb (length_read rate whole) 2000000000 ≡ c → ended rate whole ≡ judged a b c whole
  unfolding ended read_in
  judged_so a b c e f g =
      ap (λ (x : ℕ). judged (eqb x 0) opens (leb (length_read rate whole) 2000000000) whole) (parts_many s places q fs is ls 0 q.parts)
      ∙ ap (λ (x : Bool). judged x opens (leb (length_read rate whole) 2000000000) whole) e
      ∙ ap (λ (x : Bool). judged a x (leb (length_read rate whole) 2000000000) whole) f
      ∙ ap (λ (x : Bool). judged a b x whole) g

  pub ends_none : q.parts ≡ 0 → ended rate whole ≡ refused 25 0
  unfolding ◌>>◌ refuse◌on◌if◌
  ends_none z = judged_so true _ _ (eq-eqb _ _ z) refl refl

  module _ (w : Fits places q fs is ls) (z : q.parts ≡ 0 → ⊥) where
    pub ends_open : true ≡ any_open (parts_from s places q fs is ls 0 (min q.parts 16)) → ended rate whole ≡ refused 26 0
    unfolding ◌>>◌ refuse◌on◌if◌
    ends_open o =
        let n : q.parts ≡ min q.parts 16 = omega (arith, w.few) in
        judged_so false true _ (ne_eqb _ _ z) (ap (λ (k : ℕ). any_open (parts_from s places q fs is ls 0 k)) n ∙ sym o) refl

    module _ (rs : List Float) (end : ℕ) (o : false ≡ any_open (parts_from s places q fs is ls 0 (min q.parts 16))) (m : rs ≡ map release_of (lines_from t.sizes t.numbers t.shape 0 (q.instruments + 1))) (l : end ≡ longest_from q.counts fs is rate rs 0 (min q.parts 16)) where
      shut : opens ≡ false
      shut = ap (λ (k : ℕ). any_open (parts_from s places q fs is ls 0 k)) (let n : q.parts ≡ min q.parts 16 = omega (arith, w.few) in n) ∙ sym o

      length_is : length_read rate whole ≡ end
      unfolding length_read read_in
      length_is =
          ap (λ (xs : List Float). length_from rate xs (parts_from s places q fs is ls 0 q.parts)) (sym m)
          ∙ parts_longest s places q fs is ls rate rs 0 q.parts
          ∙ ap (longest_from q.counts fs is rate rs 0) (let n : q.parts ≡ min q.parts 16 = omega (arith, w.few) in n)
          ∙ sym l

      pub ends_long : 2000000000 < end → ended rate whole ≡ refused 27 0
      unfolding ◌>>◌ refuse◌on◌if◌ refuse◌on◌unless◌
      ends_long h = judged_so false false false (ne_eqb _ _ z) shut (ap (λ (x : ℕ). leb x 2000000000) length_is ∙ lt-leb _ _ h)

      pub ends_well : end ≤ 2000000000 → ended rate whole ≡ going whole
      unfolding ◌>>◌ refuse◌on◌if◌ refuse◌on◌unless◌
      ends_well h = judged_so false false true (ne_eqb _ _ z) shut (ap (λ (x : ℕ). leb x 2000000000) length_is ∙ le-leb _ _ h)

-- ---- the whole

module _ (rate : ℕ) (s places : List ℕ) (q : Sofar) (fs : List Float) (is ls : List ℕ) (t : Tables) (r : Reading) where
  -- what has come of all lines, and then of the end
  abbrev Finished : Type 0
  Finished = r ≡ laid_out (read_outcome s places q fs is ls t >>= (λ x. ended rate x))

  -- a line was refused
  pub finish_refused : (q.refusal ≡ 0 → ⊥) → r ≡ laid_out (refused q.refusal q.line) → Finished
  finish_refused h e =
      e ∙ ap laid_out (sym (then_refused q.refusal q.line _ (λ x. ended rate x) (read_refused s places q fs is ls t q.refusal q.line h)))

  -- all lines were read
  pub finish_read : (o : Outcome Read) → q.refusal ≡ 0 → ended rate (read_in s places q fs is ls t) ≡ o → r ≡ laid_out o → Finished
  finish_read o z f e =
      e ∙ ap laid_out (sym (then_going (read_in s places q fs is ls t) _ (λ x. ended rate x) (read_going s places q fs is ls t z) ∙ f))
