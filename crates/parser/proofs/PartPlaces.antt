-- Laws of the parts that arrays and columns hold: each by its place, how many notes they have together, what they are called, and the list after a change of one
-- part or with one more. Assumes nothing.
use mathlib.Core.Path.{◌≡◌, refl, sym, ap, ap₂, subst, ◌∙◌}
use mathlib.Core.Bool.{Bool, true, false}
use mathlib.Core.List.{List, [], ◌∷◌, ◌++◌}
use Prim.Native.Nat.{ℕ, zero, suc, ◌+◌, ◌*◌, ◌≤◌, ◌<◌}
use native.Mathlib.Omega.{arith}
use lib.Dec.{eqb}
use lib.ListN.{length, take, drop, get_or, set, length-set}
use lib.Seq.{get_or-set_same, get_or-set_other, ext_get_or, length-take-le}
use lib.Ieee.{Float}
use borrow.Author.Tests.{eqb-true, eqb-false}
use Rattle.lines.specs.Names.{between, names_in}
use Rattle.lines.proofs.Places.{two}
use Rattle.sheet.specs.Capacities.{notes_most}
use Rattle.sheet.specs.declared.note.Note.{Note}
use Rattle.columns.proofs.Columns.{notes_length}
use Rattle.layout.specs.Regions.{region}
use Rattle.layout.specs.Layout.{notes_at, notes_from}
use Rattle.layout.proofs.Regions.{region_wide}
use Rattle.parser.specs.declared.sofar.Sofar.{Sofar}
use Rattle.meaning.specs.Parts.{NamedPart, notes_of}
use Rattle.parser.specs.Columns.{part_at, parts_from}
use Rattle.parser.proofs.PartStates.{called_as}

-- ---- elements of lists

-- the same element, whatever stands for one that is missing
pub element_any : {A : Type 0} (xs : List A) (k : ℕ) (d e : A) → k < length xs → get_or xs k d ≡ get_or xs k e
element_any [] k d e h = absurd (omega (arith, h))
element_any (x ∷ xs) zero d e h = refl
element_any (x ∷ xs) (suc k) d e h = element_any xs k d e (omega (arith, h))

-- what holds of the others and of a new element holds after the store
pub element_set : {A : Type 0} (P : A → Type 0) (xs : List A) (k : ℕ) (v d : A) → k < length xs → P v → (j : ℕ) → ((j ≡ k → ⊥) → P (get_or xs j d))
    → P (get_or (set xs k v) j d)
element_set {A} P xs k v d h p j q = go (eqb j k) refl
  where
    go : (t : Bool) → eqb j k ≡ t → P (get_or (set xs k v) j d)
    go true e =
        subst P (sym (ap (λ (i : ℕ). get_or (set xs k v) i d) (eqb-true j k e) ∙ get_or-set_same xs k v d h)) p
    go false e =
        let n = eqb-false j k e in
        subst P (sym (get_or-set_other xs k j v d n)) (q n)

-- ---- the parts

module _ (s places : List ℕ) (r : Sofar) (fs : List Float) (is ls : List ℕ) where
  pub parts_length : (i n : ℕ) → length (parts_from s places r fs is ls i n) ≡ n
  unfolding parts_from
  parts_length i zero = refl
  parts_length i (suc n) = ap suc (parts_length (i + 1) n)

  pub part_of : (d : NamedPart) (i n j : ℕ) → j < n → get_or (parts_from s places r fs is ls i n) j d ≡ part_at s places r fs is ls (i + j)
  unfolding parts_from
  part_of d i zero j h = absurd (omega (arith, h))
  part_of d i (suc n) zero h = ap (part_at s places r fs is ls) (let z : i ≡ i + 0 = omega arith in z)
  part_of d i (suc n) (suc j) h =
      part_of d (i + 1) n j (omega (arith, h)) ∙ ap (part_at s places r fs is ls) (let z : i + 1 + j ≡ i + suc j = omega arith in z)

  pub notes_of_law : (i n : ℕ) → notes_of (parts_from s places r fs is ls i n) ≡ notes_from r.counts fs is i n
  unfolding parts_from notes_of notes_from
  notes_of_law i zero = refl
  notes_of_law i (suc n) = ap (λ (l : List Note). notes_at r.counts fs is i ++ l) (notes_of_law (i + 1) n)

  -- one more at the end
  parts_suc : (i n : ℕ) → parts_from s places r fs is ls i (suc n) ≡ parts_from s places r fs is ls i n ++ (part_at s places r fs is ls (i + n) ∷ [])
  unfolding parts_from
  parts_suc i zero = ap (λ (j : ℕ). part_at s places r fs is ls j ∷ []) (let z : i ≡ i + 0 = omega arith in z)
  parts_suc i (suc n) =
      ap (λ (l : List NamedPart). part_at s places r fs is ls i ∷ l)
      (parts_suc (i + 1) n
      ∙ ap (λ (j : ℕ). parts_from s places r fs is ls (i + 1) n ++ (part_at s places r fs is ls j ∷ [])) (let z : i + 1 + n ≡ i + suc n = omega arith in z))

  pub parts_last : (n : ℕ) → parts_from s places r fs is ls 0 (n + 1) ≡ parts_from s places r fs is ls 0 n ++ (part_at s places r fs is ls n ∷ [])
  parts_last n =
      ap (parts_from s places r fs is ls 0) (let z : n + 1 ≡ suc n = omega arith in z) ∙ parts_suc 0 n
      ∙ ap (λ (j : ℕ). parts_from s places r fs is ls 0 n ++ (part_at s places r fs is ls j ∷ [])) (let z : 0 + n ≡ n = omega arith in z)

  -- their names are those of the table
  pub parts_called : (i n : ℕ) → 2 * (i + n) ≤ length places → called_as (parts_from s places r fs is ls i n) ≡ names_in s (take (2 * n) (drop (2 * i) places))
  unfolding parts_from called_as names_in
  parts_called i zero h = refl
  parts_called i (suc n) h =
      ap (λ (l : List (List ℕ)). between s (get_or places (2 * i) 0) (get_or places (2 * i + 1) 0) ∷ l)
      (parts_called (i + 1) n (omega (arith, h)) ∙ ap (λ (j : ℕ). names_in s (take (2 * n) (drop j places))) (let z : 2 * (i + 1) ≡ 2 * i + 2 = omega arith in z))
      ∙ ap (names_in s)
      (sym
      (ap₂ (λ (m : ℕ) (l : List ℕ). take m l) (let z : 2 * suc n ≡ suc (suc (2 * n)) = omega arith in z) (two places (2 * i) (omega (arith, h)))))

  -- how many notes a part has
  pub notes_many : (k : ℕ) → get_or r.counts k 0 ≤ notes_most → notes_most * k + notes_most ≤ length is → length (notes_at r.counts fs is k) ≡ get_or r.counts k 0
  unfolding notes_at
  notes_many k h l =
      notes_length (region (3 * notes_most) k fs) (take (get_or r.counts k 0) (region notes_most k is))
      ∙ length-take-le (get_or r.counts k 0) (region notes_most k is) (omega (arith, h, region_wide notes_most k is l))

-- ---- two readings

module _ (s : List ℕ) (places : List ℕ) (r : Sofar) (fs : List Float) (is ls : List ℕ) (places' : List ℕ) (r' : Sofar) (gs : List Float) (js ms : List ℕ) where
  -- they have the same parts where each has the same
  pub parts_same : (i n : ℕ) → ((j : ℕ) → j < i + n → part_at s places' r' gs js ms j ≡ part_at s places r fs is ls j)
      → parts_from s places' r' gs js ms i n ≡ parts_from s places r fs is ls i n
  unfolding parts_from
  parts_same i zero e = refl
  parts_same i (suc n) e =
      ap₂ (λ (p : NamedPart) (ps : List NamedPart). p ∷ ps) (e i (omega arith)) (parts_same (i + 1) n (λ j h. e j (omega (arith, h))))

  -- and the same but for one
  pub parts_but : (n k : ℕ) (x : NamedPart) → k < n → part_at s places' r' gs js ms k ≡ x
      → ((j : ℕ) → (j ≡ k → ⊥) → part_at s places' r' gs js ms j ≡ part_at s places r fs is ls j)
      → set (parts_from s places r fs is ls 0 n) k x ≡ parts_from s places' r' gs js ms 0 n
  parts_but n k x h e o =
      ext_get_or x (set (parts_from s places r fs is ls 0 n) k x) (parts_from s places' r' gs js ms 0 n)
      (length-set (parts_from s places r fs is ls 0 n) k x ∙ parts_length s places r fs is ls 0 n ∙ sym (parts_length s places' r' gs js ms 0 n))
      (λ j l. one j (omega (arith, l, length-set (parts_from s places r fs is ls 0 n) k x, parts_length s places r fs is ls 0 n)))
    where
      there : (j : ℕ) → j < n → get_or (parts_from s places' r' gs js ms 0 n) j x ≡ part_at s places' r' gs js ms j
      there j l = part_of s places' r' gs js ms x 0 n j l ∙ ap (part_at s places' r' gs js ms) (let z : 0 + j ≡ j = omega arith in z)

      one : (j : ℕ) → j < n → get_or (set (parts_from s places r fs is ls 0 n) k x) j x ≡ get_or (parts_from s places' r' gs js ms 0 n) j x
      one j l = go (eqb j k) refl ∙ sym (there j l)
        where
          go : (t : Bool) → eqb j k ≡ t → get_or (set (parts_from s places r fs is ls 0 n) k x) j x ≡ part_at s places' r' gs js ms j
          go true q =
              let z = eqb-true j k q in
              ap (λ (i : ℕ). get_or (set (parts_from s places r fs is ls 0 n) k x) i x) z
              ∙ get_or-set_same (parts_from s places r fs is ls 0 n) k x x (omega (arith, h, parts_length s places r fs is ls 0 n))
              ∙ sym e ∙ ap (part_at s places' r' gs js ms) (sym z)
          go false q =
              let u = eqb-false j k q in
              get_or-set_other (parts_from s places r fs is ls 0 n) k j x x u
              ∙ part_of s places r fs is ls x 0 n j l ∙ ap (part_at s places r fs is ls) (let z : 0 + j ≡ j = omega arith in z)
              ∙ sym (o j u)
