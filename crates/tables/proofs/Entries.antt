-- One more entry of a table, and what an accepted line gave. Assumes nothing.
use mathlib.Core.Path.{◌≡◌, refl, ap, ◌∙◌}
use mathlib.Core.List.{List, [], ◌∷◌, ◌++◌}
use Prim.Native.Nat.{ℕ, suc, ◌+◌, ◌-◌, ◌*◌, ◌<◌}
use native.Mathlib.Omega.{arith}
use lib.ListN.{length, take, drop, set, length-append}
use lib.Seq.{length-take-le, sets-eq, take_at}
use Rattle.lines.specs.Names.{between, names_in}
use Rattle.sheet.specs.Refusals.{Outcome, going, refused}
use Rattle.tables.specs.Named.{Macro, macros_in}
use Rattle.tables.specs.Tables.{with_entry, number_of}

-- ---- one more entry

pub entry_last : (count a b : ℕ) (table : List ℕ) → 2 * count + 1 < length table → take (2 * (count + 1)) (with_entry count a b table) ≡ take (2 * count) table ++ (a ∷ b ∷ [])
unfolding with_entry
entry_last count a b table h =
    let l = length-take-le (2 * count) table (omega (arith, h)) in
    let k = length-append (take (2 * count) table) (a ∷ b ∷ []) in
    ap (take (2 * (count + 1)))
    (ap (λ (k : ℕ). set (set table (2 * count) a) k b) (let z : 2 * count + 1 ≡ suc (2 * count) = omega arith in z)
    ∙ sets-eq (a ∷ b ∷ []) table (2 * count) (omega (arith, h)))
    ∙ take_at (take (2 * count) table ++ (a ∷ b ∷ [])) (drop (2 * count + 2) table) (2 * (count + 1)) (omega (arith, l, k))

pub names_last : (s : List ℕ) (k a b : ℕ) (ns : List ℕ) → length ns ≡ 2 * k → names_in s (ns ++ (a ∷ b ∷ [])) ≡ names_in s ns ++ (between s a b ∷ [])
unfolding names_in
names_last s k a b [] h = refl
names_last s k a b (x ∷ []) h = absurd (omega (arith, h))
names_last s k a b (x ∷ y ∷ ns) h = ap (λ (r : List (List ℕ)). between s x y ∷ r) (names_last s (k - 1) a b ns (omega (arith, h)))

pub macros_last : (s : List ℕ) (k a b e l : ℕ) (ns bs : List ℕ) → length ns ≡ 2 * k → length bs ≡ 2 * k
    → macros_in s (ns ++ (a ∷ b ∷ [])) (bs ++ (e ∷ l ∷ [])) ≡ macros_in s ns bs ++ (record { name = between s a b; body = between s b e; line = l } ∷ [])
unfolding macros_in
macros_last s k a b e l [] [] h i = refl
macros_last s k a b e l [] (u ∷ bs) h i = absurd (omega (arith, h, i))
macros_last s k a b e l (x ∷ []) bs h i = absurd (omega (arith, h))
macros_last s k a b e l (x ∷ y ∷ ns) [] h i = absurd (omega (arith, h, i))
macros_last s k a b e l (x ∷ y ∷ ns) (u ∷ []) h i = absurd (omega (arith, i))
macros_last s k a b e l (x ∷ y ∷ ns) (u ∷ v ∷ bs) h i =
    ap (λ (r : List Macro). record { name = between s x y; body = between s y u; line = v } ∷ r)
    (macros_last s (k - 1) a b e l ns bs (omega (arith, h)) (omega (arith, i)))

-- ---- what an accepted line gave

given : {A : Type 0} → A → Outcome A → A
given x (going y) = y
given x (refused n l) = x

pub same_given : {A : Type 0} (x y : A) → going x ≡ going y → x ≡ y
unfolding given
same_given x y e = ap (given x) e

-- an outcome that goes on has no number of a refusal
pub not_refused : {A B : Type 0} (o : Outcome A) (x : A) → o ≡ going x → (n : ℕ) → 0 < n → n ≡ number_of o → B
unfolding number_of
not_refused o x g n h e = let z : number_of o ≡ 0 = ap number_of g in absurd (omega (arith, h, e, z))
