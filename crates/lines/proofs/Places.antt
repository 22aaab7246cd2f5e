-- Names as places in a text: what a table holds from a place on, how a search through it goes on, and that places past the text's end are cut there without a
-- change of what they mean; and a part of a part. Assumes nothing.
use mathlib.Core.Path.{◌≡◌, refl, sym, ap, ap₂, ◌∙◌}
use mathlib.Core.Bool.{Bool, true, false}
use mathlib.Core.List.{List, [], ◌∷◌}
use Prim.Native.Nat.{ℕ, zero, suc, ◌+◌, ◌-◌, ◌*◌, ◌≤◌, ◌<◌, min}
use native.Mathlib.Omega.{arith}
use lib.Dec.{leb}
use lib.ListN.{length, take, drop, get_or, length-drop, drop_of_length-le}
use lib.Seq.{drop-cons, drop-drop, take_all, take-nil, take-take}
use borrow.Author.Tests.{leb-true, leb-false}
use Rattle.text.specs.Characters.{same}
use Rattle.lines.specs.Names.{between, names_in, place_among}

-- ---- places past the end

-- two numbers of elements that are the same, or both no fewer than there are
taken_same : (s : List ℕ) (b e to : ℕ) (t : Bool) → leb e (length s) ≡ t → to ≡ min e (length s) → take (to - b) (drop b s) ≡ take (e - b) (drop b s)
taken_same s b e to true h q = let k = leb-true e (length s) h in ap (λ (n : ℕ). take (n - b) (drop b s)) (let z : to ≡ e = omega (arith, k, q) in z)
taken_same s b e to false h q =
    let k = leb-false e (length s) h in
    let n = length-drop b s in
    take_all (to - b) (drop b s) (omega (arith, k, q, n)) ∙ sym (take_all (e - b) (drop b s) (omega (arith, k, n)))

-- nothing stands from a place past the end, or past the last one
nothing_there : (s : List ℕ) (b e to : ℕ) (t : Bool) → leb e (length s) ≡ t → to ≡ min e (length s) → to < b → take (e - b) (drop b s) ≡ []
nothing_there s b e to true h q l =
    let k = leb-true e (length s) h in
    let z : e - b ≡ 0 = omega (arith, k, q, l) in
    ap (λ (n : ℕ). take n (drop b s)) z
nothing_there s b e to false h q l =
    let k = leb-false e (length s) h in
    ap (take (e - b)) (drop_of_length-le s {i = b} (omega (arith, k, q, l))) ∙ take-nil (e - b)

clamped : (s : List ℕ) (b e to from : ℕ) (t : Bool) → leb b to ≡ t → to ≡ min e (length s) → from ≡ min b to → between s from to ≡ between s b e
clamped s b e to from true h q r =
    let k = leb-true b to h in
    ap (λ (n : ℕ). take (to - n) (drop n s)) (let z : from ≡ b = omega (arith, k, r) in z) ∙ taken_same s b e to (leb e (length s)) refl q
clamped s b e to from false h q r =
    let k = leb-false b to h in
    let z : to - from ≡ 0 = omega (arith, k, r) in
    ap (λ (n : ℕ). take n (drop from s)) z ∙ sym (nothing_there s b e to (leb e (length s)) refl q k)

pub between_cut : (s : List ℕ) (b e to from : ℕ) → to ≡ min e (length s) → from ≡ min b to → between s from to ≡ between s b e
between_cut s b e to from q r = clamped s b e to from (leb b to) refl q r

-- ---- parts of parts

drop_taken : (c n : ℕ) (l : List ℕ) → drop c (take n l) ≡ take (n - c) (drop c l)
drop_taken zero n l = ap (λ (k : ℕ). take k l) (let z : n ≡ n - 0 = omega arith in z)
drop_taken (suc c) zero l = ap (λ (k : ℕ). take k (drop (suc c) l)) (let z : 0 ≡ 0 - suc c = omega arith in z)
drop_taken (suc c) (suc n) [] = sym (take-nil (suc n - suc c))
drop_taken (suc c) (suc n) (x ∷ xs) = drop_taken c n xs ∙ ap (λ (k : ℕ). take k (drop c xs)) (let z : n - c ≡ suc n - suc c = omega arith in z)

pub between_rest : (s : List ℕ) (a e c : ℕ) → drop c (between s a e) ≡ between s (a + c) e
between_rest s a e c =
    drop_taken c (e - a) (drop a s)
    ∙ ap₂ (λ (k : ℕ) (l : List ℕ). take k l) (let z : e - a - c ≡ e - (a + c) = omega arith in z) (drop-drop c a s)

pub between_part : (s : List ℕ) (a e b c : ℕ) → a + c ≤ e → between (between s a e) b c ≡ between s (a + b) (a + c)
between_part s a e b c h =
    ap (take (c - b)) (between_rest s a e b)
    ∙ take-take (c - b) (e - (a + b)) (drop (a + b) s) (omega (arith, h))
    ∙ ap (λ (k : ℕ). take k (drop (a + b) s)) (let z : c - b ≡ a + c - (a + b) = omega arith in z)

-- ---- a table from a place on

one : (xs : List ℕ) (at next : ℕ) → next ≡ at + 1 → at < length xs → drop at xs ≡ get_or xs at 0 ∷ drop next xs
one xs at next e h =
    drop-cons xs at 0 h ∙ ap (λ (j : ℕ). get_or xs at 0 ∷ drop j xs) (let z : suc at ≡ next = omega (arith, e) in z)

pub two : (xs : List ℕ) (at : ℕ) → at + 1 < length xs → drop at xs ≡ get_or xs at 0 ∷ get_or xs (at + 1) 0 ∷ drop (at + 2) xs
two xs at h = one xs at (at + 1) refl (omega arith) ∙ ap (λ (l : List ℕ). get_or xs at 0 ∷ l) (one xs (at + 1) (at + 2) (omega arith) h)

names_few : (s xs : List ℕ) → length xs < 2 → names_in s xs ≡ []
unfolding names_in
names_few s [] h = refl
names_few s (a ∷ []) h = refl
names_few s (a ∷ e ∷ xs) h = absurd (omega arith)

pub names_there : (s places : List ℕ) (at : ℕ) → at + 1 < length places
    → names_in s (drop at places) ≡ between s (get_or places at 0) (get_or places (at + 1) 0) ∷ names_in s (drop (at + 2) places)
unfolding names_in
names_there s places at h = ap (names_in s) (two places at h)

-- ---- a search

-- it has come to a place of the table, with so many names passed
pub record Looked (s places name : List ℕ) (at passed : ℕ) : Type 0 where
  pub within : at ≤ length places
  pub half : 2 * passed ≡ at
  pub left : place_among name (names_in s places) ≡ place_among name (names_in s (drop at places)) + passed

module _ (s places name : List ℕ) where
  pub looked_start : Looked s places name 0 0
  looked_start = record { within = omega arith; half = omega arith; left = omega arith }

  module _ (at passed : ℕ) (g : Looked s places name at passed) where
    here : at + 1 < length places → (t : Bool) → same name (between s (get_or places at 0) (get_or places (at + 1) 0)) ≡ t
        → place_among name (names_in s (drop at places)) ≡ elim t [ true ↦ 0 | false ↦ place_among name (names_in s (drop (at + 2) places)) + 1 ]
    unfolding place_among
    here h t e = ap (place_among name) (names_there s places at h) ∙ rw (e, place_among)

    pub looked_more : at + 1 < length places → same name (between s (get_or places at 0) (get_or places (at + 1) 0)) ≡ false → Looked s places name (at + 2) (passed + 1)
    looked_more h e =
        record { within = omega (arith, h); half = omega (arith, g.half); left = omega (arith, g.left, here h false e) }

    pub looked_found : at + 1 < length places → same name (between s (get_or places at 0) (get_or places (at + 1) 0)) ≡ true → (passed ≡ place_among name (names_in s places)) × (2 * passed ≤ length places)
    looked_found h e = (omega (arith, g.left, here h true e), omega (arith, g.half, g.within))

    pub looked_none : length places - at < 2 → (passed ≡ place_among name (names_in s places)) × (2 * passed ≤ length places)
    unfolding place_among
    looked_none h =
        let z : place_among name (names_in s (drop at places)) ≡ 0 = ap (place_among name) (names_few s (drop at places) (omega (arith, h, length-drop at places))) in
        (omega (arith, g.left, z), omega (arith, g.half, g.within))

-- ---- how many names there are, and how many are passed

pub among_here : (name x : List ℕ) (xs : List (List ℕ)) → same name x ≡ true → place_among name (x ∷ xs) ≡ 0
unfolding place_among
among_here name x xs e = rw (e, place_among)

pub among_past : (name x : List ℕ) (xs : List (List ℕ)) → same name x ≡ false → place_among name (x ∷ xs) ≡ place_among name xs + 1
unfolding place_among
among_past name x xs e = rw (e, place_among)

-- two places each, and one may be left over
pub record Halved (n m : ℕ) : Type 0 where
  pub low : 2 * m ≤ n
  pub high : n ≤ 2 * m + 1

pub names_halved : (s places : List ℕ) → Halved (length places) (length (names_in s places))
unfolding names_in
names_halved s [] = record { low = omega arith; high = omega arith }
names_halved s (a ∷ []) = record { low = omega arith; high = omega arith }
names_halved s (a ∷ e ∷ places) = let h = names_halved s places in record { low = omega (arith, h.low); high = omega (arith, h.high) }
