-- A macro by its name: where its name stands in the table of names there stands its body in the other, and it is the macro of the definition. An
-- instrument by its name likewise. Assumes nothing.
use mathlib.Core.Path.{◌≡◌, refl, sym, ap, ap₂, ◌∙◌}
use mathlib.Core.Bool.{Bool, true, false}
use mathlib.Core.List.{List, [], ◌∷◌}
use mathlib.Core.Option.{none, some}
use Prim.Native.Nat.{ℕ, suc, ◌+◌, ◌*◌, ◌≤◌, ◌<◌}
use native.Mathlib.Omega.{arith}
use lib.ListN.{length, get_or}
use Rattle.text.specs.Characters.{same}
use Rattle.lines.specs.Names.{between, names_in, place_among}
use Rattle.lines.proofs.Places.{among_here, among_past}
use Rattle.tables.specs.Named.{Macro, macro_named, place_of, macros_in}

-- the macro at a place of the two tables
abbrev macro_of : List ℕ → ℕ → ℕ → ℕ → ℕ → Macro
macro_of s a b e l = record { name = between s a b; body = between s b e; line = l }

abbrev pub macro_at : List ℕ → List ℕ → List ℕ → ℕ → Macro
macro_at s ns bs at =
    record {
      name = between s (get_or ns at 0) (get_or ns (at + 1) 0);
      body = between s (get_or ns (at + 1) 0) (get_or bs at 0);
      line = get_or bs (at + 1) 0;
    }

shifted : (x y i j : ℕ) (xs : List ℕ) → i ≡ suc (suc j) → get_or (x ∷ y ∷ xs) i 0 ≡ get_or xs j 0
shifted x y i j xs e = ap (λ (k : ℕ). get_or (x ∷ y ∷ xs) k 0) e

module _ (s name : List ℕ) where
  macro_here : (m : Macro) (ms : List Macro) → same name m.name ≡ true → macro_named name (m ∷ ms) ≡ some m
  unfolding macro_named
  macro_here m ms e = rw (e, macro_named)

  macro_past : (m : Macro) (ms : List Macro) → same name m.name ≡ false → macro_named name (m ∷ ms) ≡ macro_named name ms
  unfolding macro_named
  macro_past m ms e = rw (e, macro_named)

  -- the next macro of longer tables is that of shorter ones
  macro_shifted : (a b e l : ℕ) (ns bs : List ℕ) (i j : ℕ) → i ≡ j + 2 → macro_at s ns bs j ≡ macro_at s (a ∷ b ∷ ns) (e ∷ l ∷ bs) i
  macro_shifted a b e l ns bs i j h =
      let p = shifted a b i j ns (omega (arith, h)) in
      let q = shifted a b (i + 1) (j + 1) ns (omega (arith, h)) in
      let u = shifted e l i j bs (omega (arith, h)) in
      let v = shifted e l (i + 1) (j + 1) bs (omega (arith, h)) in
      sym
      (ap₂ (λ (x y : ℕ). macro_of s x y (get_or (e ∷ l ∷ bs) i 0) (get_or (e ∷ l ∷ bs) (i + 1) 0)) p q
      ∙ ap₂ (λ (x y : ℕ). macro_of s (get_or ns j 0) (get_or ns (j + 1) 0) x y) u v)

  -- found, and its body stands in the other table
  macro_found : (ns bs : List ℕ) → place_among name (names_in s ns) < length (names_in s ns) → 2 * place_among name (names_in s ns) + 1 < length bs
      → macro_named name (macros_in s ns bs) ≡ some (macro_at s ns bs (2 * place_among name (names_in s ns)))
  unfolding names_in macros_in
  macro_found [] bs h k = absurd (omega (arith, h))
  macro_found (a ∷ []) bs h k = absurd (omega (arith, h))
  macro_found (a ∷ b ∷ ns) [] h k = absurd (omega (arith, k))
  macro_found (a ∷ b ∷ ns) (e ∷ []) h k = absurd (omega (arith, k))
  macro_found (a ∷ b ∷ ns) (e ∷ l ∷ bs) h k = go (same name (between s a b)) refl (macro_found ns bs)
    where
      go : (t : Bool) → same name (between s a b) ≡ t
          → (place_among name (names_in s ns) < length (names_in s ns) → 2 * place_among name (names_in s ns) + 1 < length bs
          → macro_named name (macros_in s ns bs) ≡ some (macro_at s ns bs (2 * place_among name (names_in s ns))))
          → macro_named name (macros_in s (a ∷ b ∷ ns) (e ∷ l ∷ bs)) ≡ some (macro_at s (a ∷ b ∷ ns) (e ∷ l ∷ bs) (2 * place_among name (names_in s (a ∷ b ∷ ns))))
      go true q ih =
          let z = among_here name (between s a b) (names_in s ns) q in
          macro_here (macro_of s a b e l) (macros_in s ns bs) q
          ∙ ap (λ (i : ℕ). some (macro_at s (a ∷ b ∷ ns) (e ∷ l ∷ bs) i)) (let y : 0 ≡ 2 * place_among name (between s a b ∷ names_in s ns) = omega (arith, z) in y)
      go false q ih =
          let z = among_past name (between s a b) (names_in s ns) q in
          macro_past (macro_of s a b e l) (macros_in s ns bs) q ∙ ih (omega (arith, h, z)) (omega (arith, k, z))
          ∙ ap some (macro_shifted a b e l ns bs (2 * place_among name (between s a b ∷ names_in s ns)) (2 * place_among name (names_in s ns)) (omega (arith, z)))

  -- not found, or without a body there
  macro_none : (ns bs : List ℕ) → length (names_in s ns) ≤ place_among name (names_in s ns) → macro_named name (macros_in s ns bs) ≡ none
  unfolding names_in macros_in macro_named
  macro_none [] bs h = refl
  macro_none (a ∷ []) bs h = refl
  macro_none (a ∷ b ∷ ns) [] h = refl
  macro_none (a ∷ b ∷ ns) (e ∷ []) h = refl
  macro_none (a ∷ b ∷ ns) (e ∷ l ∷ bs) h = go (same name (between s a b)) refl (macro_none ns bs)
    where
      go : (t : Bool) → same name (between s a b) ≡ t → (length (names_in s ns) ≤ place_among name (names_in s ns) → macro_named name (macros_in s ns bs) ≡ none)
          → macro_named name (macros_in s (a ∷ b ∷ ns) (e ∷ l ∷ bs)) ≡ none
      go true q ih = absurd (omega (arith, h, among_here name (between s a b) (names_in s ns) q))
      go false q ih = macro_past (macro_of s a b e l) (macros_in s ns bs) q ∙ ih (omega (arith, h, among_past name (between s a b) (names_in s ns) q))

  macro_short : (ns bs : List ℕ) → length bs < 2 * place_among name (names_in s ns) + 2 → macro_named name (macros_in s ns bs) ≡ none
  unfolding names_in macros_in macro_named
  macro_short [] bs h = refl
  macro_short (a ∷ []) bs h = refl
  macro_short (a ∷ b ∷ ns) [] h = refl
  macro_short (a ∷ b ∷ ns) (e ∷ []) h = refl
  macro_short (a ∷ b ∷ ns) (e ∷ l ∷ bs) h = go (same name (between s a b)) refl (macro_short ns bs)
    where
      go : (t : Bool) → same name (between s a b) ≡ t → (length bs < 2 * place_among name (names_in s ns) + 2 → macro_named name (macros_in s ns bs) ≡ none)
          → macro_named name (macros_in s (a ∷ b ∷ ns) (e ∷ l ∷ bs)) ≡ none
      go true q ih = absurd (omega (arith, h, among_here name (between s a b) (names_in s ns) q))
      go false q ih = macro_past (macro_of s a b e l) (macros_in s ns bs) q ∙ ih (omega (arith, h, among_past name (between s a b) (names_in s ns) q))

  -- by the place that the code has found
  module _ (ns bs : List ℕ) (place : ℕ) (e : place ≡ place_among name (names_in s ns)) where
    pub macro_known : place < length (names_in s ns) → 2 * place + 1 < length bs → macro_named name (macros_in s ns bs) ≡ some (macro_at s ns bs (2 * place))
    macro_known h k =
        macro_found ns bs (omega (arith, h, e)) (omega (arith, k, e))
        ∙ ap (λ (i : ℕ). some (macro_at s ns bs i)) (let z : 2 * place_among name (names_in s ns) ≡ 2 * place = omega (arith, e) in z)

    pub macro_unknown : length (names_in s ns) ≤ place → macro_named name (macros_in s ns bs) ≡ none
    macro_unknown h = macro_none ns bs (omega (arith, h, e))

    pub macro_bodiless : length bs < 2 * place + 2 → macro_named name (macros_in s ns bs) ≡ none
    macro_bodiless h = macro_short ns bs (omega (arith, h, e))

-- ---- places of names

module _ (name : List ℕ) where
  place_past : (x : List ℕ) (xs : List (List ℕ)) (n : ℕ) → same name x ≡ false → place_of name n (x ∷ xs) ≡ place_of name (n + 1) xs
  unfolding place_of
  place_past x xs n e = rw (e, place_of)

  place_here : (x : List ℕ) (xs : List (List ℕ)) (n : ℕ) → same name x ≡ true → place_of name n (x ∷ xs) ≡ some n
  unfolding place_of
  place_here x xs n e = rw (e, place_of)

  -- the place of a name by how many stand before it
  pub place_found : (xs : List (List ℕ)) (n : ℕ) → place_among name xs < length xs → place_of name n xs ≡ some (place_among name xs + n)
  place_found [] n h = absurd (omega (arith, h))
  place_found (x ∷ xs) n h = go (same name x) refl (place_found xs (n + 1))
    where
      go : (t : Bool) → same name x ≡ t → (place_among name xs < length xs → place_of name (n + 1) xs ≡ some (place_among name xs + (n + 1)))
          → place_of name n (x ∷ xs) ≡ some (place_among name (x ∷ xs) + n)
      go true e ih = place_here x xs n e ∙ ap some (omega (arith, among_here name x xs e))
      go false e ih = place_past x xs n e ∙ ih (omega (arith, h, among_past name x xs e)) ∙ ap some (omega (arith, among_past name x xs e))

  pub place_none : (xs : List (List ℕ)) (n : ℕ) → length xs ≤ place_among name xs → place_of name n xs ≡ none
  unfolding place_of
  place_none [] n h = refl
  place_none (x ∷ xs) n h = go (same name x) refl (place_none xs (n + 1))
    where
      go : (t : Bool) → same name x ≡ t → (length xs ≤ place_among name xs → place_of name (n + 1) xs ≡ none) → place_of name n (x ∷ xs) ≡ none
      go true e ih = absurd (omega (arith, h, among_here name x xs e))
      go false e ih = place_past x xs n e ∙ ih (omega (arith, h, among_past name x xs e))
