-- How many names and macros the first entries of a table are, and whether a name is among them. Assumes nothing.
use mathlib.Core.Path.{◌≡◌, refl, sym, ap, ◌∙◌}
use mathlib.Core.Bool.{true, false}
use mathlib.Core.List.{List, [], ◌∷◌}
use mathlib.Core.Option.{none, some}
use Prim.Native.Nat.{ℕ, suc, ◌+◌, ◌*◌, ◌≤◌}
use native.Mathlib.Omega.{arith}
use lib.Dec.{ltb}
use lib.ListN.{length, take}
use lib.Seq.{length-take-le}
use borrow.Author.Tests.{ltb-true, ltb-false}
use Rattle.lines.specs.Names.{names_in, place_among}
use Rattle.lines.proofs.Places.{names_halved}
use Rattle.tables.specs.Named.{macro_named, place_of, macros_in}
use Rattle.tables.proofs.Named.{macro_at, macro_known, macro_unknown, place_found, place_none}

-- ---- counts

module _ (s names : List ℕ) (count : ℕ) (h : 2 * count ≤ length names) where
  pub names_many : length (names_in s (take (2 * count) names)) ≡ count
  names_many =
      let l = length-take-le (2 * count) names h in
      let k = names_halved s (take (2 * count) names) in
      omega (arith, l, k.low, k.high)

macros_named : (s ns bs : List ℕ) → length ns ≡ length bs → length (macros_in s ns bs) ≡ length (names_in s ns)
unfolding macros_in names_in
macros_named s [] bs h = refl
macros_named s (a ∷ []) bs h = refl
macros_named s (a ∷ b ∷ ns) [] h = absurd (omega (arith, h))
macros_named s (a ∷ b ∷ ns) (e ∷ []) h = absurd (omega (arith, h))
macros_named s (a ∷ b ∷ ns) (e ∷ l ∷ bs) h = ap suc (macros_named s ns bs (omega (arith, h)))

module _ (s names bodies : List ℕ) (count : ℕ) (h : 2 * count ≤ length names) (k : 2 * count ≤ length bodies) where
  pub macros_many : length (macros_in s (take (2 * count) names) (take (2 * count) bodies)) ≡ count
  macros_many =
      macros_named s (take (2 * count) names) (take (2 * count) bodies) (length-take-le (2 * count) names h ∙ sym (length-take-le (2 * count) bodies k))
      ∙ names_many s names count h

  -- ---- names that are taken

  module _ (name : List ℕ) where
    pub macro_there : ltb (place_among name (names_in s (take (2 * count) names))) count ≡ true
        → macro_named name (macros_in s (take (2 * count) names) (take (2 * count) bodies))
        ≡ some (macro_at s (take (2 * count) names) (take (2 * count) bodies) (2 * place_among name (names_in s (take (2 * count) names))))
    macro_there t =
        let l = ltb-true (place_among name (names_in s (take (2 * count) names))) count t in
        macro_known s name (take (2 * count) names) (take (2 * count) bodies) (place_among name (names_in s (take (2 * count) names))) refl
        (omega (arith, l, names_many s names count h))
        (omega (arith, l, length-take-le (2 * count) bodies k))

    pub macro_absent : ltb (place_among name (names_in s (take (2 * count) names))) count ≡ false
        → macro_named name (macros_in s (take (2 * count) names) (take (2 * count) bodies)) ≡ none
    macro_absent t =
        let l = ltb-false (place_among name (names_in s (take (2 * count) names))) count t in
        macro_unknown s name (take (2 * count) names) (take (2 * count) bodies) (place_among name (names_in s (take (2 * count) names))) refl
        (omega (arith, l, names_many s names count h))

module _ (s names : List ℕ) (count : ℕ) (h : 2 * count ≤ length names) (name : List ℕ) where
  pub name_there : ltb (place_among name (names_in s (take (2 * count) names))) count ≡ true
      → place_of name 1 (names_in s (take (2 * count) names)) ≡ some (place_among name (names_in s (take (2 * count) names)) + 1)
  name_there t =
      let l = ltb-true (place_among name (names_in s (take (2 * count) names))) count t in
      place_found name (names_in s (take (2 * count) names)) 1 (omega (arith, l, names_many s names count h))

  pub name_absent : ltb (place_among name (names_in s (take (2 * count) names))) count ≡ false → place_of name 1 (names_in s (take (2 * count) names)) ≡ none
  name_absent t =
      let l = ltb-false (place_among name (names_in s (take (2 * count) names))) count t in
      place_none name (names_in s (take (2 * count) names)) 1 (omega (arith, l, names_many s names count h))
