-- After an accepted macro's line the tables hold the macros before and the new one. Assumes nothing.
use mathlib.Core.Path.{◌≡◌, refl, sym, ap, ap₂, ◌∙◌}
use mathlib.Core.Bool.{Bool, true, false}
use mathlib.Core.List.{List, [], ◌∷◌, ◌++◌}
use Prim.Native.Nat.{ℕ, ◌+◌, ◌*◌, ◌≤◌, ◌<◌}
use native.Mathlib.Omega.{arith}
use lib.Dec.{leb, ltb, eqb}
use lib.ListN.{length, take}
use lib.Seq.{length-take-le}
use borrow.Author.Tests.{leb-true, leb-false, ltb-true, ltb-false, eqb-true, eqb-false}
use Rattle.lines.specs.declared.names.NameAt.{NameAt}
use Rattle.lines.specs.Names.{between, names_in, place_among}
use Rattle.lines.specs.Tokens.{name_at}
use Rattle.lines.proofs.Places.{between_part, between_rest}
use Rattle.sheet.specs.Refusals.{Outcome, going}
use Rattle.tables.specs.Named.{Macro, macros_in}
use Rattle.tables.specs.Tables.{macro_line, number_of, names_after, bodies_after, line_from, line_end}
use Rattle.tables.proofs.Entries.{entry_last, macros_last, same_given, not_refused}
use Rattle.tables.proofs.MacroLines.{name_ends, macro_many, macro_unnamed, macro_bare, macro_five, macro_taken, macro_full, macro_going, macro_new}

module _ (line : ℕ) (s : List ℕ) (from end count : ℕ) (names bodies : List ℕ) (m : Macro) (g : macro_line line s from end count names bodies ≡ going m) where
  abbrev outcome : Outcome Macro
  outcome = macro_line line s from end count names bodies

  -- what is shown, by the tests of the line one after the other
  abbrev Grown : Type 0
  Grown =
      macros_in s (take (2 * (count + 1)) (names_after outcome s from end count names)) (take (2 * (count + 1)) (bodies_after outcome line s end count bodies))
      ≡ macros_in s (take (2 * count) names) (take (2 * count) bodies) ++ (m ∷ [])

  -- it was not refused
  never : (n : ℕ) → 0 < n → n ≡ number_of outcome → Grown
  never n h e = not_refused outcome m g n h e

  abbrev begin : ℕ
  begin = line_from s from end

  abbrev to : ℕ
  to = line_end s end

  abbrev place : NameAt
  place = name_at (between s begin to)

  abbrev name : List ℕ
  name = between (between s begin to) place.from place.end

  module _ (few : count ≤ 64) (ln : length names ≡ 128) (lb : length bodies ≡ 128) (two : place.two ≡ true) where
    new : ltb (place_among name (names_in s (take (2 * count) names))) count ≡ false → count < 64 → Grown
    new t h =
        let said = macro_new line s from end count names bodies few ln lb to begin refl refl place refl two t h _ _ refl refl in
        let a = begin + place.from in
        let b = begin + place.end in
        let within : b ≤ to = name_ends s begin to place refl (omega arith) in
        let is = same_given _ _ (sym (macro_going line s from end count names bodies few ln lb to begin refl refl place refl two t h) ∙ g) in
        ap₂ (λ (x y : List ℕ). macros_in s (take (2 * (count + 1)) x) (take (2 * (count + 1)) y)) (sym said.1.0) (sym said.1.1)
        ∙ ap₂ (macros_in s) (entry_last count a b names (omega (arith, h, ln))) (entry_last count to line bodies (omega (arith, h, lb)))
        ∙ macros_last s count a b to line (take (2 * count) names) (take (2 * count) bodies)
        (length-take-le (2 * count) names (omega (arith, h, ln)))
        (length-take-le (2 * count) bodies (omega (arith, h, lb)))
        ∙ ap (λ (x : Macro). macros_in s (take (2 * count) names) (take (2 * count) bodies) ++ (x ∷ []))
        (ap₂ (λ (x y : List ℕ). record { name = x; body = y; line = line })
        (sym (between_part s begin to place.from place.end within))
        (sym (between_rest s begin to place.end))
        ∙ is)

    full : ltb (place_among name (names_in s (take (2 * count) names))) count ≡ false → (t : Bool) → ltb count 64 ≡ t → Grown
    full q true e = new q (ltb-true count 64 e)
    full q false e = never 21 (omega arith) (macro_full line s from end count names bodies few ln lb to begin refl refl place refl two q (ltb-false count 64 e)).0

    taken : (t : Bool) → ltb (place_among name (names_in s (take (2 * count) names))) count ≡ t → Grown
    taken true e = never 4 (omega arith) (macro_taken line s from end count names bodies few ln lb to begin refl refl place refl two e).0
    taken false e = full e (ltb count 64) refl

  five : count ≤ 64 → length names ≡ 128 → length bodies ≡ 128 → (t : Bool) → place.two ≡ t → Grown
  five few ln lb true e = taken few ln lb e (ltb (place_among name (names_in s (take (2 * count) names))) count) refl
  five few ln lb false e = never 5 (omega arith) (macro_five line s from end count names bodies few ln lb to begin refl refl place refl e).0

  bare : count ≤ 64 → length names ≡ 128 → (t : Bool) → eqb (length bodies) 128 ≡ t → Grown
  bare few ln true e = five few ln (eqb-true (length bodies) 128 e) place.two refl
  bare few ln false e = never 21 (omega arith) (macro_bare line s from end count names bodies few ln (eqb-false (length bodies) 128 e)).0

  unnamed : count ≤ 64 → (t : Bool) → eqb (length names) 128 ≡ t → Grown
  unnamed few true e = bare few (eqb-true (length names) 128 e) (eqb (length bodies) 128) refl
  unnamed few false e = never 21 (omega arith) (macro_unnamed line s from end count names bodies few (eqb-false (length names) 128 e)).0

  many : (t : Bool) → leb count 64 ≡ t → Grown
  many true e = unnamed (leb-true count 64 e) (eqb (length names) 128) refl
  many false e = never 21 (omega arith) (macro_many line s from end count names bodies (leb-false count 64 e)).0

  pub macros_grown : Grown
  macros_grown = many (leb count 64) refl
