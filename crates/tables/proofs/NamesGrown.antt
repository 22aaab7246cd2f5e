-- After an accepted header the table holds the names before and the new one. Assumes nothing.
use mathlib.Core.Path.{◌≡◌, refl, sym, ap, ◌∙◌}
use mathlib.Core.Bool.{Bool, true, false}
use mathlib.Core.List.{List, [], ◌∷◌, ◌++◌}
use Prim.Native.Nat.{ℕ, ◌+◌, ◌*◌, ◌≤◌, ◌<◌}
use native.Mathlib.Omega.{arith}
use lib.Dec.{leb, ltb, eqb}
use lib.ListN.{length, take}
use lib.Seq.{length-take-le}
use borrow.Author.Tests.{leb-true, leb-false, ltb-true, ltb-false, eqb-true, eqb-false}
use Rattle.lines.specs.Names.{between, names_in, place_among}
use Rattle.lines.proofs.Places.{between_cut}
use Rattle.sheet.specs.Refusals.{Outcome, going}
use Rattle.tables.specs.Tables.{header_line, number_of, headers_after, line_from, line_end}
use Rattle.tables.proofs.Entries.{entry_last, names_last, same_given, not_refused}
use Rattle.tables.proofs.HeaderLines.{header_many, header_unnamed, header_taken, header_full, header_going, header_new}

module _ (line : ℕ) (s : List ℕ) (from end count : ℕ) (names x : List ℕ) (g : header_line line s from end count names ≡ going x) where
  abbrev outcome : Outcome (List ℕ)
  outcome = header_line line s from end count names

  -- what is shown, by the tests of the line one after the other
  abbrev Grown : Type 0
  Grown = names_in s (take (2 * (count + 1)) (headers_after outcome s from end count names)) ≡ names_in s (take (2 * count) names) ++ (x ∷ [])

  -- it was not refused
  never : (n : ℕ) → 0 < n → n ≡ number_of outcome → Grown
  never n h e = not_refused outcome x g n h e

  abbrev begin : ℕ
  begin = line_from s from end

  abbrev to : ℕ
  to = line_end s end

  module _ (few : count ≤ 32) (ln : length names ≡ 64) where
    new : ltb (place_among (between s begin to) (names_in s (take (2 * count) names))) count ≡ false → count < 31 → Grown
    new t h =
        let said = header_new s from end count names few ln to begin refl refl t h _ refl in
        let is = same_given _ _ (sym (header_going s from end count names few ln to begin refl refl t h line) ∙ g) in
        ap (λ (y : List ℕ). names_in s (take (2 * (count + 1)) y)) (sym (said.1 line))
        ∙ ap (names_in s) (entry_last count begin to names (omega (arith, h, ln)))
        ∙ names_last s count begin to (take (2 * count) names) (length-take-le (2 * count) names (omega (arith, h, ln)))
        ∙ ap (λ (y : List ℕ). names_in s (take (2 * count) names) ++ (y ∷ [])) (between_cut s from end to begin refl refl ∙ is)

    full : ltb (place_among (between s begin to) (names_in s (take (2 * count) names))) count ≡ false → (t : Bool) → ltb count 31 ≡ t → Grown
    full q true e = new q (ltb-true count 31 e)
    full q false e = never 21 (omega arith) ((header_full s from end count names few ln to begin refl refl q (ltb-false count 31 e)).0 line)

    taken : (t : Bool) → ltb (place_among (between s begin to) (names_in s (take (2 * count) names))) count ≡ t → Grown
    taken true e = never 3 (omega arith) ((header_taken s from end count names few ln to begin refl refl e).0 line)
    taken false e = full e (ltb count 31) refl

  unnamed : count ≤ 32 → (t : Bool) → eqb (length names) 64 ≡ t → Grown
  unnamed few true e = taken few (eqb-true (length names) 64 e) (ltb (place_among (between s begin to) (names_in s (take (2 * count) names))) count) refl
  unnamed few false e = never 21 (omega arith) ((header_unnamed s from end count names few (eqb-false (length names) 64 e)).0 line)

  many : (t : Bool) → leb count 32 ≡ t → Grown
  many true e = unnamed (leb-true count 32 e) (eqb (length names) 64) refl
  many false e = never 21 (omega arith) ((header_many s from end count names (leb-false count 32 e)).0 line)

  pub names_grown : Grown
  names_grown = many (leb count 32) refl
