-- An instrument's header by its ways out: one law for each, which says the answer's number and the table, on every line. Assumes nothing.
use mathlib.Core.Path.{◌≡◌, sym, ap, ap₂, ◌∙◌}
use mathlib.Core.Bool.{true, false, ◌&&◌}
use mathlib.Core.List.{List}
use mathlib.Core.Option.{none, some}
use Rattle.std.specs.Prelude.{Result, Ok, Err}
use Prim.Native.Nat.{ℕ, ◌+◌, ◌*◌, ◌≤◌, ◌<◌, min}
use native.Mathlib.Omega.{arith}
use lib.Dec.{leb, ltb, eqb}
use lib.ListN.{length, take}
use borrow.Author.Tests.{le-leb, lt-leb, lt-ltb, le-ltb, eq-eqb, ne_eqb}
use Rattle.lines.specs.Names.{between, names_in, place_among}
use Rattle.lines.proofs.Places.{between_cut}
use Rattle.sheet.specs.declared.refusal.Refusal.{Refusal}
use Rattle.sheet.specs.declared.refusal.Refusal.TheVariants.{Full, InstrumentTaken}
use Rattle.sheet.specs.Numbers.{number_of as refusal_number}
use Rattle.sheet.specs.Refusals.{Outcome, going, refused, ◌>>◌, refuse◌on◌unless◌}
use Rattle.tables.specs.Named.{place_of}
use Rattle.tables.specs.Tables.{is_none, header_of, header_line, with_entry, number_of, number_told, headers_after, line_from, line_end}
use Rattle.tables.proofs.Taken.{names_many, name_there, name_absent}

-- ---- what a line says, by its tests

module _ (line : ℕ) (name : List ℕ) (names : List (List ℕ)) where
  of_taken : (i : ℕ) → place_of name 1 names ≡ some i → header_of line name names ≡ refused 3 line
  unfolding header_of is_none ◌>>◌ refuse◌on◌unless◌
  of_taken i k = rw k

  module _ (k : place_of name 1 names ≡ none) where
    of_full : 32 ≤ length names + 1 → header_of line name names ≡ refused 21 line
    unfolding header_of is_none ◌>>◌ refuse◌on◌unless◌
    of_full h = let t = le-ltb (length names + 1) 32 h in rw (k, t)

    of_new : length names + 1 < 32 → header_of line name names ≡ going name
    unfolding header_of is_none ◌>>◌ refuse◌on◌unless◌
    of_new h = let t = lt-ltb (length names + 1) 32 h in rw (k, t)

-- ---- the line in its table

module _ (s : List ℕ) (from end count : ℕ) (names : List ℕ) where
  -- what an answer and a table are to be
  abbrev Said : Result (Unit {0}) Refusal → List ℕ → Type 0
  Said r ns =
      ((line : ℕ) → number_told r ≡ number_of (header_line line s from end count names))
      × ((line : ℕ) → ns ≡ headers_after (header_line line s from end count names) s from end count names)

  refused_said : (why : Refusal) → ((line : ℕ) → header_line line s from end count names ≡ refused (refusal_number why) line) → Said (Err why) names
  unfolding number_of headers_after
  refused_said why e =
      (λ line. sym (ap number_of (e line)), λ line. sym (ap (λ (o : Outcome (List ℕ)). headers_after o s from end count names) (e line)))

  going_said : (x ns : List ℕ) → ((line : ℕ) → header_line line s from end count names ≡ going x)
      → ns ≡ with_entry count (line_from s from end) (line_end s end) names → Said (Ok tt) ns
  unfolding number_of headers_after
  going_said x ns e y = (
    λ line. sym (ap number_of (e line)),
    λ line. y ∙ sym (ap (λ (o : Outcome (List ℕ)). headers_after o s from end count names) (e line)),
  )

  -- a table of another size, or with more
  unfit : (leb count 32 && eqb (length names) 64) ≡ false → Said (Err Full) names
  unfolding header_line
  unfit e = refused_said Full (λ line. rw (e, header_line))

  pub header_many : 32 < count → Said (Err Full) names
  header_many h = unfit (let e = lt-leb count 32 h in rw e)

  module _ (few : count ≤ 32) where
    pub header_unnamed : (length names ≡ 64 → ⊥) → Said (Err Full) names
    header_unnamed h = unfit (let e = le-leb count 32 few in let f = ne_eqb (length names) 64 h in rw (e, f))

    module _ (ln : length names ≡ 64) where
      abbrev known : List (List ℕ)
      known = names_in s (take (2 * count) names)

      outcome_is : (line : ℕ) → header_line line s from end count names ≡ header_of line (between s from end) known
      unfolding header_line
      outcome_is line = let e = le-leb count 32 few in let f = eq-eqb (length names) 64 ln in rw (e, f, header_line)

      -- the places of the line, as code comes to them
      module _ (to begin : ℕ) (p : to ≡ min end (length s)) (q : begin ≡ min from to) where
        cut_is : between s begin to ≡ between s from end
        cut_is = between_cut s from end to begin p q

        among_cut : place_among (between s from end) known ≡ place_among (between s begin to) known
        among_cut = sym (ap (λ (x : List ℕ). place_among x known) cut_is)

        pub header_taken : ltb (place_among (between s begin to) known) count ≡ true → Said (Err InstrumentTaken) names
        header_taken t =
            refused_said InstrumentTaken
            (λ line. outcome_is line
            ∙ of_taken line (between s from end) known _
            (name_there s names count (omega (arith, few, ln)) (between s from end) (ap (λ (i : ℕ). ltb i count) among_cut ∙ t)))

        module _ (t : ltb (place_among (between s begin to) known) count ≡ false) where
          absent : place_of (between s from end) 1 known ≡ none
          absent = name_absent s names count (omega (arith, few, ln)) (between s from end) (ap (λ (i : ℕ). ltb i count) among_cut ∙ t)

          many : length known ≡ count
          many = names_many s names count (omega (arith, few, ln))

          pub header_full : 31 ≤ count → Said (Err Full) names
          header_full h = refused_said Full (λ line. outcome_is line ∙ of_full line (between s from end) known absent (omega (arith, h, many)))

          pub header_going : count < 31 → (line : ℕ) → header_line line s from end count names ≡ going (between s from end)
          header_going h line = outcome_is line ∙ of_new line (between s from end) known absent (omega (arith, h, many))

          pub header_new : count < 31 → (ns : List ℕ) → ns ≡ with_entry count begin to names → Said (Ok tt) ns
          header_new h ns y =
              going_said (between s from end) ns (header_going h)
              (y ∙ ap₂ (λ (i j : ℕ). with_entry count i j names) (q ∙ ap (min from) p) p)
