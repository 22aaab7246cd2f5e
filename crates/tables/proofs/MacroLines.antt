-- A macro's line by its ways out: one law for each, which says the answer's number and both tables. Assumes nothing.
use mathlib.Core.Path.{◌≡◌, sym, ap, ap₂, subst, ◌∙◌}
use mathlib.Core.Bool.{true, false, ◌&&◌}
use mathlib.Core.List.{List}
use mathlib.Core.Option.{none, some}
use Rattle.std.specs.Prelude.{Result, Ok, Err}
use Prim.Native.Nat.{ℕ, ◌+◌, ◌-◌, ◌*◌, ◌≤◌, ◌<◌, min}
use native.Mathlib.Omega.{arith}
use lib.Dec.{leb, ltb, eqb}
use lib.ListN.{length, take, drop, length-take}
use borrow.Author.Tests.{le-leb, lt-leb, lt-ltb, le-ltb, eq-eqb, ne_eqb}
use Rattle.lines.specs.declared.names.NameAt.{NameAt}
use Rattle.lines.specs.Names.{between, names_in, place_among}
use Rattle.lines.specs.Tokens.{Named, named_of, name_at, named_by}
use Rattle.lines.proofs.Places.{between_cut}
use Rattle.lines.proofs.Named.{named_is, name_within}
use Rattle.sheet.specs.declared.refusal.Refusal.{Refusal}
use Rattle.sheet.specs.declared.refusal.Refusal.TheVariants.{Full, MacroIncomplete, MacroTaken}
use Rattle.sheet.specs.Numbers.{number_of as refusal_number}
use Rattle.sheet.specs.Refusals.{Outcome, going, refused, ◌>>=◌, ◌>>◌, refuse◌on◌unless◌, refuse◌on◌without◌}
use Rattle.tables.specs.Named.{Macro, macro_named, macros_in}
use Rattle.tables.specs.Tables.{is_none, macro_of, macro_line, with_entry, number_of, number_told, names_after, bodies_after, line_from, line_end}
use Rattle.tables.proofs.Taken.{macros_many, macro_there, macro_absent}

-- ---- where a line's name stands

module _ (s : List ℕ) (begin to : ℕ) (n : NameAt) (k : n ≡ name_at (between s begin to)) where
  pub name_places : (n.from ≤ n.end) × (n.end ≤ length (between s begin to))
  unfolding name_at
  name_places = subst (λ (u : NameAt). (u.from ≤ u.end) × (u.end ≤ length (between s begin to))) (sym k) (name_within (between s begin to))

  pub name_ends : begin ≤ to → begin + n.end ≤ to
  name_ends h = omega (arith, h, name_places.1, length-take (to - begin) (drop begin s))

-- ---- what a line says, by its tests

module _ (line : ℕ) (l : List ℕ) (ms : List Macro) where
  of_five : named_of l ≡ none → macro_of line l ms ≡ refused 5 line
  unfolding macro_of ◌>>=◌ refuse◌on◌without◌
  of_five e = rw e

  module _ (n : Named) (e : named_of l ≡ some n) where
    of_taken : (m : Macro) → macro_named n.name ms ≡ some m → macro_of line l ms ≡ refused 4 line
    unfolding macro_of is_none ◌>>=◌ ◌>>◌ refuse◌on◌without◌ refuse◌on◌unless◌
    of_taken m k = rw (e, k)

    module _ (k : macro_named n.name ms ≡ none) where
      of_full : 64 ≤ length ms → macro_of line l ms ≡ refused 21 line
      unfolding macro_of is_none ◌>>=◌ ◌>>◌ refuse◌on◌without◌ refuse◌on◌unless◌
      of_full h = let t = le-ltb (length ms) 64 h in rw (e, k, t)

      of_new : length ms < 64 → macro_of line l ms ≡ going (record { name = n.name; body = n.body; line = line })
      unfolding macro_of is_none ◌>>=◌ ◌>>◌ refuse◌on◌without◌ refuse◌on◌unless◌
      of_new h = let t = lt-ltb (length ms) 64 h in rw (e, k, t)

-- ---- the line in its tables

module _ (line : ℕ) (s : List ℕ) (from end count : ℕ) (names bodies : List ℕ) where
  abbrev outcome : Outcome Macro
  outcome = macro_line line s from end count names bodies

  -- what an answer and two tables are to be
  abbrev Said : Result (Unit {0}) Refusal → List ℕ → List ℕ → Type 0
  Said r ns bs = (number_told r ≡ number_of outcome) × ((ns ≡ names_after outcome s from end count names) × (bs ≡ bodies_after outcome line s end count bodies))

  refused_said : (why : Refusal) → outcome ≡ refused (refusal_number why) line → Said (Err why) names bodies
  unfolding number_of names_after bodies_after
  refused_said why e = (
    sym (ap number_of e),
    (
      sym (ap (λ (o : Outcome Macro). names_after o s from end count names) e),
      sym (ap (λ (o : Outcome Macro). bodies_after o line s end count bodies) e),
    ),
  )

  going_said : (m : Macro) (ns bs : List ℕ) → outcome ≡ going m
      → ns ≡ with_entry count (line_from s from end + (name_at (between s from end)).from) (line_from s from end + (name_at (between s from end)).end) names
      → bs ≡ with_entry count (line_end s end) line bodies → Said (Ok tt) ns bs
  unfolding number_of names_after bodies_after
  going_said m ns bs e x y = (
    sym (ap number_of e),
    (
      x ∙ sym (ap (λ (o : Outcome Macro). names_after o s from end count names) e),
      y ∙ sym (ap (λ (o : Outcome Macro). bodies_after o line s end count bodies) e),
    ),
  )

  -- tables of another size, or with more
  unfit : (leb count 64 && (eqb (length names) 128 && eqb (length bodies) 128)) ≡ false → Said (Err Full) names bodies
  unfolding macro_line
  unfit e = refused_said Full (rw (e, macro_line))

  pub macro_many : 64 < count → Said (Err Full) names bodies
  macro_many h = unfit (let e = lt-leb count 64 h in rw e)

  module _ (few : count ≤ 64) where
    pub macro_unnamed : (length names ≡ 128 → ⊥) → Said (Err Full) names bodies
    macro_unnamed h = unfit (let e = le-leb count 64 few in let f = ne_eqb (length names) 128 h in rw (e, f))

    module _ (ln : length names ≡ 128) where
      pub macro_bare : (length bodies ≡ 128 → ⊥) → Said (Err Full) names bodies
      macro_bare h =
          unfit
          (let e = le-leb count 64 few in let f = eq-eqb (length names) 128 ln in let g = ne_eqb (length bodies) 128 h in rw (e, f, g))

      module _ (lb : length bodies ≡ 128) where
        abbrev macros : List Macro
        macros = macros_in s (take (2 * count) names) (take (2 * count) bodies)

        outcome_is : outcome ≡ macro_of line (between s from end) macros
        unfolding macro_line
        outcome_is =
            let e = le-leb count 64 few in
            let f = eq-eqb (length names) 128 ln in
            let g = eq-eqb (length bodies) 128 lb in
            rw (e, f, g, macro_line)

        -- the places of the line and of its name, as code comes to them
        module _ (to begin : ℕ) (p : to ≡ min end (length s)) (q : begin ≡ min from to) (n : NameAt) (k : n ≡ name_at (between s begin to)) where
          cut_is : between s begin to ≡ between s from end
          cut_is = between_cut s from end to begin p q

          named : named_of (between s from end) ≡ named_by (between s begin to) n
          named = sym (ap named_of cut_is) ∙ sym (named_is (between s begin to)) ∙ ap (named_by (between s begin to)) (sym k)

          pub macro_five : n.two ≡ false → Said (Err MacroIncomplete) names bodies
          unfolding named_by
          macro_five e = refused_said MacroIncomplete (outcome_is ∙ of_five line (between s from end) macros (named ∙ rw e))

          module _ (e : n.two ≡ true) where
            abbrev name : List ℕ
            name = between (between s begin to) n.from n.end

            named_two : named_of (between s from end) ≡ some (record { name = name; body = drop n.end (between s begin to) })
            unfolding named_by
            named_two = named ∙ rw e

            pub macro_taken : ltb (place_among name (names_in s (take (2 * count) names))) count ≡ true → Said (Err MacroTaken) names bodies
            macro_taken t =
                refused_said MacroTaken
                (outcome_is
                ∙ of_taken line (between s from end) macros _ named_two _ (macro_there s names bodies count (omega (arith, few, ln)) (omega (arith, few, lb)) name t))

            module _ (t : ltb (place_among name (names_in s (take (2 * count) names))) count ≡ false) where
              absent : macro_named name macros ≡ none
              absent = macro_absent s names bodies count (omega (arith, few, ln)) (omega (arith, few, lb)) name t

              many : length macros ≡ count
              many = macros_many s names bodies count (omega (arith, few, ln)) (omega (arith, few, lb))

              pub macro_full : 64 ≤ count → Said (Err Full) names bodies
              macro_full h = refused_said Full (outcome_is ∙ of_full line (between s from end) macros _ named_two absent (omega (arith, h, many)))

              pub macro_going : count < 64 → outcome ≡ going (record { name = name; body = drop n.end (between s begin to); line = line })
              macro_going h = outcome_is ∙ of_new line (between s from end) macros _ named_two absent (omega (arith, h, many))

              pub macro_new : count < 64 → (ns bs : List ℕ) → ns ≡ with_entry count (begin + n.from) (begin + n.end) names → bs ≡ with_entry count to line bodies
                  → Said (Ok tt) ns bs
              macro_new h ns bs x y =
                  let w : n ≡ name_at (between s from end) = k ∙ ap name_at cut_is in
                  let b : begin ≡ line_from s from end = q ∙ ap (min from) p in
                  going_said _ ns bs (macro_going h)
                  (x
                  ∙ ap₂ (λ (i j : ℕ). with_entry count i j names) (ap₂ (λ (i : ℕ) (u : NameAt). i + u.from) b w) (ap₂ (λ (i : ℕ) (u : NameAt). i + u.end) b w))
                  (y ∙ ap (λ (i : ℕ). with_entry count i line bodies) p)
