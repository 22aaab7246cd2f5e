-- Laws of parts in a list: which one a name finds, what a change of the one does to the list and to the number of all notes, and that a line for a new name is
-- a line for a part that has nothing yet. Assumes nothing.
use mathlib.Core.Path.{◌≡◌, refl, sym, ap, ap₂, fun_ext, ◌∙◌}
use mathlib.Core.Bool.{Bool, true, false, ◌&&◌}
use mathlib.Core.List.{List, [], ◌∷◌, ◌++◌}
use mathlib.Core.Option.{none, some}
use Prim.Native.Nat.{ℕ, zero, suc, ◌+◌, ◌-◌, ◌≤◌, ◌<◌}
use native.Mathlib.Omega.{arith}
use lib.Dec.{ltb}
use lib.ListN.{length, get_or, set, length-append}
use borrow.Author.Tests.{eq-eqb, lt-ltb}
use Rattle.text.specs.Characters.{same}
use Rattle.lines.specs.Names.{place_among}
use Rattle.lines.proofs.Places.{among_here, among_past}
use Rattle.sheet.specs.Capacities.{parts_most}
use Rattle.sheet.specs.Refusals.{Outcome, going, refused, ◌>>=◌, ◌>>◌, refuse◌on◌unless◌}
use Rattle.sheet.specs.declared.note.Note.{Note}
use Rattle.sheet.proofs.Outcomes.{then_going, then_refused}
use Rattle.environment.specs.declared.environment.Environment.{Environment}
use Rattle.part.specs.Body.{Part, Book, Progress, body_read}
use Rattle.meaning.specs.Parts.{NamedPart, Played, notes_of, part_named, with_part_named, part_of, line_played}
use Rattle.parser.proofs.PartStates.{called_as}

pub same_self : (s : List ℕ) → same s s ≡ true
unfolding same
same_self [] = refl
same_self (a ∷ s) = ap₂ (λ (x y : Bool). x && y) (eq-eqb a a refl) (same_self s)

pub called_length : (ps : List NamedPart) → length (called_as ps) ≡ length ps
unfolding called_as
called_length [] = refl
called_length (p ∷ ps) = ap suc (called_length ps)

pub called_last : (ps : List NamedPart) (x : NamedPart) → called_as (ps ++ (x ∷ [])) ≡ called_as ps ++ (x.name ∷ [])
unfolding called_as
called_last [] x = refl
called_last (p ∷ ps) x = ap (λ (l : List (List ℕ)). p.name ∷ l) (called_last ps x)

-- ---- the place of a name

module _ (name : List ℕ) where
  pub among_most : (xs : List (List ℕ)) → place_among name xs ≤ length xs
  unfolding place_among
  among_most [] = omega arith
  among_most (x ∷ xs) = go (same name x) refl (among_most xs)
    where
      go : (t : Bool) → same name x ≡ t → place_among name xs ≤ length xs → place_among name (x ∷ xs) ≤ length (x ∷ xs)
      go true e h = omega (arith, among_here name x xs e)
      go false e h = omega (arith, h, among_past name x xs e)

  -- the name of one more
  pub among_last : (x : List ℕ) (xs : List (List ℕ)) → same name x ≡ true → place_among name xs ≡ length xs → place_among name (xs ++ (x ∷ [])) ≡ length xs
  among_last x [] e h = among_here name x [] e
  among_last x (y ∷ ys) e h = go (same name y) refl (among_last x ys e)
    where
      go : (t : Bool) → same name y ≡ t → (place_among name ys ≡ length ys → place_among name (ys ++ (x ∷ [])) ≡ length ys)
          → place_among name (y ∷ (ys ++ (x ∷ []))) ≡ suc (length ys)
      go true q ih = absurd (omega (arith, h, among_here name y ys q))
      go false q ih =
          let p = among_past name y ys q in
          let i = ih (omega (arith, h, p)) in
          let l = among_past name y (ys ++ (x ∷ [])) q in
          omega (arith, i, l)

  -- ---- what it finds

  named_here : (p : NamedPart) (ps : List NamedPart) → same name p.name ≡ true → part_named name (p ∷ ps) ≡ some p.part
  unfolding part_named
  named_here p ps e = rw (e, part_named)

  named_past : (p : NamedPart) (ps : List NamedPart) → same name p.name ≡ false → part_named name (p ∷ ps) ≡ part_named name ps
  unfolding part_named
  named_past p ps e = rw (e, part_named)

  with_here : (v : Part) (p : NamedPart) (ps : List NamedPart) → same name p.name ≡ true
      → with_part_named name v (p ∷ ps) ≡ record { name = p.name; part = v } ∷ ps
  unfolding with_part_named
  with_here v p ps e = rw (e, with_part_named)

  with_past : (v : Part) (p : NamedPart) (ps : List NamedPart) → same name p.name ≡ false → with_part_named name v (p ∷ ps) ≡ p ∷ with_part_named name v ps
  unfolding with_part_named
  with_past v p ps e = rw (e, with_part_named)

  -- the part at the name's place
  pub named_there : (d : NamedPart) (ps : List NamedPart) → place_among name (called_as ps) < length ps
      → part_named name ps ≡ some (get_or ps (place_among name (called_as ps)) d).part
  unfolding called_as
  named_there d [] h = absurd (omega (arith, h))
  named_there d (p ∷ ps) h = go (same name p.name) refl (named_there d ps)
    where
      go : (t : Bool) → same name p.name ≡ t
          → (place_among name (called_as ps) < length ps → part_named name ps ≡ some (get_or ps (place_among name (called_as ps)) d).part)
          → part_named name (p ∷ ps) ≡ some (get_or (p ∷ ps) (place_among name (p.name ∷ called_as ps)) d).part
      go true e ih =
          named_here p ps e
          ∙ ap (λ (i : ℕ). some (get_or (p ∷ ps) i d).part) (sym (among_here name p.name (called_as ps) e))
      go false e ih =
          let z = among_past name p.name (called_as ps) e in
          named_past p ps e ∙ ih (omega (arith, h, z))
          ∙ ap (λ (i : ℕ). some (get_or (p ∷ ps) i d).part) (let y : suc (place_among name (called_as ps)) ≡ place_among name (p.name ∷ called_as ps) = omega (arith, z) in y)

  -- is replaced there
  abbrev put_at : Part → NamedPart → List NamedPart → ℕ → List NamedPart
  put_at v d ps i = set ps i (record { name = (get_or ps i d).name; part = v })

  pub with_there : (v : Part) (d : NamedPart) (ps : List NamedPart) → place_among name (called_as ps) < length ps
      → with_part_named name v ps
      ≡ put_at v d ps (place_among name (called_as ps))
  unfolding called_as
  with_there v d [] h = absurd (omega (arith, h))
  with_there v d (p ∷ ps) h = go (same name p.name) refl (with_there v d ps)
    where
      go : (t : Bool) → same name p.name ≡ t
          → (place_among name (called_as ps) < length ps → with_part_named name v ps ≡ put_at v d ps (place_among name (called_as ps)))
          → with_part_named name v (p ∷ ps) ≡ put_at v d (p ∷ ps) (place_among name (p.name ∷ called_as ps))
      go true e ih = with_here v p ps e ∙ ap (put_at v d (p ∷ ps)) (sym (among_here name p.name (called_as ps) e))
      go false e ih =
          let z = among_past name p.name (called_as ps) e in
          with_past v p ps e ∙ ap (λ (l : List NamedPart). p ∷ l) (ih (omega (arith, h, z)))
          ∙ ap (put_at v d (p ∷ ps)) (let y : suc (place_among name (called_as ps)) ≡ place_among name (p.name ∷ called_as ps) = omega (arith, z) in y)

  -- ---- a new name

  module _ (x : NamedPart) (is-it : same name x.name ≡ true) where
    pub named_none : (ps : List NamedPart) → place_among name (called_as ps) ≡ length ps
        → (part_named name ps ≡ none) × (part_named name (ps ++ (x ∷ [])) ≡ some x.part)
    unfolding called_as part_named
    named_none [] h = (refl, named_here x [] is-it)
    named_none (p ∷ ps) h = go (same name p.name) refl (named_none ps)
      where
        go : (t : Bool) → same name p.name ≡ t
            → (place_among name (called_as ps) ≡ length ps → (part_named name ps ≡ none) × (part_named name (ps ++ (x ∷ [])) ≡ some x.part))
            → (part_named name (p ∷ ps) ≡ none) × (part_named name (p ∷ (ps ++ (x ∷ []))) ≡ some x.part)
        go true e ih = absurd (omega (arith, h, among_here name p.name (called_as ps) e))
        go false e ih =
            let i = ih (omega (arith, h, among_past name p.name (called_as ps) e)) in
            (named_past p ps e ∙ i.0, named_past p (ps ++ (x ∷ [])) e ∙ i.1)

    pub with_new_law : (v : Part) (ps : List NamedPart) → x.name ≡ name → place_among name (called_as ps) ≡ length ps
        → with_part_named name v ps ≡ with_part_named name v (ps ++ (x ∷ []))
    unfolding called_as with_part_named
    with_new_law v [] n h = ap (λ (y : List ℕ). record { name = y; part = v } ∷ []) (sym n) ∙ sym (with_here v x [] is-it)
    with_new_law v (p ∷ ps) n h = go (same name p.name) refl (with_new_law v ps n)
      where
        go : (t : Bool) → same name p.name ≡ t → (place_among name (called_as ps) ≡ length ps → with_part_named name v ps ≡ with_part_named name v (ps ++ (x ∷ [])))
            → with_part_named name v (p ∷ ps) ≡ with_part_named name v (p ∷ (ps ++ (x ∷ [])))
        go true e ih = absurd (omega (arith, h, among_here name p.name (called_as ps) e))
        go false e ih =
            let i = ih (omega (arith, h, among_past name p.name (called_as ps) e)) in
            with_past v p ps e ∙ ap (λ (l : List NamedPart). p ∷ l) i ∙ sym (with_past v p (ps ++ (x ∷ [])) e)

-- ---- notes

pub notes_last : (ps : List NamedPart) (x : NamedPart) → x.part.notes ≡ [] → notes_of (ps ++ (x ∷ [])) ≡ notes_of ps
unfolding notes_of
notes_last [] x e = ap (λ (l : List Note). l ++ []) e
notes_last (p ∷ ps) x e = ap (λ (l : List Note). p.part.notes ++ l) (notes_last ps x e)

-- a part in the place of another
pub notes_set : (d x : NamedPart) (ps : List NamedPart) (k : ℕ) → k < length ps
    → length (notes_of (set ps k x)) + length (get_or ps k d).part.notes ≡ length (notes_of ps) + length x.part.notes
unfolding notes_of
notes_set d x [] k h = absurd (omega (arith, h))
notes_set d x (p ∷ ps) zero h =
    omega (arith, length-append x.part.notes (notes_of ps), length-append p.part.notes (notes_of ps))
notes_set d x (p ∷ ps) (suc k) h =
    let i = notes_set d x ps k (omega (arith, h)) in
    omega (arith, i, length-append p.part.notes (notes_of (set ps k x)), length-append p.part.notes (notes_of ps))

-- ---- the line of a part

-- a part that has nothing yet
abbrev pub fresh : Environment → List ℕ → NamedPart
fresh start name = record { name = name; part = record { env = start; notes = []; loops = [] } }

-- how a body begins, and what follows it
abbrev pub begun : List NamedPart → ℕ → Part → Progress
begun ps steps v = record { part = v; others = length (notes_of ps) - length v.notes; steps = steps }

abbrev pub ended : List ℕ → List NamedPart → Progress → Outcome Played
ended name ps p = going (record { parts = with_part_named name p.part ps; steps = p.steps })

module _ (book : Book) (start : Environment) (line : ℕ) (name text : List ℕ) where
  -- what follows the search for the part
  abbrev continued : List NamedPart → ℕ → Part → Outcome Played
  continued ps steps v = body_read book line text (begun ps steps v) >>= ended name ps

  abbrev pub line_of : List NamedPart → ℕ → Outcome Played
  line_of ps steps = line_played book start line (some (record { name = name; body = text })) (record { parts = ps; steps = steps })

  -- of a part that is there
  pub line_known : (ps : List NamedPart) (steps : ℕ) (v : Part) → part_named name ps ≡ some v → line_of ps steps ≡ continued ps steps v
  unfolding line_played part_of
  line_known ps steps v e = then_going v (part_of start line ps (part_named name ps)) (continued ps steps) (ap (part_of start line ps) e)

  -- of a new part
  full : (ps : List NamedPart) → part_named name ps ≡ none → part_of start line ps (part_named name ps) ≡ part_of start line ps none
  full ps e = ap (part_of start line ps) e

  pub line_full : (ps : List NamedPart) (steps : ℕ) → part_named name ps ≡ none → ltb (length ps) parts_most ≡ false → line_of ps steps ≡ refused 21 line
  unfolding line_played part_of ◌>>◌ refuse◌on◌unless◌
  line_full ps steps e t = then_refused 21 line (part_of start line ps (part_named name ps)) (continued ps steps) (full ps e ∙ rw t refl)

  line_fresh : (ps : List NamedPart) (steps : ℕ) → part_named name ps ≡ none → ltb (length ps) parts_most ≡ true
      → line_of ps steps ≡ continued ps steps (record { env = start; notes = []; loops = [] })
  unfolding line_played part_of ◌>>◌ refuse◌on◌unless◌
  line_fresh ps steps e t = then_going _ (part_of start line ps (part_named name ps)) (continued ps steps) (full ps e ∙ rw t refl)

  -- it is the line of a part that has nothing yet
  pub line_new : (ps : List NamedPart) (steps : ℕ) → place_among name (called_as ps) ≡ length ps → length ps < parts_most
      → line_of ps steps ≡ line_of (ps ++ (fresh start name ∷ [])) steps
  line_new ps steps h few =
      let n = named_none name (fresh start name) (same_self name) ps h in
      let l = notes_last ps (fresh start name) refl in
      line_fresh ps steps n.0 (lt-ltb (length ps) parts_most few)
      ∙ ap₂ (λ (k : ℕ) (f : Progress → Outcome Played). body_read book line text (record { part = (fresh start name).part; others = k; steps = steps }) >>= f)
      (ap (λ (ns : List Note). length ns - 0) (sym l))
      (ended_new ps h)
      ∙ sym (line_known (ps ++ (fresh start name ∷ [])) steps (fresh start name).part n.1)
    where
      ended_new : (ps : List NamedPart) → place_among name (called_as ps) ≡ length ps → ended name ps ≡ ended name (ps ++ (fresh start name ∷ []))
      ended_new ps h =
          fun_ext (λ p. ap (λ (qs : List NamedPart). going (record { parts = qs; steps = p.steps })) (with_new_law name (fresh start name) (same_self name) p.part ps refl h))
