-- Parts, as document 01 has them, in order of first appearance: what a directive does to all of them, and what a part's line does to the one that it names.
-- Assumes nothing.
use Rattle.std.specs.Prelude.{true, false, List, [], ◌∷◌, ◌++◌, ℕ, ◌-◌, ltb, length}
use Rattle.std.proofs.Math.Option.{Option, none, some}
use Rattle.text.specs.Characters.{same}
use Rattle.lines.specs.Tokens.{Named}
use Rattle.sheet.specs.Capacities.{parts_most}
use Rattle.sheet.specs.Refusals.{Outcome, going, ◌>>=◌, ◌>>◌, refuse◌on◌unless◌}
use Rattle.sheet.specs.declared.note.Note.{Note}
use Rattle.environment.specs.declared.environment.Environment.{Environment}
use Rattle.part.specs.Body.{Part, Book, body_read}

-- a part and its name
pub record NamedPart : Type 0 where
  pub name : List ℕ
  pub part : Part

-- the notes of the parts, one part after the other
unfoldable pub notes_of : List NamedPart → List Note
notes_of [] = []
notes_of (p ∷ ps) = p.part.notes ++ notes_of ps

-- ---- directives

-- a change of every part's environment
unfoldable pub every_part : (Environment → Environment) → List NamedPart → List NamedPart
every_part f [] = []
every_part f (p ∷ ps) =
    record { name = p.name; part = record { env = f p.part.env; notes = p.part.notes; loops = p.part.loops } } ∷ every_part f ps

-- ---- a part's line

unfoldable pub part_named : List ℕ → List NamedPart → Option Part
unfolding same
part_named name [] = none
part_named name (p ∷ ps) = elim (same name p.name) [ true ↦ some p.part | false ↦ part_named name ps ]

-- the parts with this part for the name, in its place or, where the name is new, last
unfoldable pub with_part_named : List ℕ → Part → List NamedPart → List NamedPart
unfolding same
with_part_named name v [] = record { name = name; part = v } ∷ []
with_part_named name v (p ∷ ps) =
    elim (same name p.name) [ true ↦ record { name = p.name; part = v } ∷ ps | false ↦ p ∷ with_part_named name v ps ]

-- the part of a name, or a new one with the starting environment: "New part: 21 before its body."
unfoldable pub part_of : Environment → ℕ → List NamedPart → Option Part → Outcome Part
part_of start line ps (some v) = going v
part_of start line ps none = do
  refuse 21 on line unless (ltb (length ps) parts_most)
  going (record { env = start; notes = []; loops = [] })

-- the parts and the steps so far
pub record Played : Type 0 where
  pub parts : List NamedPart
  pub steps : ℕ

-- "All else is a part line: first token the name, the rest the body; under two tokens it is skipped."; the notes are counted over all parts, so that
-- those beside the part's own are counted with it
unfoldable pub line_played : Book → Environment → ℕ → Option Named → Played → Outcome Played
unfolding part_of part_named body_read notes_of with_part_named
line_played book start line none q = going q
line_played book start line (some n) q = do
  v ← part_of start line q.parts (part_named n.name q.parts)
  p ← body_read book line n.body (record { part = v; others = length (notes_of q.parts) - length v.notes; steps = q.steps })
  going (record { parts = with_part_named n.name p.part q.parts; steps = p.steps })
