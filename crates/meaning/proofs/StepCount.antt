-- "Reading steps 100,000": an accepted sheet has counted no more. Only the bodies of part lines count, and each keeps to the limit. Assumes nothing.
use mathlib.Core.Path.{◌≡◌}
use mathlib.Core.List.{List}
use mathlib.Core.Option.{Option, none, some}
use Prim.Native.Nat.{ℕ, ◌-◌, ◌≤◌}
use native.Mathlib.Omega.{arith}
use lib.ListN.{length}
use Rattle.sheet.specs.Capacities.{steps_most}
use Rattle.sheet.specs.Refusals.{going}
use Rattle.sheet.proofs.Holds.{Holds, holds_going, holds_then, holds_after}
use Rattle.lines.specs.Tokens.{Named}
use Rattle.environment.specs.declared.environment.Environment.{Environment}
use Rattle.part.specs.Body.{Book, body_read}
use Rattle.part.proofs.StepCount.{Counted, body_counted}
use Rattle.meaning.proofs.Throughout.{KeptByLines, of_accepted}
use Rattle.meaning.specs.Parts.{Played, notes_of, part_named, with_part_named, part_of, line_played}
use Rattle.strict.specs.declared.mode.Mode.{Mode}
use Rattle.meaning.specs.Sheets.{Read, read_of, book_of, header_read, directive_read, macro_read, part_read, nothing_read, sheet_read}

-- no more than the limit
abbrev Kept : Read → Type 0
Kept r = r.steps ≤ steps_most

header_kept : (mode : Mode) (line : ℕ) (name : List ℕ) (below : List (List ℕ)) (r : Read) → Kept r → Holds Kept (header_read mode line name below r)
unfolding header_read
header_kept mode line name below r g = holds_after _ _ _ (λ n. holds_after _ _ _ (λ os. holds_going Kept _ g))

directive_kept : (mode : Mode) (line : ℕ) (l : List ℕ) (r : Read) → Kept r → Holds Kept (directive_read mode line l r)
unfolding directive_read
directive_kept mode line l r g = holds_after _ _ _ (λ f. holds_going Kept _ g)

macro_kept : (line : ℕ) (l : List ℕ) (r : Read) → Kept r → Holds Kept (macro_read line l r)
unfolding macro_read
macro_kept line l r g = holds_after _ _ _ (λ m. holds_going Kept _ g)

-- the steps of the parts after a part's line
abbrev PlayedFew : Played → Type 0
PlayedFew q = q.steps ≤ steps_most

played_few : (book : Book) (start : Environment) (line : ℕ) (n : Option Named) (q : Played) → PlayedFew q → Holds PlayedFew (line_played book start line n q)
unfolding line_played
played_few book start line none q g = holds_going PlayedFew _ g
played_few book start line (some n) q g =
    holds_after PlayedFew (part_of start line q.parts (part_named n.name q.parts)) _
    (λ v. holds_then Counted PlayedFew
    (body_read book line n.body (record { part = v; others = length (notes_of q.parts) - length v.notes; steps = q.steps }))
    (λ p. going (record { parts = with_part_named n.name p.part q.parts; steps = p.steps }))
    (body_counted book line n.body (record { part = v; others = length (notes_of q.parts) - length v.notes; steps = q.steps }) g)
    (λ p h. holds_going PlayedFew _ h))

part_kept : (rate line : ℕ) (n : Option Named) (r : Read) → Kept r → Holds Kept (part_read rate line n r)
unfolding part_read
part_kept rate line n r g =
    holds_then PlayedFew Kept (line_played (book_of rate r) r.start line n (record { parts = r.parts; steps = r.steps }))
    (λ q. going (read_of r.start q.parts r.macros r.names r.instruments q.steps))
    (played_few (book_of rate r) r.start line n (record { parts = r.parts; steps = r.steps }) g)
    (λ q h. holds_going Kept _ h)

kept : (mode : Mode) (rate : ℕ) → KeptByLines Kept mode rate
unfolding nothing_read
kept mode rate = record { start = omega arith; header = header_kept mode; directive = directive_kept mode; macro = macro_kept; part = part_kept rate }

pub steps_most_law : (mode : Mode) (rate : ℕ) (source : List ℕ) (r : Read) → sheet_read mode rate source ≡ going r → r.steps ≤ steps_most
steps_most_law mode rate source r e = of_accepted Kept mode rate (kept mode rate) source r e
