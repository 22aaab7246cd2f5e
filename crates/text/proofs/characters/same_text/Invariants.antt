-- `same_text` keeps that what is left to compare says what the whole says. Assumes nothing.
use Rattle.std.proofs.Common.{◌≡◌, length, drop}
use Rattle.text.specs.Characters.{same}
use Rattle.text.proofs.characters.same_text.Given as goal

abbrev pub invariant-loop-at : goal.invariant-loop-at
invariant-loop-at l = (length l.s ≡ length l.t) × (same (drop l.at l.s) (drop l.at l.t) ≡ same l.s l.t)
