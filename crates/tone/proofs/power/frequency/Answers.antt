-- `frequency` looks a semitone up in the table where it is one of the hundred there, and goes by the power rule below and above them. Assumes nothing.
use Rattle.std.proofs.Common.{◌≡◌, ℕ, ◌+◌, ◌-◌, ◌≤◌, ◌<◌, length, ◌∙◌, ap, arith}
use lib.Ieee.{nan}
use Rattle.tone.proofs.Lookup.{looked_up, frequencies_count}
use Rattle.tone.proofs.power.frequency.Goals as goal

-- the place of a semitone, counted from the first
at : (first s : ℕ) → first ≤ s → first + (s - first) ≡ s
at first s h = omega arith

pub returns-in-Some : goal.returns-in-Some
returns-in-Some c =
    let found = c.in-Some.ensures.lookup.3 in
    let l : c.args.s - 10 < 100 = omega (arith, frequencies_count 100 10, ap length c.table.ensures, found.0) in
    found.1 nan ∙ rw c.table.ensures (looked_up 100 10 _ _ l (at _ _ c.if-s-ge-FIRST.true))
