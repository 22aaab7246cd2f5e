-- `ranged_amplitude` makes the tests of the definition in its order. Assumes nothing.
use mathlib.Core.Path.{ap, ◌∙◌}
use Rattle.std.specs.Prelude.{Err}
use lib.Ieee.{of_bits}
use Rattle.environment.proofs.Limits.{amplitude_none, amplitude_long, amplitude_low, amplitude_high, amplitude_within}
use Rattle.environment.proofs.range.ranged_amplitude.Goals as goal
use Rattle.environment.proofs.range.ranged_amplitude.Goals.{then-amplitude-via-then-amplitude, then-amplitude-via-else-amplitude+then-amplitude-2}

pub returns-in-Err-Unreadable : goal.returns-in-Err-Unreadable
returns-in-Err-Unreadable c = let h = c.in-Err-Unreadable in amplitude_none _ (h.is ∙ ap Err (rw h.is at h.field-0-is))

pub returns-in-Err-TooLong : goal.returns-in-Err-TooLong
returns-in-Err-TooLong c = let h = c.in-Err-TooLong in amplitude_long _ (h.is ∙ ap Err (rw h.is at h.field-0-is))

pub returns-then-amplitude : goal.returns-then-amplitude
unfolding of_bits
returns-then-amplitude c =
    elim c.then-amplitude.branch [
      | then-amplitude-via-then-amplitude w ↦ amplitude_low _ _ c.in-Ok.is w.if-amplitude.true
      | then-amplitude-via-else-amplitude+then-amplitude-2 w ↦ amplitude_high _ _ c.in-Ok.is w.if-amplitude.false w.if-amplitude-2.true
    ]

pub returns : goal.returns
unfolding of_bits
returns c = amplitude_within _ _ c.in-Ok.is c.if-amplitude.false c.if-amplitude-2.false
