-- `accidental_at` asks for one byte after the other; each has a row of the definition's table. Assumes nothing.
use mathlib.Core.Path.{ap, sym, ◌∙◌}
use mathlib.Core.Option.{some}
use native.Mathlib.Omega.{arith}
use Rattle.text.specs.Characters.{row_of}
use Rattle.keys.specs.Keys.{accidental_of}
use Rattle.keys.proofs.Marks.{no_row, mark_past, mark_none, mark_some}
use Rattle.keys.proofs.key.accidental_at.Goals as goal
use Rattle.keys.proofs.key.accidental_at.Goals.{in-43, in-45, in-61}

pub returns-in_err-get : goal.returns-in_err-get
returns-in_err-get c = c.from_residual.ensures ∙ mark_past _ _ c.in_err-get.ensures.lookup.3

pub returns-in_default : goal.returns-in_default
returns-in_default c =
    let h = c.in_ok-get.ensures.lookup.3 in
    mark_none _ _ _ h.0 (h.1 0) (no_row _ (λ e. omega arith) (λ e. omega arith) (λ e. omega arith))

pub returns : goal.returns
unfolding accidental_of row_of
returns c =
    let h = c.in_ok-get.ensures.lookup.3 in
    elim c.match-branch-2.branch [
      | in-43 w ↦ mark_some _ _ _ h.0 (h.1 0) _ (ap accidental_of w.in-43.is ∙ ap some (sym w.value-is))
      | in-45 w ↦ mark_some _ _ _ h.0 (h.1 0) _ (ap accidental_of w.in-45.is ∙ ap some (sym w.value-is))
      | in-61 w ↦ mark_some _ _ _ h.0 (h.1 0) _ (ap accidental_of w.in-61.is ∙ ap some (sym w.value-is))
    ]
