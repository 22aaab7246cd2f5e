-- `key_at` looks for the accidental behind the letters, and for each letter among those. Assumes nothing.
use mathlib.Core.Path.{sym, ◌∙◌}
use native.Mathlib.Omega.{arith}
use Rattle.keys.proofs.Letters.{key_read, key_absent}
use Rattle.keys.proofs.Marks.{mark_inside}
use Rattle.keys.proofs.key.key_at.Goals as goal

pub returns-in_err-mark : goal.returns-in_err-mark
returns-in_err-mark c =
    c.from_residual.ensures ∙ key_absent _ _ _ c.letters_end-end.ensures (sym c.accidental_at.ensures ∙ c.in_err-mark.was)

pub slice_bounds-letters-end : goal.slice_bounds-letters-end
slice_bounds-letters-end c =
    let h = mark_inside _ _ _ (sym c.accidental_at.ensures ∙ c.in_ok-mark.was) in omega arith

pub returns : goal.returns
returns c =
    key_read _ _ _ c.letters_end-end.ensures _ (sym c.accidental_at.ensures ∙ c.in_ok-mark.was) _ _ _ _ _ _ _ c.is_among.ensures
    c.is_among-2.ensures
    c.is_among-3.ensures
    c.is_among-4.ensures
    c.is_among-5.ensures
    c.is_among-6.ensures
    c.is_among-7.ensures
