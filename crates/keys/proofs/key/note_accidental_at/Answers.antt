-- `note_accidental_at` reads a byte and asks whether the same one follows; each answer is a law of `Marks`. Assumes nothing.
use mathlib.Core.Path.{sym, ◌∙◌}
use native.Mathlib.Omega.{arith}
use Rattle.keys.specs.Keys.{accidental_width}
use Rattle.keys.proofs.Marks.{note_past, note_none, note_some, double_sharp, sharp, double_flat, flat, natural, no_sign}
use Rattle.keys.proofs.key.note_accidental_at.Goals as goal

pub returns-in_err-sign : goal.returns-in_err-sign
returns-in_err-sign c = c.from_residual.ensures ∙ note_past _ _ c.in_err-sign.ensures.lookup.3

pub returns-in-43 : goal.returns-in-43
unfolding accidental_width
returns-in-43 c =
    let h = c.in_ok-sign.ensures.lookup.3 in
    note_some _ _ _ h.0 (h.1 0) _ (double_sharp _ _ c.in-43.is (sym c.stands_at-doubled.ensures ∙ c.if-doubled.true))

pub returns-in-43-2 : goal.returns-in-43-2
unfolding accidental_width
returns-in-43-2 c =
    let h = c.in_ok-sign.ensures.lookup.3 in
    note_some _ _ _ h.0 (h.1 0) _ (sharp _ _ c.in-43.is (sym c.stands_at-doubled.ensures ∙ c.if-doubled.false))

pub returns-in-45 : goal.returns-in-45
unfolding accidental_width
returns-in-45 c =
    let h = c.in_ok-sign.ensures.lookup.3 in
    note_some _ _ _ h.0 (h.1 0) _ (double_flat _ _ c.in-45.is (sym c.stands_at-doubled.ensures ∙ c.if-doubled-2.true))

pub returns-in-45-2 : goal.returns-in-45-2
unfolding accidental_width
returns-in-45-2 c =
    let h = c.in_ok-sign.ensures.lookup.3 in
    note_some _ _ _ h.0 (h.1 0) _ (flat _ _ c.in-45.is (sym c.stands_at-doubled.ensures ∙ c.if-doubled-2.false))

pub returns-in-61 : goal.returns-in-61
unfolding accidental_width
returns-in-61 c =
    let h = c.in_ok-sign.ensures.lookup.3 in
    note_some _ _ _ h.0 (h.1 0) _ (natural _ _ c.in-61.is)

pub returns-in_default : goal.returns-in_default
returns-in_default c =
    let h = c.in_ok-sign.ensures.lookup.3 in
    note_none _ _ _ h.0 (h.1 0) (no_sign _ _ (λ e. omega arith) (λ e. omega arith) (λ e. omega arith))
