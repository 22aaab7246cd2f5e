-- `check` makes the tests of the definition, one after the other; past the third its count is the sum of all counts. Assumes nothing.
use Rattle.std.proofs.Common.{◌≡◌, ◌≤◌, ℕ, min, sym, ◌∙◌, arith}
use Rattle.std.proofs.lemmas.Result.{err_from_is_err_and}
use Rattle.handed.proofs.Checks.{parts_refused, instruments_refused, notes_refused, players_refused, played_refused, length_refused, passed, walk_refused, walk_counted}
use Rattle.handed.proofs.check.check.Goals as goal

-- a sum that was cut at 2,049 and is not over 2,048 is the whole sum
all_notes : (count sum : ℕ) → count ≡ min sum 2049 → count ≤ 2048 → sum ≤ 2048
all_notes count sum e h = omega arith

pub returns-then-sheet-gt-PARTS_MOST : goal.returns-then-sheet-gt-PARTS_MOST
returns-then-sheet-gt-PARTS_MOST c = parts_refused _ _ c.if-sheet-gt-PARTS_MOST.true

pub returns-then-sheet-gt-INSTRUMENTS_MOST : goal.returns-then-sheet-gt-INSTRUMENTS_MOST
returns-then-sheet-gt-INSTRUMENTS_MOST c = instruments_refused _ _ c.if-sheet-gt-PARTS_MOST.false c.if-sheet-gt-INSTRUMENTS_MOST.true

pub returns-then-count-gt-NOTES_MOST : goal.returns-then-count-gt-NOTES_MOST
returns-then-count-gt-NOTES_MOST c =
    notes_refused _ _ c.if-sheet-gt-PARTS_MOST.false c.if-sheet-gt-INSTRUMENTS_MOST.false (omega (arith, c.notes_in-count.ensures, c.if-count-gt-NOTES_MOST.true))

pub returns-then-not-instruments_pass : goal.returns-then-not-instruments_pass
returns-then-not-instruments_pass c =
    players_refused _ _ c.if-sheet-gt-PARTS_MOST.false c.if-sheet-gt-INSTRUMENTS_MOST.false (all_notes _ _ c.notes_in-count.ensures c.if-count-gt-NOTES_MOST.false)
    (sym c.instruments_pass.ensures ∙ c.if-not-instruments_pass.true)

pub returns-in_err-length : goal.returns-in_err-length
returns-in_err-length c =
    let p = err_from_is_err_and c.from_residual.result c.from_residual.ensures.1 in
    let w = walk_refused c.args.rate c.args.sheet _ c.in_err-length.ensures in
    rw (p.1, p.2, w.0) (played_refused _ _ c.if-sheet-gt-PARTS_MOST.false c.if-sheet-gt-INSTRUMENTS_MOST.false
    (all_notes _ _ c.notes_in-count.ensures c.if-count-gt-NOTES_MOST.false) (sym c.instruments_pass.ensures ∙ c.if-not-instruments_pass.false) w.1)

pub returns-then-length-gt-SAMPLES_MOST : goal.returns-then-length-gt-SAMPLES_MOST
returns-then-length-gt-SAMPLES_MOST c =
    let w = walk_counted c.args.rate c.args.sheet _ c.in_ok-length.ensures in
    length_refused _ _ c.if-sheet-gt-PARTS_MOST.false c.if-sheet-gt-INSTRUMENTS_MOST.false
    (all_notes _ _ c.notes_in-count.ensures c.if-count-gt-NOTES_MOST.false) (sym c.instruments_pass.ensures ∙ c.if-not-instruments_pass.false) w.0
    (omega (arith, w.1, c.if-length-gt-SAMPLES_MOST.true))

pub returns : goal.returns
returns c =
    let w = walk_counted c.args.rate c.args.sheet _ c.in_ok-length.ensures in
    passed _ _ c.if-sheet-gt-PARTS_MOST.false c.if-sheet-gt-INSTRUMENTS_MOST.false
    (all_notes _ _ c.notes_in-count.ensures c.if-count-gt-NOTES_MOST.false) (sym c.instruments_pass.ensures ∙ c.if-not-instruments_pass.false) w.0
    _ w.1 c.if-length-gt-SAMPLES_MOST.false
