-- `cue_window` gives each field of what `window_of` tells to its place. Assumes nothing.
use mathlib.Core.Path.{ap, ◌∙◌}
use lib.ListN.{length}
use borrow.Author.Rules.{rules}
use Rattle.strict.specs.declared.mode.Mode.{Mode}
use Rattle.station.specs.declared.told.Told.{Told}
use Rattle.station.specs.Calls.{told, window_asked, window_written}
use Rattle.station.proofs.calls.cue_window.Goals as goal

pub returns-clause-count : goal.returns-clause-count
returns-clause-count c =
    let a = c.args in
    let e = c.mode_of.ensures in
    let w = c.window_of-answer.ensures in
    let t = w.answer ∙ ap (λ (m : Mode). told (window_asked m a.source.now a.start (length a.buffer.now) a.place)) e in
    ap (λ (t : Told). t.count) t

pub returns-clause-number : goal.returns-clause-number
returns-clause-number c =
    let a = c.args in
    let e = c.mode_of.ensures in
    let w = c.window_of-answer.ensures in
    let t = w.answer ∙ ap (λ (m : Mode). told (window_asked m a.source.now a.start (length a.buffer.now) a.place)) e in
    ap (λ (t : Told). t.refusal) t

pub returns-clause-line : goal.returns-clause-line
returns-clause-line c =
    let a = c.args in
    let e = c.mode_of.ensures in
    let w = c.window_of-answer.ensures in
    let t = w.answer ∙ ap (λ (m : Mode). told (window_asked m a.source.now a.start (length a.buffer.now) a.place)) e in
    ap (λ (t : Told). t.line) t

pub returns-clause-bytes : goal.returns-clause-bytes
returns-clause-bytes c =
    let a = c.args in
    let e = c.mode_of.ensures in
    let w = c.window_of-answer.ensures in
    let t = w.answer ∙ ap (λ (m : Mode). told (window_asked m a.source.now a.start (length a.buffer.now) a.place)) e in
    w.bytes ∙ ap (λ (m : Mode). window_written m a.source.now a.start a.buffer.now a.place) e
