-- `cue_samples` gives each field of what `samples_of` tells to its place. Assumes nothing.
use mathlib.Core.Path.{ap, ◌∙◌}
use borrow.Author.Rules.{rules}
use Rattle.strict.specs.declared.mode.Mode.{Mode}
use Rattle.station.specs.declared.told.Told.{Told}
use Rattle.station.specs.Calls.{told, samples_asked}
use Rattle.station.proofs.calls.cue_samples.Goals as goal

pub returns-clause-count : goal.returns-clause-count
returns-clause-count c =
    let a = c.args in
    let t = c.samples_of-answer.ensures ∙ ap (λ (m : Mode). told (samples_asked m a.source.now)) c.mode_of.ensures in
    ap (λ (t : Told). t.count) t

pub returns-clause-number : goal.returns-clause-number
returns-clause-number c =
    let a = c.args in
    let t = c.samples_of-answer.ensures ∙ ap (λ (m : Mode). told (samples_asked m a.source.now)) c.mode_of.ensures in
    ap (λ (t : Told). t.refusal) t

pub returns-clause-line : goal.returns-clause-line
returns-clause-line c =
    let a = c.args in
    let t = c.samples_of-answer.ensures ∙ ap (λ (m : Mode). told (samples_asked m a.source.now)) c.mode_of.ensures in
    ap (λ (t : Told). t.line) t
