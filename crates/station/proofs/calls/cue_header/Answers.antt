-- `cue_header` gives each field of what `header_of` tells to its place. Assumes nothing.
use mathlib.Core.Path.{ap, ap₂, ◌∙◌}
use lib.ListN.{length}
use borrow.Author.Rules.{rules}
use Rattle.form.specs.declared.size.Size.{Size}
use Rattle.strict.specs.declared.mode.Mode.{Mode}
use Rattle.station.specs.declared.told.Told.{Told}
use Rattle.station.specs.Calls.{told, header_asked, header_written}
use Rattle.station.proofs.calls.cue_header.Goals as goal

pub returns-clause-count : goal.returns-clause-count
returns-clause-count c =
    let a = c.args in
    let e = c.mode_of.ensures in
    let z = c.size_of.ensures in
    let w = c.header_of-answer.ensures in
    let t = w.answer ∙ ap (λ (m : Mode). told (header_asked m a.source.now (length a.buffer.now))) e in
    ap (λ (t : Told). t.count) t

pub returns-clause-number : goal.returns-clause-number
returns-clause-number c =
    let a = c.args in
    let e = c.mode_of.ensures in
    let z = c.size_of.ensures in
    let w = c.header_of-answer.ensures in
    let t = w.answer ∙ ap (λ (m : Mode). told (header_asked m a.source.now (length a.buffer.now))) e in
    ap (λ (t : Told). t.refusal) t

pub returns-clause-line : goal.returns-clause-line
returns-clause-line c =
    let a = c.args in
    let e = c.mode_of.ensures in
    let z = c.size_of.ensures in
    let w = c.header_of-answer.ensures in
    let t = w.answer ∙ ap (λ (m : Mode). told (header_asked m a.source.now (length a.buffer.now))) e in
    ap (λ (t : Told). t.line) t

pub returns-clause-bytes : goal.returns-clause-bytes
returns-clause-bytes c =
    let a = c.args in
    let e = c.mode_of.ensures in
    let z = c.size_of.ensures in
    let w = c.header_of-answer.ensures in
    let t = w.answer ∙ ap (λ (m : Mode). told (header_asked m a.source.now (length a.buffer.now))) e in
    w.bytes ∙ ap₂ (λ (m : Mode) (z : Size). header_written m z a.source.now a.buffer.now) e z
