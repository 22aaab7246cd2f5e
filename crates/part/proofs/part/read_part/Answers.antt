-- `read_part` asks whether the state is ready, and is then the reader of bodies with all nested calls to go. Assumes nothing.
use Rattle.std.proofs.Common.{sym, ◌∙◌, rules}
use Rattle.sheet.proofs.Basics.{false_true}
use Rattle.part.specs.Columns.{book_in}
use Rattle.part.proofs.Settling.{ready_so, promised_read, promised_unready, held_back, ready_back}
use Rattle.part.proofs.part.read_part.Goals as goal

pub returns-then-not-is_ready : goal.returns-then-not-is_ready
returns-then-not-is_ready c =
    let a = c.args in
    let said = promised_unready (book_in a.rate a.source.now a.macros.now a.bodies.now a.names.now a.releases.now) a.line a.text.now a.st a.floats.now a.instruments.now a.loops.now (sym c.is_ready.ensures ∙ c.if-not-is_ready.true) in
    rw c.refused.ensures (record { state = said.0; columns = said.1.0; ready = said.1.1.0; kept = said.1.1.1 })

pub body-r-requires-clause-ready : goal.body-r-requires-clause-ready
body-r-requires-clause-ready c =
    (ready_so _ _ _ _ _ (sym c.is_ready.ensures ∙ c.if-not-is_ready.false)).0

pub body-r-requires-clause-few_releases : goal.body-r-requires-clause-few_releases
body-r-requires-clause-few_releases c =
    (ready_so _ _ _ _ _ (sym c.is_ready.ensures ∙ c.if-not-is_ready.false)).1

pub returns : goal.returns
returns c =
    let a = c.args in
    let said =
    promised_read (book_in a.rate a.source.now a.macros.now a.bodies.now a.names.now a.releases.now) a.line a.text.now a.st c.settled.result a.floats.now a.instruments.now a.loops.now _ _ _ (sym c.is_ready.ensures ∙ c.if-not-is_ready.false) _ c.body-r.ensures.becomes c.settled.ensures in
    record {
      state = said.0;
      columns = held_back _ _ _ _ _ _ (search rules) (search rules) (search rules) _ said.1.0;
      ready = λ x z. ready_back _ _ _ _ _ _ (search rules) (search rules) (search rules) _ (said.1.1.0 x z);
      kept = λ x. false_true (sym x ∙ sym c.is_ready.ensures ∙ c.if-not-is_ready.false);
    }
