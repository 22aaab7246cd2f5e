-- `lay` puts the operator of a line, and behind it a Stack where the line is outdented: one law for each exit. Assumes nothing.
use Rattle.std.proofs.Common.{ap, ◌∙◌, arith}
use Rattle.operator.specs.declared.operator.Operator.{Operator}
use Rattle.instrument.specs.declared.machine.Command.TheVariants as Command
use Rattle.commands.specs.Laying.{put}
use Rattle.commands.proofs.Laying.{first_line_law, inner_line, outdented_line}
use Rattle.commands.proofs.layout.lay.Goals as goal

pub returns-then-i-eq0 : goal.returns-then-i-eq0
returns-then-i-eq0 c =
    let own = c.put.ensures ∙ ap (λ (o : Operator). put (Command.Operator o) c.args.all.now) c.operator_at-op.ensures in
    own ∙ first_line_law _ _ _ _ c.if-i-eq0.true

pub returns-then-own-higher : goal.returns-then-own-higher
returns-then-own-higher c =
    let own = c.put.ensures ∙ ap (λ (o : Operator). put (Command.Operator o) c.args.all.now) c.operator_at-op.ensures in
    own ∙ inner_line _ _ _ _ (omega arith) c.if-own-higher.true

pub returns : goal.returns
returns c =
    let own = c.put.ensures ∙ ap (λ (o : Operator). put (Command.Operator o) c.args.all.now) c.operator_at-op.ensures in
    c.put-2.ensures ∙ ap (put _) own ∙ outdented_line _ _ _ _ (omega arith) c.if-own-higher.false
