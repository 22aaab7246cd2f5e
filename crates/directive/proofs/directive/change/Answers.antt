-- `change` answers by the first row of the table that has the name. Assumes nothing.
use mathlib.Core.Path.{sym, ◌∙◌}
use Rattle.text.specs.Quoted.{bytes}
use Rattle.directive.proofs.Rows.{tempo_named, denominator_named, key_named, unnamed}
use Rattle.directive.proofs.directive.change.Goals as goal

pub returns-then-same_text : goal.returns-then-same_text
unfolding bytes
returns-then-same_text c line = c.tempo.ensures line ∙ tempo_named _ _ _ line (sym c.same_text.ensures ∙ c.if-same_text.true)

pub returns-then-same_text-2 : goal.returns-then-same_text-2
unfolding bytes
returns-then-same_text-2 c line =
    c.denominator.ensures line
    ∙ denominator_named _ _ _ line
    (sym c.same_text.ensures ∙ c.if-same_text.false)
    (sym c.same_text-2.ensures ∙ c.if-same_text-2.true)

pub returns-then-same_text-3 : goal.returns-then-same_text-3
unfolding bytes
returns-then-same_text-3 c line =
    c.key.ensures line
    ∙ key_named _ _ _ line
    (sym c.same_text.ensures ∙ c.if-same_text.false)
    (sym c.same_text-2.ensures ∙ c.if-same_text-2.false)
    (sym c.same_text-3.ensures ∙ c.if-same_text-3.true)

pub returns : goal.returns
unfolding bytes
returns c line =
    unnamed _ _ _ line
    (sym c.same_text.ensures ∙ c.if-same_text.false)
    (sym c.same_text-2.ensures ∙ c.if-same_text-2.false)
    (sym c.same_text-3.ensures ∙ c.if-same_text-3.false)
