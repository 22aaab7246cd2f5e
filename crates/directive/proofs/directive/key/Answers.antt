-- `key` is what `key_at` answers, as a key, once the token is read to its end. Assumes nothing.
use mathlib.Core.Path.{◌≡◌, sym, ap, ◌∙◌}
use Rattle.std.specs.Option.{ok_or}
use Rattle.std.proofs.lemmas.Result.{err_from_is_err_and}
use Rattle.sheet.specs.declared.refusal.Refusal.TheVariants.{NoAccidental}
use Rattle.directive.proofs.Rows.{key_to, key_tailed, key_refused}
use Rattle.directive.proofs.directive.key.Goals as goal

pub returns-in_err-key : goal.returns-in_err-key
returns-in_err-key c = λ line.
    let p = err_from_is_err_and c.from_residual.result c.from_residual.ensures.1 in
    let k = c.in_err-key.ensures in
    let e = k.value ∙ ap (λ o. ok_or o NoAccidental) k.ok_part in
    let w : c.in_err-key.field-0.0 ≡ NoAccidental = cc in
    rw (p.1, p.2, w) (key_refused _ _ line (sym c.key_at.ensures ∙ k.ok_part))

pub returns-then-has_tail : goal.returns-then-has_tail
returns-then-has_tail c = λ line.
    key_tailed _ _ line _ (sym c.key_at.ensures ∙ c.in_ok-key.ensures.ok_part) (sym c.has_tail.ensures ∙ c.if-has_tail.true)

pub returns : goal.returns
returns c = λ line.
    key_to _ _ line _ (sym c.key_at.ensures ∙ c.in_ok-key.ensures.ok_part) (sym c.has_tail.ensures ∙ c.if-has_tail.false)
