-- `key_command` is the key that was found, put into the environment. Assumes nothing.
use mathlib.Core.Path.{◌≡◌, ap, ◌∙◌}
use Rattle.std.specs.Option.{ok_or}
use Rattle.std.proofs.lemmas.Result.{err_from_is_err_and}
use Rattle.sheet.specs.declared.refusal.Refusal.TheVariants.{NoAccidental}
use Rattle.settings.proofs.Changing.{key_to, key_refused}
use Rattle.settings.proofs.command.key_command.Goals as goal

pub returns-in_err-key : goal.returns-in_err-key
returns-in_err-key c =
    let p = err_from_is_err_and c.from_residual.result c.from_residual.ensures.1 in
    let k = c.in_err-key.ensures in
    let e = k.value ∙ ap (λ o. ok_or o NoAccidental) k.ok_part in
    let w : c.in_err-key.field-0.0 ≡ NoAccidental = cc in
    rw (p.1, p.2, w) (key_refused _ _ k.ok_part)

pub returns : goal.returns
returns c = key_to _ _ _ c.in_ok-key.ensures.ok_part
