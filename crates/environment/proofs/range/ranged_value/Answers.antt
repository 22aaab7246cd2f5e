-- `ranged_value` makes the tests of the definition in its order. Assumes nothing.
use mathlib.Core.Path.{◌≡◌, ap, ◌∙◌}
use native.Mathlib.Omega.{arith}
use Rattle.std.specs.Option.{ok_or}
use Rattle.std.proofs.lemmas.Result.{err_from_is_err_and}
use Rattle.sheet.specs.declared.refusal.Refusal.TheVariants.{NoNumber}
use Rattle.environment.proofs.Limits.{value_none, value_low, value_high, value_within}
use Rattle.environment.proofs.range.ranged_value.Goals as goal
use Rattle.environment.proofs.range.ranged_value.Goals.{then-value-from-via-then-value-from, then-value-from-via-else-value-from+then-value-from-2}

pub returns-in_err-value : goal.returns-in_err-value
returns-in_err-value c =
    let p = err_from_is_err_and c.from_residual.result c.from_residual.ensures.1 in
    let k = c.in_err-value.ensures in
    let e = k.value ∙ ap (λ o. ok_or o NoNumber) k.ok_part in
    let w : c.in_err-value.field-0.0 ≡ NoNumber = cc in
    rw (p.1, p.2, w) (value_none _ _ _ k.ok_part)

pub returns-then-value-from : goal.returns-then-value-from
returns-then-value-from c =
    elim c.then-value-from.branch [
      | then-value-from-via-then-value-from w ↦ value_low _ _ _ _ c.in_ok-value.ensures.ok_part (omega arith)
      | then-value-from-via-else-value-from+then-value-from-2 w ↦ value_high _ _ _ _ c.in_ok-value.ensures.ok_part (omega arith) (omega arith)
    ]

pub returns : goal.returns
returns c = value_within _ _ _ _ c.in_ok-value.ensures.ok_part (omega arith) (omega arith)
