-- `position` is the quotient of the law `position_some`, worked out by `phase`, or 0 where the law `position_none` has it.
-- Assumes nothing.
use Rattle.std.proofs.Common.{◌≡◌, ℕ, ◌+◌, ◌-◌, ◌*◌, ◌/◌, ◌%◌, ◌^◌, sym, ap, ◌∙◌, arith}
use Rattle.sine.specs.Turn.{C}
use Rattle.sine.specs.Phase.{field_of}
use Rattle.sine.proofs.Phase.{position_none, position_some}
use Rattle.sine.specs.Phase.{position_of}
use Rattle.sine.proofs.turn.position.Goals as goal

pub returns-then-e-lt-LOWEST_FIELD : goal.returns-then-e-lt-LOWEST_FIELD
returns-then-e-lt-LOWEST_FIELD c = sym (position_none c.args.bits (omega (arith, c.field-e.ensures, c.if-e-lt-LOWEST_FIELD.true)))

pub returns : goal.returns
unfolding C position_of
returns c =
    let b = c.args.bits in
    let e : c.field-e.result ≡ field_of b = c.field-e.ensures in
    c.phase.ensures
    ∙ ap (λ (n : ℕ). (b % 2 ^ 23 + 2 ^ 23) * 512 * C / 2 ^ (31 + (158 - n)) % 2 ^ 32) e
    ∙ sym (position_some b (omega (arith, e, c.if-e-lt-LOWEST_FIELD.false)) (omega arith))
