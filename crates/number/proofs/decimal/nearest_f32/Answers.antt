-- `nearest_f32` assembles the fraction raised or lowered to lie from 1 up to 2, which is the fraction itself, scaled.
-- Assumes nothing.
use Rattle.std.proofs.Common.{◌≡◌, ◌+◌, ◌-◌, ◌*◌, ◌^◌, ℕ, false, refl, sym, ap, ◌∙◌, arith}
use lib.Ieee.{binary32, round, of_bits}
use Rattle.number.proofs.Rounding.{round_zero, raised_same, lowered_same}
use Rattle.number.proofs.decimal.nearest_f32.Goals as goal

zero_is : round binary32 false 0 1 ≡ of_bits binary32 0
unfolding round of_bits
zero_is = refl

pub returns-then-n-eq0 : goal.returns-then-n-eq0
returns-then-n-eq0 c =
    let a = c.args in
    sym (ap (λ (n : ℕ). round binary32 false n a.d) c.if-n-eq0.true ∙ round_zero a.d c.requires.some ∙ zero_is)

pub returns-then-n-d : goal.returns-then-n-d
returns-then-n-d c =
    let r = c.raised-up in
    let a = c.args in
    c.assembled.ensures
    ∙ ap (λ (n : ℕ). round binary32 false (n * 2 ^ 23 * 2 ^ (126 - r.result.by)) (a.d * 2 ^ 149)) r.ensures.scaled
    ∙ raised_same a.n a.d r.result.by c.requires.some (omega arith)

pub returns : goal.returns
returns c =
    let r = c.raised-down in
    let a = c.args in
    c.assembled-2.ensures
    ∙ ap (λ (d : ℕ). round binary32 false (a.n * 2 ^ 23 * 2 ^ (126 + r.result.by)) (d * 2 ^ 149)) r.ensures.scaled
    ∙ lowered_same a.n a.d r.result.by c.requires.some
