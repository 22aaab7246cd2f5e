-- Each return of `clamped` is one case of the definition, by the two tests that led there. Assumes nothing.
use Rattle.std.proofs.Common.{sym}
use lib.Ieee.{neg, of_bits}
use Rattle.form.proofs.Scaled.{clamp_below, clamp_above, clamp_between}
use Rattle.form.proofs.sample.clamped.Goals as goal

pub returns-then-x : goal.returns-then-x
unfolding neg of_bits
returns-then-x c = sym (clamp_below _ c.if-x.true)

pub returns-then-x-2 : goal.returns-then-x-2
unfolding neg of_bits
returns-then-x-2 c = sym (clamp_above _ c.if-x.false c.if-x-2.true)

pub returns : goal.returns
unfolding neg of_bits
returns c = sym (clamp_between _ c.if-x.false c.if-x-2.false)
