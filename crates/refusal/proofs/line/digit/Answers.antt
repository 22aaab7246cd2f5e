-- `digit` adds the last digit's value to that of `0`. Assumes nothing.
use mathlib.Core.Path.{refl}
use Rattle.refusal.specs.Line.{last_digit}
use Rattle.refusal.proofs.line.digit.Goals as goal

pub returns : goal.returns
unfolding last_digit
returns c = refl
