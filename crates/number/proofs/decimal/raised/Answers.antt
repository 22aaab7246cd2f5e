-- `raised` doubles: a number below 10^18 is doubled fewer than 60 times. Assumes nothing.
use Rattle.std.proofs.Common.{◌<◌, arith}
use Rattle.number.proofs.Powers.{pow_more, twice_scaled, exponent_lt}
use Rattle.number.proofs.decimal.raised.Goals as goal

pub loop-number-preserved : goal.loop-number-preserved
loop-number-preserved c =
    let b = c.loop-number.by in
    let few : b < 60 = exponent_lt b 60 (omega arith) in
    record {
      scaled = omega (arith, twice_scaled c.args.n b);
      power = omega (arith, pow_more 2 b);
      no_further = omega arith;
      by_most = omega arith;
    }
