-- `divided` is long division: after some binary places n * 2 ^ place is the quotient times d and a rest below d.
-- Assumes nothing.
use Rattle.std.proofs.Common.{◌≡◌, ◌+◌, ◌*◌, ◌^◌, ◌<◌}
use Rattle.number.proofs.decimal.divided.Given as goal

abbrev pub invariant-loop-place : goal.invariant-loop-place
invariant-loop-place l = record {
  quotient : l.n * 2 ^ l._place ≡ l.whole * l.d + l.rest;
  remainder : l.rest < l.d;
  digits : l.whole < 2 * 2 ^ l._place;
}
