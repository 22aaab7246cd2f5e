-- `raised` doubles: the number is n times a power of two that it is itself at least as large as, so few doublings reach d.
-- Assumes nothing.
use Rattle.std.proofs.Common.{◌≡◌, ◌*◌, ◌-◌, ◌^◌, ◌≤◌, max}
use Rattle.number.proofs.decimal.raised.Given as goal

abbrev pub invariant-loop-number : goal.invariant-loop-number
invariant-loop-number l = record {
  scaled : l.number ≡ l.n * 2 ^ l.by;
  power : 2 ^ l.by ≤ l.number;
  no_further : l.number ≤ max l.n (2 * (l.d - 1));
  by_most : l.by ≤ 60;
}

abbrev pub decreases-loop-number : goal.decreases-loop-number
decreases-loop-number l = l.d - l.number
