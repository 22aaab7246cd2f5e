-- `fill` stores byte after byte: what is still to be stored makes the rest of the pattern. Assumes nothing.
use mathlib.Core.Path.{◌≡◌, ◌∙◌}
use mathlib.Core.List.{List}
use Prim.Native.Nat.{ℕ, suc, ◌+◌, ◌-◌, ◌%◌}
use native.Mathlib.Numerals.{add-one}
use native.Mathlib.Omega.{arith}
use lib.ListN.{length, set}
use lib.Seq.{sets}
use Rattle.ask_wave.specs.Request.{pattern_from}
use Rattle.ask_wave.proofs.pattern.fill.Goals as goal

-- one byte more
one_more : (buffer : List ℕ) (i k m : ℕ) → k ≡ suc m
    → sets (set buffer i (i % 251)) (i + 1) (pattern_from (i + 1) m) ≡ sets buffer i (pattern_from i k)
unfolding pattern_from
one_more buffer i k m e = rw (e, add-one)

-- none left
none_left : (buffer : List ℕ) (i k : ℕ) → k ≡ 0 → buffer ≡ sets buffer i (pattern_from i k)
unfolding pattern_from
none_left buffer i k e = rw e

pub loop-i-init : goal.loop-i-init
loop-i-init c =
    let n = length c.args.buffer.now in
    let e : n - 0 ≡ n = omega arith in
    rw e

pub loop-i-preserved : goal.loop-i-preserved
loop-i-preserved c =
    let n = length c.args.buffer.now in
    let l = c.loop-i in
    one_more l.buffer l.i (n - l.i) (n - (l.i + 1)) (omega arith) ∙ l.invariant

pub returns : goal.returns
returns c =
    let n = length c.args.buffer.now in
    let l = c.loop-i in
    none_left l.buffer l.i (n - l.i) (omega arith) ∙ l.invariant
