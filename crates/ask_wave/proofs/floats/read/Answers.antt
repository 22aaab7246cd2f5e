-- `read` stores float after float: what is still to be stored makes the rest of the run. Assumes nothing.
use mathlib.Core.Path.{◌≡◌, sym, ◌∙◌}
use mathlib.Core.List.{List}
use Prim.Native.Nat.{ℕ, suc, ◌+◌, ◌-◌, ◌*◌, ◌≤◌}
use native.Mathlib.Numerals.{add-one}
use native.Mathlib.Omega.{arith}
use lib.Ieee.{Float, binary32, of_bits}
use lib.ListN.{length, set}
use lib.Seq.{sets, length-take-le}
use Rattle.fields.specs.Word.{word_at}
use Rattle.ask_wave.specs.Request.{floats_from}
use Rattle.ask_wave.proofs.floats.read.Goals as goal

-- one float more
one_more : {x : Float} (s : List ℕ) (out : List Float) (i k m : ℕ) → k ≡ suc m → x ≡ of_bits binary32 (word_at s (4 * i))
    → sets (set out i x) (i + 1) (floats_from s (i + 1) m) ≡ sets out i (floats_from s i k)
unfolding floats_from
one_more s out i k m e f = rw (e, f, add-one)

-- none left
none_left : (s : List ℕ) (out : List Float) (i k : ℕ) → k ≡ 0 → out ≡ sets out i (floats_from s i k)
unfolding floats_from
none_left s out i k e = rw e

pub loop-i-init : goal.loop-i-init
loop-i-init c =
    let e : c.min-n.result - 0 ≡ c.min-n.result = omega arith in
    rw e

pub loop-i-preserved : goal.loop-i-preserved
loop-i-preserved c =
    let s = c.args.bytes.now in
    let n = c.min-n.result in
    let l = c.loop-i in
    let more : c.of_bits.result ≡ of_bits binary32 (word_at s (4 * l.i)) = cc in
    one_more s l.out l.i (n - l.i) (n - (l.i + 1)) (omega arith) more ∙ l.invariant

pub returns-clause-within : goal.returns-clause-within
returns-clause-within c =
    let fits : c.min-n.result ≤ length c.loop-i.out = omega arith in
    (fits, sym (length-take-le c.min-n.result c.loop-i.out fits))

pub returns-clause-floats : goal.returns-clause-floats
returns-clause-floats c =
    let l = c.loop-i in
    let n = c.min-n.result in
    none_left c.args.bytes.now l.out l.i (n - l.i) (omega arith) ∙ l.invariant
