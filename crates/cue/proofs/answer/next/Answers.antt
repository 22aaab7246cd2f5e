-- `next` is `next_bytes`, which hands on no more than the buffer holds. Assumes nothing.
use mathlib.Core.Path.{sym, ap, subst, ◌∙◌}
use Prim.Native.Nat.{ℕ, ◌≤◌}
use lib.ListN.{length}
use lib.Seq.{length-take-le}
use Rattle.engine.specs.Stream.{next_of}
use Rattle.engine.proofs.Counted.{next_room}
use Rattle.engine.proofs.HandedOn.{next_length}
use Rattle.cue.proofs.answer.next.Goals as goal

pub returns-clause-within : goal.returns-clause-within
returns-clause-within c =
    let a = c.args in
    let w = c.next_bytes in
    let same = ap length w.ensures.bytes ∙ next_length a.size 44100 a.sheet a.buffer.now a.at in
    let fits : w.result ≤ length w.new.buffer = subst (λ (n : ℕ). n ≤ length w.new.buffer) (sym w.ensures.count) (subst (λ (n : ℕ). next_of 44100 a.sheet (length a.buffer.now) a.at ≤ n) (sym same) (next_room 44100 a.sheet a.buffer.now a.at)) in
    (fits, sym (length-take-le w.result w.new.buffer fits))

pub returns-clause-count : goal.returns-clause-count
returns-clause-count c =
    let a = c.args in
    let w = c.next_bytes in
    let same = ap length w.ensures.bytes ∙ next_length a.size 44100 a.sheet a.buffer.now a.at in
    let fits : w.result ≤ length w.new.buffer = subst (λ (n : ℕ). n ≤ length w.new.buffer) (sym w.ensures.count) (subst (λ (n : ℕ). next_of 44100 a.sheet (length a.buffer.now) a.at ≤ n) (sym same) (next_room 44100 a.sheet a.buffer.now a.at)) in
    w.ensures.count

pub returns-clause-bytes : goal.returns-clause-bytes
returns-clause-bytes c =
    let a = c.args in
    let w = c.next_bytes in
    let same = ap length w.ensures.bytes ∙ next_length a.size 44100 a.sheet a.buffer.now a.at in
    let fits : w.result ≤ length w.new.buffer = subst (λ (n : ℕ). n ≤ length w.new.buffer) (sym w.ensures.count) (subst (λ (n : ℕ). next_of 44100 a.sheet (length a.buffer.now) a.at ≤ n) (sym same) (next_room 44100 a.sheet a.buffer.now a.at)) in
    w.ensures.bytes
