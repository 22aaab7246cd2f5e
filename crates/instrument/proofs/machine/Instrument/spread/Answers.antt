-- `spread` keeps the front of the slice filled: each turn mixes the values that `run` gives. Assumes nothing.
use Rattle.std.proofs.Common.{◌≡◌, ◌<◌, ◌≤◌, ◌+◌, ℕ, length, length-take, ap, ◌∙◌, subst, arith}
use lib.Ieee.{Float, of_bits, binary32, div}
use Rattle.ieee.specs.Constants.{one}
use Rattle.instrument.specs.Fill.{count_from}
use Rattle.instrument.specs.Lanes.{Front}
use Rattle.instrument.specs.Lent.{sound_by, filled_by}
use Rattle.instrument.proofs.Filling.{front_none}
use Rattle.instrument.proofs.Running.{turn}
use Rattle.instrument.proofs.machine.Instrument.spread.Goals as goal

pub loop-i-init : goal.loop-i-init
unfolding of_bits
loop-i-init c =
    let a = c.args in
    (omega arith, ap (div binary32 one) c.nearest_u32_to_f32-unit.ensures, front_none (sound_by a.table.now a.self a.amplitude a.f a.d a.rate a.first) a.added a.out.now)

-- the room is at most what is left of a note's samples
within : (first room have i n : ℕ) → room ≡ count_from first have → i + n ≤ room → i < room → (first + i + n ≤ 16777216) × (i + n ≤ have)
unfolding count_from
within first room have i n e h l = (omega arith, omega arith)

pub overflow_add-first : goal.overflow_add-first
overflow_add-first c =
    let a = c.args in
    let w = within a.first a.room (length a.out.now) c.loop-i.i 0 c.requires.room (omega (arith, c.loop-i-test.true)) c.loop-i-test.true in
    omega (arith, w.0)

pub times_from-requires : goal.times_from-requires
times_from-requires c =
    let a = c.args in
    let n = c.min-n.result in
    let w = within a.first a.room (length a.out.now) c.loop-i.i n c.requires.room (omega (arith, c.loop-i-test.true, c.min-n.ensures)) c.loop-i-test.true in
    omega (arith, w.0, length-take {A = Float})

pub mix_lanes-requires : goal.mix_lanes-requires
mix_lanes-requires c =
    let a = c.args in
    let n = c.min-n.result in
    let w = within a.first a.room (length a.out.now) c.loop-i.i n c.requires.room (omega (arith, c.loop-i-test.true, c.min-n.ensures)) c.loop-i-test.true in
    omega (arith, w.1, c.loop-i.auto.out, length-take {A = Float})

pub loop-i-preserved : goal.loop-i-preserved
loop-i-preserved c =
    let a = c.args in
    let l = c.loop-i in
    let n = c.min-n.result in
    let e = c.min-n.ensures in
    let w : n ≡ length a.values.now = omega (arith, e, l.auto.values) in
    let mixed : c.mix_lanes.new.out ≡ Front (sound_by a.table.now a.self a.amplitude a.f a.d a.rate a.first) a.added (l.i + n) a.out.now =
    turn a.table.now a.f a.d a.self a.amplitude a.rate a.first a.added l.i n _ l.times c.times_from.new.times c.run.new.values a.out.now l.out c.mix_lanes.new.out l.invariant.1
    (omega (arith, e, l.auto.values, l.auto.times, c.requires.times)) (omega (arith, e, l.auto.values, c.run.auto.values))
    (within a.first a.room (length a.out.now) l.i n c.requires.room (omega (arith, e, c.loop-i-test.true)) c.loop-i-test.true).1
    c.times_from.ensures c.run.ensures l.invariant.2 c.mix_lanes.ensures in
    (omega arith, l.invariant.1, subst (λ (k : ℕ). c.mix_lanes.new.out ≡ Front (sound_by a.table.now a.self a.amplitude a.f a.d a.rate a.first) a.added (l.i + k) a.out.now) w mixed)

pub returns-2 : goal.returns-2
unfolding filled_by Front
returns-2 c =
    let a = c.args in
    let l = c.loop-i in
    let n = c.min-n.result in
    let e = c.min-n.ensures in
    let w : l.i + n ≡ count_from a.first (length a.out.now) = omega (arith, e, l.auto.values, c.requires.room) in
    turn a.table.now a.f a.d a.self a.amplitude a.rate a.first a.added l.i n _ l.times c.times_from.new.times c.run.new.values a.out.now l.out c.mix_lanes.new.out l.invariant.1
    (omega (arith, e, l.auto.values, l.auto.times, c.requires.times)) (omega (arith, e, l.auto.values, c.run.auto.values))
    (within a.first a.room (length a.out.now) l.i n c.requires.room (omega (arith, e, c.loop-i-test.true)) c.loop-i-test.true).1
    c.times_from.ensures c.run.ensures l.invariant.2 c.mix_lanes.ensures
    ∙ ap (λ (k : ℕ). Front (sound_by a.table.now a.self a.amplitude a.f a.d a.rate a.first) a.added k a.out.now) w

pub returns : goal.returns
unfolding filled_by Front
returns c =
    let a = c.args in
    let l = c.loop-i in
    let e : l.i ≡ count_from a.first (length a.out.now) = omega (arith, l.invariant.0, c.loop-i-test.false, c.requires.room) in
    l.invariant.2 ∙ ap (λ (k : ℕ). Front (sound_by a.table.now a.self a.amplitude a.f a.d a.rate a.first) a.added k a.out.now) e
