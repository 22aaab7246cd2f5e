-- `sines_alike` takes the steps of the sine one after the other, each in all lanes. Assumes nothing.
use Rattle.std.proofs.Common.{◌≡◌, ℕ, ◌<◌, ◌≤◌, ◌^◌, length, length-take, get_or, sym, ap, ◌∙◌, subst, arith, rules}
use lib.Ieee.{nan, binary32, of_bits}
use Rattle.sine.specs.Turn.{folded, height}
use Rattle.sine.specs.Phase.{position_of}
use Rattle.sine.specs.Lanes.{signed_of, turn_sine_at}
use Rattle.sine.proofs.Heights.{folded_le}
use Rattle.sine.proofs.LaneLaws.{sines_mapped, lanes_done, lane_sine}
use Rattle.sine.proofs.lanes.sines_alike.Goals as goal

pub each_lane-requires-3 : goal.each_lane-requires-3
each_lane-requires-3 c =
    λ none j l.
    let k = (c.each_lane-2.ensures none).done j (omega arith) in
    let e : get_or c.each_lane-2.new.lanes j none ≡ folded (get_or c.each_lane.new.lanes j 0) = search rules in
    let h : get_or c.each_lane-2.new.lanes j none ≤ 2 ^ 30 = subst (λ (u : ℕ). u ≤ 2 ^ 30) (sym e) (folded_le _) in
    search rules

pub returns : goal.returns
unfolding turn_sine_at
returns c =
    let a = c.args in
    let xs = a.values.now in
    let bits = a.bits.now in
    let positions = c.each_lane.new.lanes in
    let folds = c.each_lane-2.new.lanes in
    let heights = c.each_lane-3.new.lanes in
    let ys = c.each_lane-4.new.lanes in
    let r = c.each_lane-4.ensures nan in
    let position : (j : ℕ) → j < length xs → get_or positions j 0 ≡ position_of (of_bits binary32 (get_or bits j 0)) =
    λ j l. (let k = (c.each_lane.ensures 0).done j (omega (arith, c.requires.most, c.requires.size, length-take {A = ℕ})) in search rules) in
    let fold : (j : ℕ) → j < length xs → get_or folds j 0 ≡ folded (get_or positions j 0) =
    λ j l. (let k = (c.each_lane-2.ensures 0).done j (omega (arith, c.requires.most, c.requires.size, length-take {A = ℕ})) in search rules) in
    let tall : (j : ℕ) → j < length xs → get_or heights j 0 ≡ height a.table.now (get_or folds j 0) =
    λ j l. (let k = (c.each_lane-3.ensures 0).done j (omega (arith, c.requires.most, c.requires.size, length-take {A = ℕ})) in search rules) in
    let sine : (j : ℕ) → j < length xs → get_or ys j nan ≡ signed_of (get_or heights j 0) (get_or bits j 0) (get_or positions j 0) =
    λ j l. (let k = r.done j (omega (arith, c.requires.most, c.requires.size, length-take {A = ℕ})) in search rules) in
    sines_mapped a.table.now xs ys
    (lanes_done (turn_sine_at a.table.now) nan xs ys r.size
    (λ j l.
    let f = c.requires.field in
    let same = f.same j (omega (arith, c.requires.size, l)) in
    sine j l
    ∙ lane_sine a.table.now (get_or xs j nan) (get_or bits j 0) (get_or positions j 0) (get_or heights j 0) (c.requires.fit j l) (c.requires.patterns j l) (omega (arith, same, f.least)) (omega (arith, same, f.most))
    (position j l) (tall j l ∙ ap (height a.table.now) (fold j l))))
