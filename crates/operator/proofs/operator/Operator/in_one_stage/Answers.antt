-- `in_one_stage` asks of each stage whether all lanes are in it, and then has the levels of that stage. Assumes nothing.
use Rattle.std.proofs.Common.{◌≡◌, get_or, true, false, sym, refl, ap, ◌∙◌, arith, rules}
use lib.Ieee.{nan, binary32, add, div, lt}
use Rattle.std.specs.Prelude.{Some}
use Rattle.operator.specs.Lanes.{decay_level, release_level}
use Rattle.operator.proofs.LaneLaws.{staged_all, sustain_level, decay_level_law, release_level_law, attack_level}
use Rattle.operator.proofs.operator.Operator.in_one_stage.Goals as goal

pub returns-then-all_lanes : goal.returns-then-all_lanes
returns-then-all_lanes c =
    let a = c.args in
    staged_all a.self a.d a.times.now _ (c.fill.ensures.len ∙ c.requires)
    (λ j l.
    let t = get_or a.times.now j nan in
    let k = (c.all_lanes.ensures nan).passes c.if-all_lanes.true j l in
    let p : lt t a.self.attack ≡ false = search rules in
    let q : lt t (add binary32 a.self.attack a.self.decay) ≡ false = search rules in
    let r : lt t a.d ≡ true = search rules in
    sustain_level a.self a.d t p q r ∙ ap Some (sym (c.fill.ensures.clones j nan (omega (arith, l, c.requires)) refl)))

pub returns-then-all_lanes-2 : goal.returns-then-all_lanes-2
returns-then-all_lanes-2 c =
    let a = c.args in
    staged_all a.self a.d a.times.now _ ((c.each_lane.ensures nan).size ∙ c.requires)
    (λ j l.
    let t = get_or a.times.now j nan in
    let k = (c.all_lanes-2.ensures nan).passes c.if-all_lanes-2.true j l in
    let i = (c.each_lane.ensures nan).done j (omega (arith, c.requires)) in
    let p : lt t a.self.attack ≡ false = search rules in
    let q : lt t a.d ≡ false = search rules in
    let r : lt t (add binary32 a.d a.self.release) ≡ true = search rules in
    let e : get_or c.each_lane.new.lanes j nan ≡ release_level a.self.sustain a.self.release a.d t = search rules in
    release_level_law a.self a.d t p q r ∙ ap Some (sym e))

pub returns-then-all_lanes-3 : goal.returns-then-all_lanes-3
returns-then-all_lanes-3 c =
    let a = c.args in
    let levels = c.each_lane-then-all_lanes-3.ensures nan in
    staged_all a.self a.d a.times.now _ (levels.size ∙ c.requires)
    (λ j l.
    let t = get_or a.times.now j nan in
    let k = (c.all_lanes-3.ensures nan).passes c.if-all_lanes-3.true j l in
    let i = levels.done j (omega (arith, c.requires)) in
    let p : lt t a.self.attack ≡ false = search rules in
    let q : lt t a.d ≡ true = search rules in
    let r : lt t (add binary32 a.self.attack a.self.decay) ≡ true = search rules in
    let e : get_or c.each_lane-then-all_lanes-3.new.lanes j nan ≡ decay_level a.self.attack a.self.decay a.self.sustain t = search rules in
    decay_level_law a.self a.d t p q r ∙ ap Some (sym e))

pub returns-then-all_lanes-4 : goal.returns-then-all_lanes-4
returns-then-all_lanes-4 c =
    let a = c.args in
    let levels = c.each_lane-then-all_lanes-4.ensures nan in
    staged_all a.self a.d a.times.now _ (levels.size ∙ c.requires)
    (λ j l.
    let t = get_or a.times.now j nan in
    let k = (c.all_lanes-4.ensures nan).passes c.if-all_lanes-4.true j l in
    let i = levels.done j (omega (arith, c.requires)) in
    let p : lt t a.self.attack ≡ true = search rules in
    let e : get_or c.each_lane-then-all_lanes-4.new.lanes j nan ≡ div binary32 t a.self.attack = search rules in
    attack_level a.self a.d t p ∙ ap Some (sym e))
