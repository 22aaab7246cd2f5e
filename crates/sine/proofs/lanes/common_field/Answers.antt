-- `common_field` has the first pattern's field, and asks of the others whether they have it. Assumes nothing.
use Rattle.std.proofs.Common.{◌≡◌, ℕ, get_or, sym, ◌∙◌, arith, rules}
use Rattle.sine.specs.Lanes.{CommonField}
use Rattle.sine.specs.Phase.{field_of}
use Rattle.sine.proofs.lanes.common_field.Goals as goal

pub returns-then-all_lanes : goal.returns-then-all_lanes
returns-then-all_lanes c =
    let r = c.all_lanes.ensures 0 in
    record {
      some = grind arith;
      least = c.if-e-lt-LOWEST_FIELD.false;
      most = c.if-e-gt-HIGHEST_FIELD.false;
      same = λ j l. (let k = r.passes c.if-all_lanes.true j l in search rules);
    }

pub returns : goal.returns
returns c =
    let none : (e : ℕ) → CommonField e c.args.bits.now → ⊥ =
    λ e f.
    let k = (c.all_lanes.ensures 0).fails c.if-all_lanes.false in
    let h = f.same k.0 k.1 in
    let g = f.same 0 f.some in
    let i = k.2 in
    let d : field_of (get_or c.args.bits.now k.0 0) ≡ c.field-e.result → ⊥ = search rules in
    d (h ∙ sym g ∙ grind (arith)) in
    none
