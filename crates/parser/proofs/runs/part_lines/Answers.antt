-- `part_lines` reads one part's line after the other; what is left gives the same end throughout. Assumes nothing.
use mathlib.Core.Path.{◌≡◌, refl, sym, ap, ◌∙◌}
use Prim.Native.Nat.{ℕ, ◌+◌, ◌-◌, ◌≤◌, ◌<◌}
use native.Mathlib.Nat.{le_refl}
use native.Mathlib.Omega.{arith}
use lib.Dec.{lit<}
use borrow.Author.Rules.{scaled_Fits}
use mir.Syntax.{w64}
use mir.Val.{Fits}
use Rattle.tables.proofs.MacroLines.{name_ends}
use Rattle.strict.specs.declared.mode.Mode.TheVariants.{Plain}
use Rattle.parser.specs.Columns.{refused_at}
use Rattle.environment.specs.Environment.{at_the_start}
use Rattle.parser.proofs.Going.{lined, line_small}
use Rattle.parser.proofs.PartWalk.{full_walked, part_there, state_fits, refused_walked, stored_walked}
use Rattle.parser.proofs.Walking.{walking_begins, walking_more, run_ends, run_stops, run_refuses}
use Rattle.parser.proofs.runs.part_lines.Goals as goal

-- the places and sums of a turn fit
room_fits : (k : ℕ) → k < 16 → Fits w64 (k + 1)
room_fits k h = omega (arith, h)

all_fit : (n m : ℕ) → n + m ≤ 2048 → Fits w64 (n + m)
all_fit n m h = omega (arith, h)

line_fits : (n : ℕ) → n ≤ 2000000 → Fits w64 (n + 1)
line_fits n h = omega (arith, h)

-- what is left of the source falls
falls : (at next long : ℕ) → at < next → next ≤ long → long - next < long - at
falls at next long h m = omega (arith, h, m)

later : (a b c : ℕ) → a ≤ b → b < c → a ≤ c
later a b c h m = omega (arith, h, m)

within : (end at long to : ℕ) → end ≡ at + long → at + long ≤ to → end ≤ to
within end at long to e h = omega (arith, e, h)

refused_21 : ◌≡◌ {A = ℕ} 21 0 → ⊥
refused_21 z = omega (arith, z)

pub loop-r-init : goal.loop-r-init
loop-r-init c = (c.requires.1, le_refl _)

pub part_of-requires : goal.part_of-requires
part_of-requires c =
    let l = c.loop-r in
    let a = c.args in
    let w = l.invariant.0 Plain in
    let b = walking_begins _ _ _ _ _ _ _ _ _ _ w _ c.line_at-line.ensures c.loop-r-test.true c.requires.0 in
    let n = lined _ _ _ _ b in
    (n.from, (n.within, (w.fits.few, w.fits.loops_length)))

pub shape_of-floats-in_default : goal.shape_of-floats-in_default
shape_of-floats-in_default c = (c.loop-r.invariant.0 Plain).fits.floats_length ∙ sym (c.requires.1 Plain).fits.floats_length

pub shape_of-bytes-in_default : goal.shape_of-bytes-in_default
shape_of-bytes-in_default c = (c.loop-r.invariant.0 Plain).fits.bytes_length ∙ sym (c.requires.1 Plain).fits.bytes_length

pub shape_of-loops-in_default : goal.shape_of-loops-in_default
shape_of-loops-in_default c = (c.loop-r.invariant.0 Plain).fits.loops_length ∙ sym (c.requires.1 Plain).fits.loops_length

pub returns-in_default : goal.returns-in_default
returns-in_default c =
    let l = c.loop-r in
    λ mode. run_stops _ _ _ _ _ _ _ _ _ (l.invariant.0 mode) _ l.invariant.1 c.line_at-line.result c.line_at-line.ensures c.in_default.ensures

pub shape_of-floats-then-k-ge-PARTS : goal.shape_of-floats-then-k-ge-PARTS
shape_of-floats-then-k-ge-PARTS c = (c.loop-r.invariant.0 Plain).fits.floats_length ∙ sym (c.requires.1 Plain).fits.floats_length

pub shape_of-bytes-then-k-ge-PARTS : goal.shape_of-bytes-then-k-ge-PARTS
shape_of-bytes-then-k-ge-PARTS c = (c.loop-r.invariant.0 Plain).fits.bytes_length ∙ sym (c.requires.1 Plain).fits.bytes_length

pub shape_of-loops-then-k-ge-PARTS : goal.shape_of-loops-then-k-ge-PARTS
shape_of-loops-then-k-ge-PARTS c = (c.loop-r.invariant.0 Plain).fits.loops_length ∙ sym (c.requires.1 Plain).fits.loops_length

pub returns-then-k-ge-PARTS : goal.returns-then-k-ge-PARTS
returns-then-k-ge-PARTS c =
    let l = c.loop-r in
    let a = c.args in
    let w = l.invariant.0 Plain in
    let b = walking_begins _ _ _ _ _ _ _ _ _ _ w _ c.line_at-line.ensures c.loop-r-test.true c.requires.0 in
    let n = c.line_at-line.result in
    λ mode. run_refuses _ _ _ _ _ _ _ _ _ (l.invariant.0 mode) _ _ _ b _ _ _ _ _ (full_walked a.rate a.source.now a.bodies.now a.numbers.now a.shape.now l.r l.floats l.bytes l.loops n.end n.next b w.fits w.tabled c.in-Some.p c.in-Some.ensures c.if-k-ge-PARTS.true _ (ap (λ (number : ℕ). refused_at l.r number l.r.line) c.number.ensures) mode) (λ z. refused_21 (sym c.number.ensures ∙ z))

pub named-requires : goal.named-requires
named-requires c = (c.if-k-ge-PARTS.false, (c.loop-r.invariant.0 Plain).fits.loops_length)

pub offset_bounds-r-k : goal.offset_bounds-r-k
offset_bounds-r-k c = scaled_Fits _ 16 _ c.if-k-ge-PARTS.false (lit< tt)

pub bounds-r-k : goal.bounds-r-k
bounds-r-k c = c.if-k-ge-PARTS.false

pub offset_bounds-r-k-in-loop-r : goal.offset_bounds-r-k-in-loop-r
offset_bounds-r-k-in-loop-r c = scaled_Fits _ 16 _ c.if-k-ge-PARTS.false (lit< tt)

pub bounds-r-k-in-loop-r : goal.bounds-r-k-in-loop-r
bounds-r-k-in-loop-r c = c.if-k-ge-PARTS.false

pub offset_bounds-r-k-in-loop-r-2 : goal.offset_bounds-r-k-in-loop-r-2
offset_bounds-r-k-in-loop-r-2 c = scaled_Fits _ 16 _ c.if-k-ge-PARTS.false (lit< tt)

pub bounds-r-k-in-loop-r-2 : goal.bounds-r-k-in-loop-r-2
bounds-r-k-in-loop-r-2 c = c.if-k-ge-PARTS.false

pub state_of-before-requires : goal.state_of-before-requires
state_of-before-requires c =
    let l = c.loop-r in
    let a = c.args in
    let w = l.invariant.0 Plain in
    let b = walking_begins _ _ _ _ _ _ _ _ _ _ w _ c.line_at-line.ensures c.loop-r-test.true c.requires.0 in
    let n = c.line_at-line.result in
    (c.if-k-ge-PARTS.false, (part_there a.rate a.source.now a.bodies.now a.numbers.now a.shape.now l.r l.floats l.bytes l.loops n.end n.next b w.fits w.tabled c.in-Some.p c.in-Some.ensures c.if-k-ge-PARTS.false c.named.new.loops c.named.ensures c.named.auto.loops).1.1.1.1.1)

pub slice_bounds-played-count : goal.slice_bounds-played-count
slice_bounds-played-count c =
    let l = c.loop-r in
    let a = c.args in
    let w = l.invariant.0 Plain in
    let b = walking_begins _ _ _ _ _ _ _ _ _ _ w _ c.line_at-line.ensures c.loop-r-test.true c.requires.0 in
    let n = c.line_at-line.result in
    let e = c.in-Some.ensures.ends in
    let j = name_ends a.source.now l.r.at n.end _ refl (lined _ _ _ _ b).from in
    within _ _ _ _ e j

pub slice_bounds-played-start : goal.slice_bounds-played-start
slice_bounds-played-start c =
    let l = c.loop-r in
    let a = c.args in
    let w = l.invariant.0 Plain in
    let b = walking_begins _ _ _ _ _ _ _ _ _ _ w _ c.line_at-line.ensures c.loop-r-test.true c.requires.0 in
    let n = c.line_at-line.result in
    let e = c.in-Some.ensures.ends in
    let j = name_ends a.source.now l.r.at n.end _ refl (lined _ _ _ _ b).from in
    within _ _ _ _ e j

pub slice_bounds-played-end : goal.slice_bounds-played-end
slice_bounds-played-end c =
    let l = c.loop-r in
    let a = c.args in
    let w = l.invariant.0 Plain in
    let b = walking_begins _ _ _ _ _ _ _ _ _ _ w _ c.line_at-line.ensures c.loop-r-test.true c.requires.0 in
    (lined _ _ _ _ b).within

pub played-st-requires : goal.played-st-requires
played-st-requires c =
    let l = c.loop-r in
    let a = c.args in
    let w = l.invariant.0 Plain in
    let b = walking_begins _ _ _ _ _ _ _ _ _ _ w _ c.line_at-line.ensures c.loop-r-test.true c.requires.0 in
    let n = c.line_at-line.result in
    let t = w.tabled in
    let f = w.fits in record { columns = (c.if-k-ge-PARTS.false, (f.floats_length, (f.bytes_length, (c.named.auto.loops ∙ f.loops_length, state_fits a.rate a.source.now a.bodies.now a.numbers.now a.shape.now l.r l.floats l.bytes l.loops n.end n.next b w.fits w.tabled c.in-Some.p c.in-Some.ensures c.if-k-ge-PARTS.false c.named.new.loops c.named.ensures c.named.auto.loops at_the_start _ (c.state_of-before.ensures at_the_start))))); tables = (t.macros_few, (t.instruments_few, (t.bodies_length, (t.numbers_length, t.shape_length)))) }

pub shape_of-floats-then-st-ne0 : goal.shape_of-floats-then-st-ne0
shape_of-floats-then-st-ne0 c = c.played-st.auto.floats ∙ (c.loop-r.invariant.0 Plain).fits.floats_length ∙ sym (c.requires.1 Plain).fits.floats_length

pub shape_of-bytes-then-st-ne0 : goal.shape_of-bytes-then-st-ne0
shape_of-bytes-then-st-ne0 c = c.played-st.auto.bytes ∙ (c.loop-r.invariant.0 Plain).fits.bytes_length ∙ sym (c.requires.1 Plain).fits.bytes_length

pub shape_of-loops-then-st-ne0 : goal.shape_of-loops-then-st-ne0
shape_of-loops-then-st-ne0 c = c.played-st.auto.loops ∙ c.named.auto.loops ∙ (c.loop-r.invariant.0 Plain).fits.loops_length ∙ sym (c.requires.1 Plain).fits.loops_length

pub returns-then-st-ne0 : goal.returns-then-st-ne0
returns-then-st-ne0 c =
    let l = c.loop-r in
    let a = c.args in
    let w = l.invariant.0 Plain in
    let b = walking_begins _ _ _ _ _ _ _ _ _ _ w _ c.line_at-line.ensures c.loop-r-test.true c.requires.0 in
    let n = c.line_at-line.result in
    let y = c.played-st in
    λ mode. run_refuses _ _ _ _ _ _ _ _ _ (l.invariant.0 mode) _ _ _ b _ _ _ _ _ (refused_walked a.rate a.source.now a.bodies.now a.numbers.now a.shape.now l.r l.floats l.bytes l.loops n.end n.next b w.fits w.tabled c.in-Some.p c.in-Some.ensures c.if-k-ge-PARTS.false c.named.new.loops c.named.ensures c.named.auto.loops at_the_start c.state_of-before.result (c.state_of-before.ensures at_the_start) y.result y.new.floats y.new.bytes y.new.loops y.ensures.body y.ensures.places c.if-st-ne0.true _ refl mode) c.if-st-ne0.true

pub overflow_add-k : goal.overflow_add-k
overflow_add-k c = room_fits _ c.if-k-ge-PARTS.false

pub overflow_add-r : goal.overflow_add-r
overflow_add-r c = all_fit _ _ (c.played-st.ensures.body.ready c.if-st-ne0.false).room.few

pub overflow_add-r-in-loop-r : goal.overflow_add-r-in-loop-r
overflow_add-r-in-loop-r c =
    let l = c.loop-r in
    let a = c.args in
    let w = l.invariant.0 Plain in
    let b = walking_begins _ _ _ _ _ _ _ _ _ _ w _ c.line_at-line.ensures c.loop-r-test.true c.requires.0 in
    line_fits _ (line_small _ _ _ _ b)

pub loop-r-smaller : goal.loop-r-smaller
loop-r-smaller c =
    let l = c.loop-r in
    let a = c.args in
    let w = l.invariant.0 Plain in
    let b = walking_begins _ _ _ _ _ _ _ _ _ _ w _ c.line_at-line.ensures c.loop-r-test.true c.requires.0 in
    let m = lined _ _ _ _ b in
    falls _ _ _ m.onward m.inside

pub loop-r-preserved : goal.loop-r-preserved
loop-r-preserved c =
    let l = c.loop-r in
    let a = c.args in
    let w = l.invariant.0 Plain in
    let b = walking_begins _ _ _ _ _ _ _ _ _ _ w _ c.line_at-line.ensures c.loop-r-test.true c.requires.0 in
    let n = c.line_at-line.result in
    let y = c.played-st in
    let g = stored_walked a.rate a.source.now a.bodies.now a.numbers.now a.shape.now l.r l.floats l.bytes l.loops n.end n.next b w.fits w.tabled c.in-Some.p c.in-Some.ensures c.if-k-ge-PARTS.false c.named.new.loops c.named.ensures c.named.auto.loops at_the_start c.state_of-before.result (c.state_of-before.ensures at_the_start) y.result y.new.floats y.new.bytes y.new.loops y.ensures.body y.ensures.places c.if-st-ne0.false c.max.result (c.max.ensures ∙ omega arith) in
    (λ mode. walking_more _ _ _ _ _ _ _ _ _ _ (l.invariant.0 mode) _ _ b _ _ _ _ _ _ (g mode) w.goes, later _ _ _ l.invariant.1 (lined _ _ _ _ b).onward)

pub shape_of-floats : goal.shape_of-floats
shape_of-floats c = (c.loop-r.invariant.0 Plain).fits.floats_length ∙ sym (c.requires.1 Plain).fits.floats_length

pub shape_of-bytes : goal.shape_of-bytes
shape_of-bytes c = (c.loop-r.invariant.0 Plain).fits.bytes_length ∙ sym (c.requires.1 Plain).fits.bytes_length

pub shape_of-loops : goal.shape_of-loops
shape_of-loops c = (c.loop-r.invariant.0 Plain).fits.loops_length ∙ sym (c.requires.1 Plain).fits.loops_length

pub returns : goal.returns
returns c =
    let l = c.loop-r in
    λ mode. run_ends _ _ _ _ _ _ _ _ _ (l.invariant.0 mode) _ l.invariant.1 c.loop-r-test.false
