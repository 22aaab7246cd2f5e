-- `count` makes the tests of the laws of counting, one for each answer; past the first three the time is in the range of the cast.
-- Assumes nothing.
use Rattle.std.proofs.Common.{◌≡◌, ℕ, ◌≤◌, Bool, false, pos, sym, ◌∙◌, arith, le→leb}
use lib.Ieee.{Float, fin, of_bits, in_float, lt, is_nan, to_unsigned}
use Rattle.ieee.specs.Constants.{plus_zero}
use Rattle.tone.specs.Time.{note_most}
use Rattle.tone.proofs.Counts.{Within, within_by_tests, in_range_law, cut_small, counted_nan, counted_negative, counted_many, counted_more, counted_even}
use Rattle.tone.proofs.time.count.Goals as goal

-- behind the three tests
module _ (x : Float) (n : Bool) (e : n ≡ is_nan x) (a : n ≡ false) (b : lt x plus_zero ≡ false) (d : lt (fin false 1 (pos 24)) x ≡ false) where
  within : Within x
  within = within_by_tests x (sym e ∙ a) b d

  small : (whole : ℕ) → whole ≡ to_unsigned 64 x → whole ≤ note_most
  small whole w = omega (arith, cut_small x within)

pub returns-then-is_nan : goal.returns-then-is_nan
returns-then-is_nan c = counted_nan _ (sym c.is_nan.ensures.value ∙ c.if-is_nan.true)

pub returns-then-samples : goal.returns-then-samples
unfolding of_bits
returns-then-samples c = counted_negative _ c.if-samples.true

pub returns-then-samples-2 : goal.returns-then-samples-2
unfolding of_bits
returns-then-samples-2 c = counted_many _ c.if-samples-2.true

pub truncating_f32_to_u64-whole-requires-clause-lower_bound : goal.truncating_f32_to_u64-whole-requires-clause-lower_bound
unfolding of_bits
truncating_f32_to_u64-whole-requires-clause-lower_bound c =
    (in_range_law _ (within _ _ c.is_nan.ensures.value c.if-is_nan.false c.if-samples.false c.if-samples-2.false)).0

pub truncating_f32_to_u64-whole-requires-clause-upper_bound : goal.truncating_f32_to_u64-whole-requires-clause-upper_bound
unfolding of_bits
truncating_f32_to_u64-whole-requires-clause-upper_bound c =
    (in_range_law _ (within _ _ c.is_nan.ensures.value c.if-is_nan.false c.if-samples.false c.if-samples-2.false)).1

pub int_to_float-whole : goal.int_to_float-whole
unfolding in_float of_bits
int_to_float-whole c =
    le→leb _ _ (small _ _ c.is_nan.ensures.value c.if-is_nan.false c.if-samples.false c.if-samples-2.false _ c.truncating_f32_to_u64-whole.ensures)

pub overflow_add-result : goal.overflow_add-result
unfolding of_bits
overflow_add-result c =
    omega (arith, small _ _ c.is_nan.ensures.value c.if-is_nan.false c.if-samples.false c.if-samples-2.false _ c.truncating_f32_to_u64-whole.ensures)

pub returns-then-whole-samples : goal.returns-then-whole-samples
unfolding of_bits
returns-then-whole-samples c =
    let w = c.truncating_f32_to_u64-whole.ensures in
    rw w (counted_more _ (within _ _ c.is_nan.ensures.value c.if-is_nan.false c.if-samples.false c.if-samples-2.false) (rw w at c.if-whole-samples.true))

pub returns : goal.returns
unfolding of_bits
returns c =
    let w = c.truncating_f32_to_u64-whole.ensures in
    rw w (counted_even _ (within _ _ c.is_nan.ensures.value c.if-is_nan.false c.if-samples.false c.if-samples-2.false) (rw w at c.if-whole-samples.false))
