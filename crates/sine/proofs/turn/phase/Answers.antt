-- `phase` adds two limbs: the law `limbs` says what their sum is, and `wrapping_add_u32` wraps it. Assumes nothing.
use Rattle.std.proofs.Common.{◌-◌, ◌*◌, ◌/◌, ◌%◌, ◌^◌, ◌∙◌, arith, pow_pos}
use lib.Bits.{and_le_l}
use Rattle.sine.specs.Turn.{C}
use Rattle.sine.proofs.Limbs.{one_shifted, limbs}
use Rattle.sine.proofs.turn.phase.Goals as goal

pub overflow_sub-low : goal.overflow_sub-low
overflow_sub-low c = rw (one_shifted _ c.requires.1) (pow_pos c.args.j)

pub overflow_add-low : goal.overflow_add-low
unfolding C
overflow_add-low c = omega (arith, and_le_l (c.args.m * (C / 2 ^ 31)) (1 * 2 ^ c.args.j % 2 ^ 64 - 1))

pub returns : goal.returns
unfolding C
returns c = c.wrapping_add_u32.ensures.value ∙ limbs c.args.m C c.args.j c.requires.1
