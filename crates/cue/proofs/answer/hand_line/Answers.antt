-- `hand_line` hands the line of the refusal on, which is the whole answer. Assumes nothing.
use mathlib.Core.Path.{◌≡◌, sym, ap, ◌∙◌}
use native.Mathlib.Omega.{arith}
use lib.Dec.{lit≤}
use lib.ListN.{length, take}
use Rattle.system.specs.Counts.{Counts}
use Rattle.refusal.proofs.Starts.{line_taken, line_within}
use Rattle.cue.specs.Answer.{answer_of}
use Rattle.cue.proofs.Pieces.{whole_next}
use Rattle.cue.proofs.answer.hand_line.Goals as goal

pub slice_bounds-text-end : goal.slice_bounds-text-end
slice_bounds-text-end g c = ((let it : Counts c.refused_line-n.result c.refused_line-n.new.text = line_within _ _ _ _ _ (lit≤ tt) c.refused_line-n.ensures.count c.refused_line-n.ensures.bytes c.refused_line-n.auto.text in it)).0

pub slice_bounds-hand-end : goal.slice_bounds-hand-end
slice_bounds-hand-end g c = ((let it : Counts c.refused_line-n.result c.refused_line-n.new.text = line_within _ _ _ _ _ (lit≤ tt) c.refused_line-n.ensures.count c.refused_line-n.ensures.bytes c.refused_line-n.auto.text in it)).1

pub hand-requires : goal.hand-requires
hand-requires g c =
    record { taking = c.requires.fresh.0; next = whole_next _ _ _ c.requires.fresh.1 ((let it : take c.refused_line-n.result c.refused_line-n.new.text ≡ answer_of c.args.mode c.args.size c.args.source.now = line_taken _ _ _ _ _ (lit≤ tt) c.refused_line-n.ensures.count c.refused_line-n.ensures.bytes ∙ sym c.requires.answer in it)) (omega (arith, ((let it : Counts c.refused_line-n.result c.refused_line-n.new.text = line_within _ _ _ _ _ (lit≤ tt) c.refused_line-n.ensures.count c.refused_line-n.ensures.bytes c.refused_line-n.auto.text in it)).1, c.refused_line-n.type_inv)) }

pub returns : goal.returns
returns g c =
    λ t. omega (arith, c.hand.ensures.further t, c.requires.fresh.1, ap length ((let it : take c.refused_line-n.result c.refused_line-n.new.text ≡ answer_of c.args.mode c.args.size c.args.source.now = line_taken _ _ _ _ _ (lit≤ tt) c.refused_line-n.ensures.count c.refused_line-n.ensures.bytes ∙ sym c.requires.answer in it)))
