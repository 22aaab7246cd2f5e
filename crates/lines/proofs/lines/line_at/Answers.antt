-- `line_at` looks for the LF and then at the byte before it; each law of `LineCuts` is one answer. Assumes nothing.
use Rattle.lines.proofs.LineCuts.{line_last, line_empty, line_cr, line_plain}
use Rattle.lines.proofs.lines.line_at.Goals as goal

pub returns-then-lf-s : goal.returns-then-lf-s
returns-then-lf-s c = line_last _ _ _ c.lf_from-lf.ensures c.if-lf-s.true

pub returns-then-lf-i : goal.returns-then-lf-i
returns-then-lf-i c = line_empty _ _ _ c.lf_from-lf.ensures c.if-lf-s.false c.if-lf-i.true

pub returns-then-s-last-eq13 : goal.returns-then-s-last-eq13
returns-then-s-last-eq13 c =
    line_cr _ _ _ c.lf_from-lf.ensures c.if-lf-s.false c.if-lf-i.false c.if-s-last-eq13.true

pub returns : goal.returns
returns c =
    line_plain _ _ _ c.lf_from-lf.ensures c.if-lf-s.false c.if-lf-i.false c.if-s-last-eq13.false
