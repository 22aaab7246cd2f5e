-- `end_refusal` asks for 25, 26 and 27 in this order. Assumes nothing.
use Rattle.std.proofs.Common.{refl, sym, ◌∙◌}
use Rattle.parser.proofs.Closings.{ends_none, ends_open, ends_long, ends_well}
use Rattle.parser.proofs.ending.end_refusal.Goals as goal

pub returns-then-q-eq0 : goal.returns-then-q-eq0
returns-then-q-eq0 c s places ls t w m = ends_none _ s places _ _ _ ls t c.if-q-eq0.true

pub returns-then-open : goal.returns-then-open
returns-then-open c s places ls t w m =
    ends_open _ s places _ _ _ ls t w c.if-q-eq0.false (sym c.if-open.true ∙ c.any_open-open.ensures s places _ _ _ ls refl)

pub returns-then-end-gt-LONGEST : goal.returns-then-end-gt-LONGEST
returns-then-end-gt-LONGEST c s places ls t w m =
    ends_long _ s places _ _ _ ls t w c.if-q-eq0.false _ _
    (sym c.if-open.false ∙ c.any_open-open.ensures s places _ _ _ ls refl)
    m
    c.longest-end.ensures
    c.if-end-gt-LONGEST.true

pub returns : goal.returns
returns c s places ls t w m =
    ends_well _ s places _ _ _ ls t w c.if-q-eq0.false _ _
    (sym c.if-open.false ∙ c.any_open-open.ensures s places _ _ _ ls refl)
    m
    c.longest-end.ensures
    c.if-end-gt-LONGEST.false
