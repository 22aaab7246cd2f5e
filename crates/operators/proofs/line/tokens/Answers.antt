-- `tokens` counts: so many tokens are behind it, and those of what follows make the rest. Assumes nothing.
use mathlib.Core.Path.{ap}
use native.Mathlib.Omega.{arith}
use lib.ListN.{length}
use Rattle.lines.proofs.Tokens.{Token, token_none, token_next, token_past}
use Rattle.operators.proofs.line.tokens.Goals as goal

pub loop-at-init : goal.loop-at-init
loop-at-init c = (omega arith, omega arith)

pub returns-then-from-text : goal.returns-then-from-text
returns-then-from-text c =
    let t = token_none _ _ _ c.blanks_end-from.ensures c.if-from-text.true in
    omega (arith, c.loop-at.invariant.1, ap length t)

pub loop-at-smaller : goal.loop-at-smaller
loop-at-smaller c = let t = (let it : Token c.args.text.now c.loop-at.at c.blanks_end-from.result c.ink_end-at.result = token_next _ _ _ c.blanks_end-from.ensures c.if-from-text.false _ c.ink_end-at.ensures in it) in omega (arith, t.some, t.within, c.blanks_end-from.ensures)

pub loop-at-preserved : goal.loop-at-preserved
loop-at-preserved c =
    let t = (let it : Token c.args.text.now c.loop-at.at c.blanks_end-from.result c.ink_end-at.result = token_next _ _ _ c.blanks_end-from.ensures c.if-from-text.false _ c.ink_end-at.ensures in it) in
    (omega (arith, t.some, c.blanks_end-from.ensures), omega (arith, c.loop-at.invariant.1, ap length t.tokens))

pub returns : goal.returns
returns c = omega (arith, c.loop-at.invariant.1, ap length (token_past c.args.text.now c.loop-at.at c.loop-at-test.false))
