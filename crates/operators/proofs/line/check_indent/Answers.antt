-- `check_indent` makes the definition's two tests; a line with no tab passes both. Assumes nothing.
use Rattle.std.proofs.Common.{◌≡◌, ◌+◌, ◌≤◌, ◌<◌, ℕ, zero, suc, refl, arith}
use borrow.Author.Tests.{ne_eqb, le-leb, lt-leb}
use Rattle.tree.specs.Lines.{indent_refusal}
use Rattle.sheet.specs.Refusals.{Outcome, going, refused}
use Rattle.operators.specs.OperatorLines.{indented}
use Rattle.operators.specs.Answers.{indent_above}
use Rattle.operators.proofs.line.check_indent.Goals as goal

Goes : ℕ → ℕ → ℕ → ℕ → Outcome (Unit {0}) → Type 0
Goes line above before tabs o = o ≡ indented line (indent_above above before) tabs

-- no tab
flat : (line above before tabs : ℕ) → tabs ≡ 0 → Goes line above before tabs (going tt)
unfolding Goes indented indent_refusal indent_above
flat line zero before tabs e = rw e
flat line (suc n) before tabs e = rw (le-leb tabs (before + 1) (omega arith), indent_refusal, indented)

-- a tab below no line
first : (line above before tabs : ℕ) → (tabs ≡ 0 → ⊥) → above ≡ 0 → Goes line above before tabs (refused 15 line)
unfolding Goes indented indent_refusal indent_above
first line zero before tabs h e = rw (ne_eqb tabs 0 h, indent_refusal, indented)
first line (suc n) before tabs h e = absurd (omega arith)

-- more tabs than the line above has, or one more
deeper : (line above before tabs : ℕ) → (above ≡ 0 → ⊥) → before + 1 < tabs → Goes line above before tabs (refused 16 line)
unfolding Goes indented indent_refusal indent_above
deeper line zero before tabs h o = absurd (h refl)
deeper line (suc n) before tabs h o = rw (lt-leb tabs (before + 1) o, indent_refusal, indented)

within : (line above before tabs : ℕ) → (above ≡ 0 → ⊥) → tabs ≤ before + 1 → Goes line above before tabs (going tt)
unfolding Goes indented indent_refusal indent_above
within line zero before tabs h o = absurd (h refl)
within line (suc n) before tabs h o = rw (le-leb tabs (before + 1) o, indent_refusal, indented)

pub returns-then-tabs-eq0 : goal.returns-then-tabs-eq0
unfolding Goes
returns-then-tabs-eq0 c line = flat line _ _ _ c.if-tabs-eq0.true

pub returns-then-above-eq0 : goal.returns-then-above-eq0
unfolding Goes
returns-then-above-eq0 c line = first line _ _ _ c.if-tabs-eq0.false c.if-above-eq0.true

pub returns-then-tabs-before : goal.returns-then-tabs-before
unfolding Goes
returns-then-tabs-before c line = deeper line _ _ _ c.if-above-eq0.false (omega arith)

pub returns : goal.returns
unfolding Goes
returns c line = within line _ _ _ c.if-above-eq0.false (omega arith)
