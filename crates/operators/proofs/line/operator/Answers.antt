-- `operator` follows the definition's order: a law for each of its exits says what the line comes to there. Assumes nothing.
use Rattle.std.proofs.Common.{ℕ, sym, ap, ◌∙◌, arith}
use Rattle.std.proofs.lemmas.Result.{err_from_is_err_and}
use Rattle.sheet.specs.Refusals.{going}
use Rattle.operators.specs.OperatorLines.{indented, operator_of}
use Rattle.operators.specs.Steps.{numbers_of}
use Rattle.operators.specs.Answers.{outcome_of, indent_above}
use Rattle.operators.proofs.Steps.{line_indented, line_counted, line_stopped, line_unfed, line_full, line_read}
use Rattle.operators.proofs.line.operator.Goals as goal
use Rattle.operators.proofs.line.operator.Goals.{then-count-lt-TOKENS_LEAST-via-then-count-lt-TOKENS_LEAST, then-count-lt-TOKENS_LEAST-via-else-count-lt-TOKENS_LEAST+then-count-gt-TOKENS_MOST}

pub returns-in_err-check_indent : goal.returns-in_err-check_indent
unfolding outcome_of
returns-in_err-check_indent c line =
    let p = err_from_is_err_and c.from_residual.result c.from_residual.ensures.1 in
    let a = c.args in
    rw (p.1, p.2)
    (line_indented _ _ _ _ _ _ (ap (indented line (indent_above a.above a.before)) (sym c.indent-indent.ensures) ∙ sym (c.in_err-check_indent.ensures line)))

pub returns-then-count-lt-TOKENS_LEAST : goal.returns-then-count-lt-TOKENS_LEAST
unfolding outcome_of
returns-then-count-lt-TOKENS_LEAST c line =
    let n = c.tokens-count.ensures in
    let a = c.args in
    let i = ap (indented line (indent_above a.above a.before)) (sym c.indent-indent.ensures) ∙ sym (c.in_ok-check_indent.ensures line) in
    elim c.then-count-lt-TOKENS_LEAST.branch [
      | then-count-lt-TOKENS_LEAST-via-then-count-lt-TOKENS_LEAST w ↦ line_counted _ _ _ _ _ i (λ (e : _). omega arith) (λ (e : _). omega arith)
      | then-count-lt-TOKENS_LEAST-via-else-count-lt-TOKENS_LEAST+then-count-gt-TOKENS_MOST w ↦
          line_counted _ _ _ _ _ i (λ (e : _). omega arith) (λ (e : _). omega arith)
    ]

pub returns-in_err-six : goal.returns-in_err-six
unfolding outcome_of
returns-in_err-six c line =
    let p = err_from_is_err_and c.from_residual-in_err-six.result c.from_residual-in_err-six.ensures.1 in
    let a = c.args in
    let i = ap (indented line (indent_above a.above a.before)) (sym c.indent-indent.ensures) ∙ sym (c.in_ok-check_indent.ensures line) in
    rw (p.1, p.2) (line_stopped _ _ _ _ _ i (omega arith) (omega arith) _ c.in_err-six.ensures)

pub returns-in_err-feedback : goal.returns-in_err-feedback
unfolding outcome_of
returns-in_err-feedback c line =
    let p = err_from_is_err_and c.from_residual-in_err-feedback.result c.from_residual-in_err-feedback.ensures.1 in
    let a = c.args in
    let i = ap (indented line (indent_above a.above a.before)) (sym c.indent-indent.ensures) ∙ sym (c.in_ok-check_indent.ensures line) in
    rw (p.1, p.2) (line_unfed _ _ _ _ _ i (omega arith) (omega arith) c.in_ok-six.six.value _ c.in_ok-six.ensures _ (sym (c.in_err-feedback.ensures line)))

pub returns-then-above-ge-OPERATORS_MOST : goal.returns-then-above-ge-OPERATORS_MOST
unfolding outcome_of
returns-then-above-ge-OPERATORS_MOST c line =
    let a = c.args in
    let i = ap (indented line (indent_above a.above a.before)) (sym c.indent-indent.ensures) ∙ sym (c.in_ok-check_indent.ensures line) in
    line_full _ _ _ _ _ i (omega arith) (omega arith) c.in_ok-six.six.value _ c.in_ok-six.ensures _ (sym (c.in_ok-feedback.ensures line)) c.if-above-ge-OPERATORS_MOST.true

pub returns : goal.returns
unfolding outcome_of operator_of
returns c line =
    let a = c.args in
    let i = ap (indented line (indent_above a.above a.before)) (sym c.indent-indent.ensures) ∙ sym (c.in_ok-check_indent.ensures line) in
    ap (λ (n : ℕ). going (record { indent = n; op = operator_of (numbers_of c.in_ok-six.six.value) c.in_ok-feedback.feedback })) c.indent-indent.ensures
    ∙ line_read _ _ _ _ _ i (omega arith) (omega arith) c.in_ok-six.six.value _ c.in_ok-six.ensures _ (sym (c.in_ok-feedback.ensures line)) c.if-above-ge-OPERATORS_MOST.false
