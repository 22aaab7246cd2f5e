-- What an answer stands for on a line tells which answer it is, so two answers that keep the promise of `operator` for
-- the same arguments are the same answer. Assumes nothing.
use mathlib.Core.Path.{◌≡◌, sym, ap, ap₂}
use Prim.Native.Nat.{ℕ}
use Rattle.std.specs.Prelude.{Result, Ok, Err}
use Rattle.operator.specs.declared.operator.Operator.{Operator}
use Rattle.tree.specs.Lines.{Line}
use Rattle.sheet.specs.declared.refusal.Refusal.{Refusal}
use Rattle.sheet.proofs.Outcomes.{going_same, refused_same, going_apart}
use Rattle.operators.specs.declared.line.OperatorLine.{OperatorLine}
use Rattle.operators.specs.Answers.{outcome_of}
use Rattle.sheet.proofs.Answers.{number_same}

the_line : ℕ → Operator → OperatorLine
the_line i o = record { indent = i; operator = o }

pub line_same : (line : ℕ) (r q : Result OperatorLine Refusal) → outcome_of line r ≡ outcome_of line q → r ≡ q
unfolding outcome_of the_line
line_same line (Ok r) (Ok q) e =
    let z = going_same _ _ e in ap₂ (λ (i : ℕ) (o : Operator). Ok (the_line i o)) (ap (λ (l : Line). l.indent) z) (ap (λ (l : Line). l.op) z)
line_same line (Ok r) (Err n) e = going_apart _ _ _ e
line_same line (Err n) (Ok q) e = going_apart _ _ _ (sym e)
line_same line (Err n) (Err m) e = ap Err (number_same _ _ (refused_same Line _ _ _ _ e).0)
