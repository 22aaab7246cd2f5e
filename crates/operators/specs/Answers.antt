-- What the reader of an operator line answers, in the terms of document 01: an operator line, or the number of its refusal and its line. Assumes nothing.
use Rattle.std.proofs.Math.Option.{Option, none, some}
use Rattle.std.specs.Prelude.{ℕ, zero, suc, Result, Ok, Err}
use Rattle.tree.specs.Lines.{Line}
use Rattle.sheet.specs.Refusals.{Outcome, going, refused}
use Rattle.sheet.specs.Numbers.{number_of}
use Rattle.sheet.specs.declared.refusal.Refusal.{Refusal}
use Rattle.operators.specs.declared.line.OperatorLine.{OperatorLine}

-- the outcome that an answer stands for, on a line
unfoldable pub outcome_of : ℕ → Result OperatorLine Refusal → Outcome Line
outcome_of line (Ok read) = going (record { indent = read.indent; op = read.operator })
outcome_of line (Err why) = refused (number_of why) line

-- the indent of the line above, where there is one
unfoldable pub indent_above : ℕ → ℕ → Option ℕ
indent_above zero before = none
indent_above (suc n) before = some before
