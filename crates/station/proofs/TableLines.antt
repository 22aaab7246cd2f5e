-- A table's line is answered by its number (`tables` `number_told`), and two answers with one number are equal: so `macro_line` and `header_line`
-- have one answer for one argument. Assumes nothing.
use mathlib.Core.Path.{◌≡◌, refl, sym, ap}
use Rattle.std.specs.Prelude.{Result, Ok, Err}
use Rattle.sheet.specs.declared.refusal.Refusal.{Refusal}
use Rattle.sheet.proofs.Answers.{number_same}
use Rattle.tables.specs.Tables.{number_told}
use Rattle.parser.proofs.Numbers.{refusal_some}

pub told_same : (a b : Result (Unit {0}) Refusal) → number_told a ≡ number_told b → a ≡ b
told_same (Ok x) (Ok y) e = refl
told_same (Ok x) (Err why) e = absurd (refusal_some why (sym e))
told_same (Err why) (Ok x) e = absurd (refusal_some why e)
told_same (Err why) (Err other) e = ap Err (number_same why other e)
