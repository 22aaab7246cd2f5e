-- `told_of` tells the count or the refusal that an answer has. Assumes nothing.
use mathlib.Core.Path.{sym, ap, ◌∙◌}
use borrow.Author.Rules.{rules}
use Prim.Native.Nat.{ℕ}
use Rattle.sheet.specs.Refusals.{refused}
use Rattle.sheet.specs.Answers.{answered}
use Rattle.station.specs.Calls.{told}
use Rattle.station.proofs.told.told_of.Goals as goal

pub returns-in-Ok : goal.returns-in-Ok
returns-in-Ok c = c.so_many.ensures ∙ sym (ap (λ a. told (answered a)) c.in-Ok.is)

pub returns-in-Err : goal.returns-in-Err
returns-in-Err c = c.turned_away.ensures ∙ ap (λ (k : ℕ). told (refused k 0)) c.number.ensures ∙ sym (ap (λ a. told (answered a)) c.in-Err.is)
