-- Answers to a caller who hands in a sheet: how many, or a refusal. "28 to 30 return count 0, line 0, and write nothing." Assumes nothing.
use Rattle.std.specs.Prelude.{ℕ, Result}
use Rattle.sheet.specs.declared.refusal.Refusal.{Refusal}
use Rattle.sheet.specs.Numbers.{outcome_on}
use Rattle.sheet.specs.Refusals.{Outcome}

-- what an answer says: a count, or a refusal's number with line 0
abbrev pub answered : Result ℕ Refusal → Outcome ℕ
answered r = outcome_on 0 r
