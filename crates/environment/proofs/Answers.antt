-- What an answer stands for on a line tells which answer it is, so two answers that keep the promise of `ranged_value`
-- or of `ranged_amplitude` for the same arguments are the same answer. Assumes nothing.
use mathlib.Core.Path.{◌≡◌, sym, ap}
use Prim.Native.Nat.{ℕ}
use lib.Ieee.{Float}
use Rattle.std.specs.Prelude.{Result, Ok, Err}
use Rattle.sheet.specs.declared.refusal.Refusal.{Refusal}
use Rattle.sheet.specs.Numbers.{outcome_on}
use Rattle.sheet.proofs.Answers.{number_same}
use Rattle.sheet.proofs.Outcomes.{going_same, refused_same, going_apart}
use Rattle.environment.specs.Ranges.{value_outcome, amplitude_outcome}

pub outcome_same : {A : Type 0} (line : ℕ) (r q : Result A Refusal) → outcome_on line r ≡ outcome_on line q → r ≡ q
outcome_same line (Ok x) (Ok y) e = ap Ok (going_same _ _ e)
outcome_same line (Ok x) (Err w) e = going_apart _ _ _ e
outcome_same line (Err v) (Ok y) e = going_apart _ _ _ (sym e)
outcome_same {A} line (Err v) (Err w) e = ap Err (number_same v w (refused_same A _ _ _ _ e).0)

module _ (line : ℕ) where
  pub value_same : (r q : Result ℕ Refusal) → value_outcome line r ≡ value_outcome line q → r ≡ q
  value_same (Ok x) (Ok y) e = ap Ok (going_same _ _ e)
  value_same (Ok x) (Err w) e = going_apart _ _ _ e
  value_same (Err v) (Ok y) e = going_apart _ _ _ (sym e)
  value_same (Err v) (Err w) e = ap Err (number_same v w (refused_same ℕ _ _ _ _ e).0)

  pub amplitude_same : (r q : Result Float Refusal) → amplitude_outcome line r ≡ amplitude_outcome line q → r ≡ q
  amplitude_same (Ok x) (Ok y) e = ap Ok (going_same _ _ e)
  amplitude_same (Ok x) (Err w) e = going_apart _ _ _ e
  amplitude_same (Err v) (Ok y) e = going_apart _ _ _ (sym e)
  amplitude_same (Err v) (Err w) e = ap Err (number_same v w (refused_same Float _ _ _ _ e).0)
