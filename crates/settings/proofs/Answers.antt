-- What an answer stands for on a line tells which answer it is, so two answers that keep a command's promise for the
-- same arguments are the same answer. The five commands share this. Assumes nothing.
use mathlib.Core.Path.{◌≡◌, sym, ap}
use Prim.Native.Nat.{ℕ}
use Rattle.std.specs.Prelude.{Result, Ok, Err}
use Rattle.sheet.specs.declared.refusal.Refusal.{Refusal}
use Rattle.environment.specs.declared.environment.Environment.{Environment}
use Rattle.sheet.proofs.Answers.{number_same}
use Rattle.sheet.proofs.Outcomes.{going_same, refused_same, going_apart}
use Rattle.settings.specs.Changes.{change_outcome}

pub change_same : (line : ℕ) (r q : Result Environment Refusal) → change_outcome line r ≡ change_outcome line q → r ≡ q
change_same line (Ok x) (Ok y) e = ap Ok (going_same _ _ e)
change_same line (Ok x) (Err w) e = going_apart _ _ _ e
change_same line (Err v) (Ok y) e = going_apart _ _ _ (sym e)
change_same line (Err v) (Err w) e = ap Err (number_same v w (refused_same Environment _ _ _ _ e).0)
