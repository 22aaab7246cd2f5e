-- What the reader of an operator line does step by step: one token's number, three, and six. Each step says what the tokens behind a place come to,
-- so that the steps chain. Private functions' contracts cite this, and no public one. Assumes nothing.
use Rattle.std.specs.Prelude.{◌≡◌, List, [], ◌∷◌, ◌++◌, ℕ, ◌+◌, length, take, drop, Float}
use Rattle.lines.specs.Tokens.{tokens_of}
use Rattle.operator.specs.declared.operator.Operator.{Operator}
use Rattle.sheet.specs.Refusals.{going, refused, ◌>>=◌}
use Rattle.strict.specs.declared.mode.Mode.{Mode}
use Rattle.operators.specs.OperatorLines.{numbers_read}

-- ---- numbers

-- the tokens behind the place `at` of a text begin with some that are read as xs, and the others stand behind the place `next`
pub record Passed (mode : Mode) (s : List ℕ) (at : ℕ) (xs : List Float) (next : ℕ) : Type 0 where
  pub numbers : (line k : ℕ) → numbers_read mode line (take (length xs + k) (tokens_of (drop at s))) ≡ (numbers_read mode line (take k (tokens_of (drop next s))) >>= (λ ys. going (xs ++ ys)))
  pub tokens : drop (length xs) (tokens_of (drop at s)) ≡ tokens_of (drop next s)

-- one of the first m tokens behind the place `at` is refused with n
abbrev pub Stopped : Mode → List ℕ → ℕ → ℕ → ℕ → Type 0
Stopped mode s at m n = (line k : ℕ) → numbers_read mode line (take (m + k) (tokens_of (drop at s))) ≡ refused n line

-- the six numbers of an operator in their order
abbrev pub numbers_of : Operator → List Float
numbers_of o = o.amplitude ∷ o.freqratio ∷ o.attack ∷ o.decay ∷ o.sustain ∷ o.release ∷ []
