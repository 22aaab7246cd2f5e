-- How an answer is handed on: piece by piece, each where the one before it ended. Assumes nothing.
use Rattle.std.specs.Prelude.{◌≡◌, true, false, List, [], ◌∷◌, ◌++◌, ℕ, ◌+◌, ◌^◌, ◌≤◌, ◌<◌, length, take, drop}
use Rattle.cue.specs.declared.handing.Handing.{Handing}

-- the output takes bytes, and the program has come just as far as it says
pub record Takes (out : Handing) (reached : ℕ) : Type 0 where
  pub taking : out.out.taking ≡ true
  pub last : reached ≡ out.out.at

-- the part is the next piece of the answer from a place on
pub record Next (answer : List ℕ) (at : ℕ) (part : List ℕ) : Type 0 where
  pub piece : part ≡ take (length part) (drop at answer)
  pub inside : at + length part ≤ length answer
  pub counted : at + length part < 2 ^ 64

-- so many bytes more are handed on, or the output takes no more
pub record Moved (out : Handing) (n : ℕ) (later : Handing) (reached : ℕ) : Type 0 where
  pub further : later.out.taking ≡ true → later.out.at ≡ out.out.at + n
  pub stays : later.out.taking ≡ false → later.out.at ≡ out.out.at
  pub last : reached ≡ later.out.at

-- nothing is handed on yet
abbrev pub Fresh : Handing → ℕ → Type 0
Fresh out reached = Takes out reached × (out.out.at ≡ 0)

-- all of the answer is handed on, or the output takes no more
abbrev pub Whole : List ℕ → Handing → Type 0
Whole answer out = out.out.taking ≡ true → out.out.at ≡ length answer

-- ---- what has been written

-- parts that were handed on one behind the other, the last in front, and the place that was reached
pub data Handed (answer : List ℕ) : List (List ℕ) → ℕ → Type 0 where
  none : Handed answer [] 0
  more : {parts : List (List ℕ)} {at : ℕ} {part : List ℕ} → Handed answer parts at → Next answer at part → Handed answer (part ∷ parts) (at + length part)

-- all their bytes, in the order in which they were handed on
unfoldable pub written : List (List ℕ) → List ℕ
written [] = []
written (part ∷ parts) = written parts ++ part
