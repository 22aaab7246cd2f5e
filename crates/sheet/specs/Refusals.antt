-- A reading goes on, or is refused with a number and a line: "the first refusal ends the reading". An order of refusals of document 01, as "Note: 8,
-- 24, 21", is a `do` block here, one line for each number in that order. Assumes nothing.
use Rattle.std.specs.Prelude.{Bool, true, false, ℕ}
use Rattle.std.proofs.Math.Option.{Option, none, some}

-- what comes of a reading: something to go on with, or a refusal's number and line
pub data Outcome (A : Type 0) : Type 0 where
  going : A → Outcome A
  refused : ℕ → ℕ → Outcome A

infixl 1 ◌>>=◌
-- first the one, then the other with what the one gave; a refusal ends both
unfoldable pub ◌>>=◌ : {A B : Type 0} → Outcome A → (A → Outcome B) → Outcome B
◌>>=◌ (going x) f = f x
◌>>=◌ (refused n l) f = refused n l

infixl 1 ◌>>◌
unfoldable pub ◌>>◌ : {B : Type 0} → Outcome (Unit {0}) → Outcome B → Outcome B
◌>>◌ (going x) r = r
◌>>◌ (refused n l) r = refused n l

infix 10 refuse◌on◌unless◌
-- refusal n at a line, where a test fails
unfoldable pub refuse◌on◌unless◌ : ℕ → ℕ → Bool → Outcome (Unit {0})
refuse◌on◌unless◌ n l true = going tt
refuse◌on◌unless◌ n l false = refused n l

infix 10 refuse◌on◌if◌
-- refusal n at a line, where a test passes
unfoldable pub refuse◌on◌if◌ : ℕ → ℕ → Bool → Outcome (Unit {0})
refuse◌on◌if◌ n l true = refused n l
refuse◌on◌if◌ n l false = going tt

infix 10 refuse◌on◌without◌
-- what is there; refusal n at a line where nothing is
unfoldable pub refuse◌on◌without◌ : {A : Type 0} → ℕ → ℕ → Option A → Outcome A
refuse◌on◌without◌ n l none = refused n l
refuse◌on◌without◌ n l (some x) = going x
