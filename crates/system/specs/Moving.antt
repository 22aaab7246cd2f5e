-- What becomes of an output to which a part is handed: it comes further by just the part's length, or takes no more.
-- Assumes nothing.
use Rattle.std.specs.Prelude.{◌≡◌, true, false, ℕ, ◌+◌, ◌≤◌, Option, List, length, take}
use Rattle.std.specs.Io.KnownBytes.{Appends, Keeps}
use Rattle.system.specs.declared.output.Output.{Output}

-- A part of n bytes is taken whole by an output that took all before it, where the program has come just as far, and
-- the program then has come as far as the output; or the output takes no more, and the program has come no further.
pub record Advanced (out : Output) (n : ℕ) (later : Output) (before after : ℕ) : Type 0 where
  pub took : later.taking ≡ true → (out.taking ≡ true) × (before ≡ out.at)
  pub further : later.taking ≡ true → (later.at ≡ out.at + n) × (after ≡ later.at)
  pub stays : later.taking ≡ false → (later.at ≡ out.at) × (after ≡ before)

-- the first bytes of a part come behind the known bytes of a writer, or none of them, or all
abbrev pub AppendsFirst : Option (List ℕ) → Option (List ℕ) → List ℕ → Type 0
AppendsFirst old new part = (n : ℕ) × (n ≤ length part) × Appends old new (take n part)

-- Of a writer whose bytes are known: all of the part comes behind them where the output takes more, and else its first
-- bytes alone; and none, where the output took no more before or the program had come to another place.
pub record Written (out : Output) (part : List ℕ) (later : Output) (before : ℕ) (old new : Option (List ℕ)) : Type 0 where
  pub all : later.taking ≡ true → Appends old new part
  pub first : AppendsFirst old new part
  pub over : out.taking ≡ false → Keeps old new
  pub older : (before ≡ out.at → ⊥) → Keeps old new
