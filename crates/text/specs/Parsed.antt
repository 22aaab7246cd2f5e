-- What a reader of a text answers, where it may find nothing: a value and the place after it. Assumes nothing.
use Rattle.std.specs.Prelude.{ℕ, Option, Some, None}
use Rattle.text.specs.declared.parsed.Parsed.{Parsed}

-- a value that ends at a place
abbrev pub parsed : {T : Type 0} → T → ℕ → Parsed T
parsed v next = record { value = v; next = next }

-- the place after what was asked for at a place; where nothing was read, that place
abbrev pub next_or : {T : Type 0} → ℕ → Option (Parsed T) → ℕ
next_or at (Some p) = p.next
next_or at None = at
