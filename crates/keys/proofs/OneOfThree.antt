-- What a byte is that stands for an accidental of a key, in document 01's words. Assumes nothing.
use mathlib.Core.Path.{◌≡◌}
use mathlib.Core.Logic.{◌⊎◌}
use Prim.Native.Nat.{ℕ}
use Prim.Native.Char.{code}

-- "`+`, `-` or `=`"
abbrev pub KeysAccidental : ℕ → Type 0
KeysAccidental b = (b ≡ code "+") ⊎ ((b ≡ code "-") ⊎ (b ≡ code "="))
