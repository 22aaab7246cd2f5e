-- Laws of tails: what the test says in words, both ways; that a token may stand anywhere in a line; and what comes of
-- the test that it is read to its end. Assumes nothing.
use mathlib.Core.Path.{◌≡◌, refl}
use mathlib.Core.Bool.{Bool, true, false}
use mathlib.Core.List.{List}
use Prim.Native.Nat.{ℕ, ◌+◌, ◌≤◌}
use native.Mathlib.Omega.{arith}
use lib.Dec.{ltb}
use lib.ListN.{length}
use borrow.Author.Tests.{ltb-true, ltb-false, lt-ltb, le-ltb}
use Rattle.sheet.specs.Refusals.{going, refused, refuse◌on◌if◌}
use Rattle.strict.specs.declared.mode.Mode.{Mode}
use Rattle.strict.specs.declared.mode.Mode.TheVariants.{Plain, Strict}
use Rattle.strict.specs.Strict.{tailed, read_to_its_end}

-- "In plain mode nothing changes": no token has a tail that counts
pub tailed_plain : (stop end : ℕ) → tailed Plain stop end ≡ false
unfolding tailed
tailed_plain stop end = refl

-- in strict mode a token has none exactly where its reader came to its end
pub tailed_strict : (stop end : ℕ) → tailed Strict stop end ≡ false → end ≤ stop
unfolding tailed
tailed_strict stop end e = ltb-false stop end e

pub strict_tailed : (stop end : ℕ) → end ≤ stop → tailed Strict stop end ≡ false
unfolding tailed
strict_tailed stop end h = le-ltb stop end h

-- both places counted from further on
pub tailed_moved : (mode : Mode) (k stop end : ℕ) → tailed mode (k + stop) (k + end) ≡ tailed mode stop end
unfolding tailed
tailed_moved Plain k stop end = refl
tailed_moved Strict k stop end = go (ltb stop end) refl
  where
    go : (b : Bool) → ltb stop end ≡ b → ltb (k + stop) (k + end) ≡ b
    go true e = lt-ltb (k + stop) (k + end) (omega (arith, ltb-true stop end e))
    go false e = le-ltb (k + stop) (k + end) (omega (arith, ltb-false stop end e))

module _ (mode : Mode) (line : ℕ) (token : List ℕ) (stop : ℕ) where
  pub read_through : tailed mode stop (length token) ≡ false → read_to_its_end mode line token stop ≡ going tt
  unfolding read_to_its_end refuse◌on◌if◌
  read_through e = rw e

  pub read_tail : tailed mode stop (length token) ≡ true → read_to_its_end mode line token stop ≡ refused 32 line
  unfolding read_to_its_end refuse◌on◌if◌
  read_tail e = rw e
