-- `stands_at` asks for the place first, and then for the byte. Assumes nothing.
use mathlib.Core.Path.{sym, ap, ◌∙◌}
use Prim.Native.Nat.{ℕ}
use lib.Dec.{eqb}
use Rattle.text.proofs.Starts.{starts_end, starts_at}
use Rattle.text.proofs.characters.stands_at.Goals as goal

pub returns-in-Some : goal.returns-in-Some
returns-in-Some c =
    let h = c.in-Some.ensures.lookup in
    ap (λ (x : ℕ). eqb x c.args.b) (h.3.1 0) ∙ sym (starts_at _ _ _ h.3.0)

pub returns-in-None : goal.returns-in-None
returns-in-None c = sym (starts_end _ _ _ c.in-None.ensures.lookup.3)
