-- `release_at` lends the two regions of the instrument. Assumes nothing.
use mathlib.Core.Path.{ap₂, ◌∙◌}
use mathlib.Core.List.{List}
use Prim.Native.Nat.{ℕ}
use lib.Ieee.{Float}
use Rattle.tree.specs.Lines.{release_of}
use Rattle.commands.specs.Commands.{lines_held}
use Rattle.layout.proofs.Regions.{lent_region}
use Rattle.parser.proofs.header.release_at.Goals as goal

pub returns : goal.returns
returns c =
    let g = c.args in
    c.release_held.ensures
    ∙ ap₂ (λ (x : List Float) (y : List ℕ). release_of (lines_held g.size x y)) (lent_region 192 g.i g.numbers.now) (lent_region 64 g.i g.shape.now)
