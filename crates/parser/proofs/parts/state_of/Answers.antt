-- `state_of` begins a new part, or goes on with what one has. Assumes nothing.
use Rattle.std.proofs.Common.{ℕ, ◌-◌, ◌<◌, length, get_or, ap, ◌∙◌, arith, rules}
use Rattle.environment.specs.declared.environment.Environment.{Environment}
use Rattle.part.specs.declared.state.State.{State}
use Rattle.parser.specs.declared.sofar.Sofar.{Sofar}
use Rattle.parser.proofs.PartPlaces.{element_any}
use Rattle.parser.proofs.Storing.{from_known, from_new}
use Rattle.parser.proofs.parts.state_of.Goals as goal

pub returns-then-k-r : goal.returns-then-k-r
returns-then-k-r c d = from_new _ _ _ _ _ _ _ _ c.if-k-r.true

pub overflow_sub-result : goal.overflow_sub-result
overflow_sub-result c = c.requires.1 (omega (arith, c.if-k-r.false))

-- what the part k has, in an environment
abbrev its_state : Sofar → ℕ → Environment → State
its_state r k e = record { env = e; count = get_or r.counts k 0; others = r.all - get_or r.counts k 0; depth = get_or r.depths k 0; steps = r.steps; refusal = 0; line = 0 }

pub returns : goal.returns
returns c d =
    let inside : c.args.k < length c.args.r.now.envs = search rules in
    ap (its_state c.args.r.now c.args.k) (element_any c.args.r.now.envs c.args.k _ d inside) ∙ from_known _ _ _ _ _ _ _ _ (omega (arith, c.if-k-r.false))
