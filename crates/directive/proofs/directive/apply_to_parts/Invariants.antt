-- `apply_to_parts` carries the directive out on one environment after the other. Assumes nothing.
use mathlib.Core.Path.{◌≡◌}
use Rattle.directive.specs.Directives.{applied_to}
use Rattle.directive.proofs.directive.apply_to_parts.Given as goal

abbrev pub invariant-loop-env : goal.invariant-loop-env
invariant-loop-env g l = l.existing ≡ applied_to l.d l.env-index l.initial.existing
