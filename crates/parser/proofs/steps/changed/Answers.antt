-- `changed` sets the environments that the directive gives. Assumes nothing.
use mathlib.Core.Path.{ap₂}
use mathlib.Core.List.{List}
use Rattle.environment.specs.declared.environment.Environment.{Environment}
use Rattle.parser.specs.Columns.{with_envs}
use Rattle.parser.proofs.steps.changed.Goals as goal

pub returns : goal.returns
returns c = ap₂ (λ (e : Environment) (es : List Environment). with_envs c.args.r e es) c.apply.ensures c.apply_to_parts.ensures
