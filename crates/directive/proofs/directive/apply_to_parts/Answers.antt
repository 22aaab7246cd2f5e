-- `apply_to_parts` carries the directive out on one environment after the other. Assumes nothing.
use mathlib.Core.Path.{◌≡◌, ap, ◌∙◌}
use mathlib.Core.List.{List, ◌++◌}
use Prim.Native.Nat.{ℕ, min}
use native.Mathlib.Omega.{arith}
use lib.ListN.{length, take, drop, get_or, set}
use Rattle.environment.specs.declared.environment.Environment.{Environment}
use Rattle.directive.specs.Directives.{applied, applied_to}
use Rattle.directive.proofs.Parts.{none_applied, applied_more, applied_front, applied_most}
use Rattle.directive.proofs.directive.apply_to_parts.Goals as goal

pub loop-env-init : goal.loop-env-init
loop-env-init g c = none_applied _ _

pub loop-env-preserved : goal.loop-env-preserved
loop-env-preserved g c =
    let l = c.loop-env in
    let a = c.args in
    ap (λ (e : Environment). set l.existing l.env-index e) c.apply.ensures
    ∙ ap (λ (es : List Environment). set es l.env-index (applied a.d (get_or es l.env-index _))) l.invariant
    ∙ applied_more a.d l.env-index (take c.min-most.result a.envs) _ c.loop-env-test.true

pub returns : goal.returns
returns g c =
    let l = c.loop-env in
    let a = c.args in
    let most = c.min-most.result in
    let all : l.env-index ≡ length (take most a.envs) = omega arith in
    let long : length a.envs ≡ 16 = omega arith in
    let least : most ≡ min a.n (length a.envs) = omega arith in
    ap (λ (es : List Environment). es ++ drop most a.envs) (l.invariant ∙ ap (λ (k : ℕ). applied_to a.d k (take most a.envs)) all)
    ∙ applied_front a.d most a.envs
    ∙ ap (λ (k : ℕ). applied_to a.d k a.envs) least
    ∙ applied_most a.d a.n a.envs
