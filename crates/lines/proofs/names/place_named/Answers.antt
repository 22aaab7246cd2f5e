-- `place_named` keeps a `Looked` search, and cuts each name's places at the text's end. Assumes nothing.
use mathlib.Core.Path.{◌≡◌, sym, ap, subst, ◌∙◌}
use Rattle.text.specs.Characters.{same}
use Prim.Native.Nat.{ℕ, ◌+◌, ◌*◌, ◌<◌, ◌-◌, ◌/◌}
use lib.ListN.{length}
use native.Mathlib.Omega.{arith}
use Rattle.lines.proofs.Places.{Looked, looked_more, looked_found, looked_none, between_cut}
use Rattle.lines.proofs.names.place_named.Goals as goal

pub returns-then-same_text-clause-meant : goal.returns-then-same_text-clause-meant
returns-then-same_text-clause-meant c =
    let two : 2 * c.loop-passed.passed + 1 < length c.args.places.now = omega arith in
    (looked_found _ _ _ _ _ c.loop-passed.invariant two (ap (same _) (sym (between_cut _ _ _ _ _ (c.min-to.ensures ∙ omega arith) (c.min-from.ensures ∙ omega arith))) ∙ sym c.same_text.ensures ∙ c.if-same_text.true)).0

pub loop-passed-preserved : goal.loop-passed-preserved
loop-passed-preserved c =
    let two : 2 * c.loop-passed.passed + 1 < length c.args.places.now = omega arith in
    let next : 2 * c.loop-passed.passed + 2 ≡ 2 * (c.loop-passed.passed + 1) = omega arith in
    let at : ℕ → Type 0 = λ n. Looked c.args.s.now c.args.places.now c.args.name.now n (c.loop-passed.passed + 1) in
    subst at next (looked_more _ _ _ _ _ c.loop-passed.invariant two (ap (same _) (sym (between_cut _ _ _ _ _ (c.min-to.ensures ∙ omega arith) (c.min-from.ensures ∙ omega arith))) ∙ sym c.same_text.ensures ∙ c.if-same_text.false))

pub returns-clause-meant : goal.returns-clause-meant
returns-clause-meant c =
    let few : length c.args.places.now - 2 * c.loop-passed.passed < 2 = omega arith in
    let half : length c.args.places.now / 2 ≡ c.loop-passed.passed = omega arith in
    half ∙ (looked_none _ _ _ _ _ c.loop-passed.invariant few).0
