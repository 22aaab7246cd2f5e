-- What an answer stands for on a line tells which answer it is: changes are told apart by what they do to an
-- environment. So two answers that keep the promise of `read_directive` for the same arguments are the same answer.
-- Assumes nothing.
use mathlib.Core.Path.{◌≡◌, refl, sym, ap}
use Prim.Native.Nat.{ℕ, suc}
use native.Mathlib.Omega.{arith}
use Rattle.std.specs.Prelude.{Result, Ok, Err}
use Rattle.sheet.specs.declared.refusal.Refusal.{Refusal}
use Rattle.sheet.proofs.Answers.{number_same}
use Rattle.sheet.proofs.Outcomes.{going_same, refused_same, going_apart}
use Rattle.environment.specs.declared.environment.Environment.{Environment}
use Rattle.environment.specs.Environment.{at_the_start, with_tempo, with_denominator, with_key}
use Rattle.keys.specs.declared.key.Key.{Key}
use Rattle.directive.specs.declared.directive.Directive.{Directive}
use Rattle.directive.specs.declared.directive.Directive.TheVariants.{Tempo, Denominator, OfKey}
use Rattle.directive.specs.Directives.{directive_outcome}

abbrev Change : Type 0
Change = Environment → Environment

-- a change that leaves the tempo sets none, nor does one that leaves the denominator set one
tempo_apart : {A : Type 0} (v : ℕ) (f : Change) → ((e : Environment) → (f e).tempo ≡ e.tempo) → with_tempo v ≡ f → A
tempo_apart v f h e =
    let other = with_tempo (suc v) at_the_start in
    let z : v ≡ (f other).tempo = ap (λ (g : Change). (g other).tempo) e in
    let k : (f other).tempo ≡ suc v = h other in absurd (omega (arith, z, k))

denominator_apart : {A : Type 0} (v : ℕ) (f : Change) → ((e : Environment) → (f e).denominator ≡ e.denominator)
    → with_denominator v ≡ f → A
denominator_apart v f h e =
    let other = with_denominator (suc v) at_the_start in
    let z : v ≡ (f other).denominator = ap (λ (g : Change). (g other).denominator) e in
    let k : (f other).denominator ≡ suc v = h other in absurd (omega (arith, z, k))

pub directive_same : (line : ℕ) (d q : Result Directive Refusal) → directive_outcome line d ≡ directive_outcome line q → d ≡ q
unfolding directive_outcome
directive_same line (Ok (Tempo v)) (Ok (Tempo w)) e = ap (λ (n : ℕ). Ok (Tempo n)) (ap (λ (g : Change). (g at_the_start).tempo) (going_same _ _ e))
directive_same line (Ok (Tempo v)) (Ok (Denominator w)) e = tempo_apart v (with_denominator w) (λ x. refl) (going_same _ _ e)
directive_same line (Ok (Tempo v)) (Ok (OfKey k)) e = tempo_apart v (with_key k) (λ x. refl) (going_same _ _ e)
directive_same line (Ok (Tempo v)) (Err why) e = going_apart _ _ _ e
directive_same line (Ok (Denominator v)) (Ok (Tempo w)) e = denominator_apart v (with_tempo w) (λ x. refl) (going_same _ _ e)
directive_same line (Ok (Denominator v)) (Ok (Denominator w)) e =
    ap (λ (n : ℕ). Ok (Denominator n)) (ap (λ (g : Change). (g at_the_start).denominator) (going_same _ _ e))
directive_same line (Ok (Denominator v)) (Ok (OfKey k)) e = denominator_apart v (with_key k) (λ x. refl) (going_same _ _ e)
directive_same line (Ok (Denominator v)) (Err why) e = going_apart _ _ _ e
directive_same line (Ok (OfKey k)) (Ok (Tempo v)) e = tempo_apart v (with_key k) (λ x. refl) (going_same _ _ (sym e))
directive_same line (Ok (OfKey k)) (Ok (Denominator v)) e = denominator_apart v (with_key k) (λ x. refl) (going_same _ _ (sym e))
directive_same line (Ok (OfKey k)) (Ok (OfKey l)) e = ap (λ (n : Key). Ok (OfKey n)) (ap (λ (g : Change). (g at_the_start).key) (going_same _ _ e))
directive_same line (Ok (OfKey k)) (Err why) e = going_apart _ _ _ e
directive_same line (Err why) (Ok (Tempo v)) e = going_apart _ _ _ (sym e)
directive_same line (Err why) (Ok (Denominator v)) e = going_apart _ _ _ (sym e)
directive_same line (Err why) (Ok (OfKey k)) e = going_apart _ _ _ (sym e)
directive_same line (Err v) (Err w) e = ap Err (number_same v w (refused_same Change _ _ _ _ e).0)
