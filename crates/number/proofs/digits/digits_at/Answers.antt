-- `digits_at` is the run of digits cut out of the text: past the text's end there is none. Assumes nothing.
use Rattle.std.proofs.Common.{◌≡◌, ◌+◌, ◌-◌, ◌≤◌, ◌<◌, ◌⊎◌, ℕ, inl, inr, List, [], Option, Some, None, length, take, drop, sym, ap, ◌∙◌, refl, subst, arith, rules, length-drop, Bor}
use Rattle.std.specs.Prelude.{MatchOption, slice_range, unwrap_or}
use Rattle.text.specs.Fronts.{front}
use Rattle.text.proofs.Fronts.{front_end, front_within, take_front}
use Rattle.text.proofs.Passes.{front_passes, passed_front}
use Rattle.number.specs.Digits.{is_digit}
use Rattle.number.proofs.digits.digits_at.Goals as goal

-- no range where the run ends behind the text
outside : (s : List ℕ) (i end : ℕ) → end ≡ i + length (front is_digit (drop i s)) → (end < i) ⊎ (length s < end) → [] ≡ front is_digit (drop i s)
outside s i end e (inl h) = absurd (omega arith)
outside s i end e (inr h) = sym (front_end is_digit s i (omega (arith, front_within is_digit (drop i s), length-drop i s)))

Run : (s : List ℕ) (i : ℕ) (ds : List ℕ) → Type 0
Run s i ds = (ds ≡ front is_digit (drop i s)) × (0 < length ds → i + length ds ≤ length s)

cut : (s : List ℕ) (i end : ℕ) (got : Option (Bor (List ℕ))) (other : Bor (List ℕ)) → other.now ≡ [] → end ≡ i + length (front is_digit (drop i s))
    → MatchOption got ((end < i) ⊎ (length s < end)) (λ x. (i ≤ end) × (end ≤ length s) × (x.now ≡ slice_range s i end) × (length x.now + i ≡ end))
    → Run s i (unwrap_or got other).now
unfolding Run
cut s i end (Some x) other n e h =
    let k : end - i ≡ length (front is_digit (drop i s)) = omega arith in
    (h.2 ∙ ap (λ (n : ℕ). take n (drop i s)) k ∙ take_front is_digit (drop i s), λ o. omega (arith, h))
cut s i end None other n e h = (n ∙ outside s i end e h, λ o. absurd (omega (arith, ap length n)))

is_run : (c : goal.After-unwrap_or) → Run c.args.s.now c.args.i c.unwrap_or.result.now
is_run c =
    subst (λ (x : Bor (List ℕ)). Run c.args.s.now c.args.i x.now) (sym c.unwrap_or.ensures)
    (cut _ _ _ c.get.result _ refl c.digits_end.ensures c.get.ensures.lookup.0)

pub returns-clause-run : goal.returns-clause-run
unfolding Run
returns-clause-run c = (is_run c).0

pub returns-clause-digits : goal.returns-clause-digits
unfolding Run
returns-clause-digits c = rw ((is_run c).0) (passed_front is_digit _ (front_passes is_digit _))

pub returns-clause-within : goal.returns-clause-within
unfolding Run
returns-clause-within c = (is_run c).1
