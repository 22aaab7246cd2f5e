-- What a digit run that is found says: its value is that of its digits and within its limit, it ends past its start and within the text, and
-- what stands there is no digit. Whoever reads on from there relies on these. Assumes nothing.
use mathlib.Core.Path.{◌≡◌, refl, sym, ap, subst, ◌∙◌}
use mathlib.Core.Bool.{Bool, true, false}
use mathlib.Core.List.{List, [], ◌∷◌}
use Prim.Native.Nat.{ℕ, ◌+◌, ◌≤◌, ◌<◌}
use native.Mathlib.Omega.{arith}
use lib.Dec.{leb}
use lib.ListN.{length, drop, length-drop}
use borrow.Author.Tests.{leb-true}
use Rattle.std.specs.Prelude.{Option, Some, None}
use Rattle.text.specs.declared.parsed.Parsed.{Parsed}
use Rattle.text.specs.Fronts.{front}
use Rattle.text.specs.Parsed.{parsed}
use Rattle.number.specs.Digits.{is_digit, value_from, int_of, int_at}
use Rattle.text.proofs.Fronts.{Stops, front_within, after_is, after_stops}

-- a value within the limit, from the front's digits alone
pub record Run (limit at : ℕ) (ds : List ℕ) (found : Parsed ℕ) : Type 0 where
  pub some : 0 < length ds
  pub place : found.next ≡ at + length ds
  pub value : found.value ≡ value_from 0 ds
  pub below : found.value ≤ limit

run_of : (limit at d : ℕ) (ds : List ℕ) (found : Parsed ℕ) (b : Bool) → leb (value_from 0 (d ∷ ds)) limit ≡ b
    → elim b as (λ _. Option (Parsed ℕ)) [ true ↦ Some (parsed (value_from 0 (d ∷ ds)) (at + length (d ∷ ds))) | false ↦ None ] ≡ Some found
    → Run limit at (d ∷ ds) found
run_of limit at d ds found true t e =
    let p : parsed (value_from 0 (d ∷ ds)) (at + length (d ∷ ds)) ≡ found = cc in
    let h : value_from 0 (d ∷ ds) ≤ limit = leb-true _ _ t in
    let w : value_from 0 (d ∷ ds) ≡ found.value = ap (λ (q : Parsed ℕ). q.value) p in
    record { some = omega arith; place = ap (λ (q : Parsed ℕ). q.next) (sym p); value = sym w; below = omega arith }
run_of limit at d ds found false t e = cc

int_of_law : (limit at : ℕ) (ds : List ℕ) (found : Parsed ℕ) → int_of limit at ds ≡ Some found → Run limit at ds found
unfolding int_of
int_of_law limit at [] found e = cc
int_of_law limit at (d ∷ ds) found e = run_of limit at d ds found (leb (value_from 0 (d ∷ ds)) limit) refl e

-- what a digit run that is found says
pub int_run : (limit : ℕ) (s : List ℕ) (at : ℕ) (found : Parsed ℕ) → int_at limit s at ≡ Some found → Run limit at (front is_digit (drop at s)) found
unfolding int_at
int_run limit s at found e = int_of_law limit at (front is_digit (drop at s)) found e

-- a place past the start of a number and within the text
pub record Placed (s : List ℕ) (at next : ℕ) : Type 0 where
  pub past : at < next
  pub within : next ≤ length s

pub int_placed : (limit : ℕ) (s : List ℕ) (at : ℕ) (found : Parsed ℕ) → int_at limit s at ≡ Some found → Placed s at found.next
int_placed limit s at found e =
    let r = int_run limit s at found e in
    let w = front_within is_digit (drop at s) in
    let l = length-drop at s in
    record { past = omega (arith, r.some, r.place); within = omega (arith, r.some, r.place) }

pub int_below : (limit : ℕ) (s : List ℕ) (at : ℕ) (found : Parsed ℕ) → int_at limit s at ≡ Some found → found.value ≤ limit
int_below limit s at found e = (int_run limit s at found e).below

-- what stands after it is no digit, or the text ends there
pub int_stops : (limit : ℕ) (s : List ℕ) (at : ℕ) (found : Parsed ℕ) → int_at limit s at ≡ Some found → Stops is_digit (drop found.next s)
int_stops limit s at found e =
    subst (Stops is_digit) (after_is is_digit s at ∙ ap (λ (n : ℕ). drop n s) (sym (int_run limit s at found e).place)) (after_stops is_digit (drop at s))
