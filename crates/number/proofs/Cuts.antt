-- What a decimal that is read says: it is the nearest f32 to its digits' number, at most 18 of them, what stands after it is no digit or
-- the text's end, and its value is a finite f32 that is not below zero. Assumes nothing.
use mathlib.Core.Path.{◌≡◌, refl, sym, ap, subst, ◌∙◌}
use mathlib.Core.Bool.{Bool, true, false}
use mathlib.Core.List.{List, [], ◌∷◌}
use Prim.Native.Nat.{ℕ, ◌+◌, ◌^◌, ◌≤◌, ◌<◌}
use native.Mathlib.Nat.{one-le-pow, mul-le-mul_left}
use native.Mathlib.Omega.{arith}
use lib.Dec.{T, leb, eqb}
use lib.ListN.{length, drop, length-drop}
use lib.Seq.{drop-drop}
use lib.Ieee.{Float, nan, inf, fin, binary32, round, le, fits}
use lib.Ieee.Fits.{round-fits}
use lib.Ieee.Order.{round_mono}
use lib.Ieee.Scale.{finite}
use borrow.Author.Tests.{leb-true}
use Rattle.ieee.proofs.Nonnegative.{nonnegative, round_nonnegative}
use Rattle.text.specs.Fronts.{front, after}
use Rattle.text.proofs.Fronts.{Stops, front_within, after_drop, after_stops, stopped_front, stopped_after}
use Rattle.std.specs.Prelude.{Result, Ok, Err}
use Rattle.text.specs.declared.parsed.Parsed.{Parsed}
use Rattle.text.specs.Parsed.{parsed}
use Rattle.number.specs.declared.decimal.NoDecimal.{NoDecimal}
use Rattle.number.specs.declared.decimal.NoDecimal.TheVariants.{TooLong}
use Rattle.number.specs.Digits.{is_digit, value_from}
use Rattle.number.specs.Decimal.{nearest_to, judged, pointed, ended, begun, decimal_at}
use Rattle.number.proofs.Runs.{value_append}
use Rattle.number.proofs.Decimals.{room_second, value_room}
use Rattle.number.proofs.Places.{Placed}

-- ---- how a decimal is cut from its text

-- the text d, read from place `at` of a larger one: what is found is the number of the digits at its start and of
-- those at the start of `later`, and what is left from its place `width` on is what follows them
pub record Cut (at : ℕ) (d : List ℕ) (found : Parsed Float) : Type 0 where
  pub later : List ℕ
  pub value : found.value ≡ nearest_to (front is_digit d) (front is_digit later)
  pub few : length (front is_digit d) + length (front is_digit later) ≤ 18
  pub width : ℕ
  pub some : 0 < width
  pub within : width ≤ length d
  pub place : found.next ≡ at + width
  pub rest : drop width d ≡ after is_digit later

record Judged (ds es : List ℕ) (n : ℕ) (found : Parsed Float) : Type 0 where
  place : found.next ≡ n
  value : found.value ≡ nearest_to ds es
  few : length ds + length es ≤ 18

judge_of : (ds es : List ℕ) (n : ℕ) (found : Parsed Float) (b : Bool) → leb (length ds + length es) 18 ≡ b
    → elim b as (λ _. Result (Parsed Float) NoDecimal) [ true ↦ Ok (parsed (nearest_to ds es) n) | false ↦ Err TooLong ] ≡ Ok found → Judged ds es n found
judge_of ds es n found true t e =
    let p : parsed (nearest_to ds es) n ≡ found = cc in
    record {
      place = ap (λ (q : Parsed Float). q.next) (sym p);
      value = ap (λ (q : Parsed Float). q.value) (sym p);
      few = omega (arith, leb-true);
    }
judge_of ds es n found false t e = cc

judged_of : (ds es : List ℕ) (n : ℕ) (found : Parsed Float) → judged ds es n ≡ Ok found → Judged ds es n found
unfolding judged
judged_of ds es n found e = judge_of ds es n found (leb (length ds + length es) 18) refl e

module _ (at : ℕ) (d : List ℕ) (found : Parsed Float) (h : 0 < length (front is_digit d)) where
  -- no point: nothing later is read
  cut_whole : judged (front is_digit d) [] (at + length (front is_digit d)) ≡ Ok found → Cut at d found
  cut_whole e =
      let t = after is_digit d in
      let none : front is_digit t ≡ [] = stopped_front is_digit t (after_stops is_digit d) in
      let j = judged_of (front is_digit d) [] _ found e in
      record {
        later = t;
        value = j.value ∙ ap (nearest_to (front is_digit d)) (sym none);
        few = subst (λ (es : List ℕ). length (front is_digit d) + length es ≤ 18) (sym none) j.few;
        width = length (front is_digit d);
        some = h;
        within = front_within is_digit d;
        place = j.place;
        rest = sym (after_drop is_digit d) ∙ sym (stopped_after is_digit t (after_stops is_digit d));
      }

  -- a point, and digits from r on
  cut_pointed : (c : ℕ) (r es : List ℕ) → c ∷ r ≡ after is_digit d → es ≡ front is_digit r → pointed at (front is_digit d) es ≡ Ok found → Cut at d found
  unfolding pointed
  cut_pointed c r [] q f e = cc
  cut_pointed c r (g ∷ gs) q f e =
      let j = judged_of (front is_digit d) (g ∷ gs) _ found e in
      let w = length (front is_digit d) + 1 + length (g ∷ gs) in
      record {
        later = r;
        value = j.value ∙ ap (nearest_to (front is_digit d)) f;
        few = subst (λ (es : List ℕ). length (front is_digit d) + length es ≤ 18) f j.few;
        width = w;
        some = omega arith;
        within = omega (arith, ap length (q ∙ after_drop is_digit d), length-drop (length (front is_digit d)) d, ap length f, front_within is_digit r);
        place = omega (arith, j.place);
        rest =
            sym (drop-drop (length (g ∷ gs)) (length (front is_digit d) + 1) d)
            ∙ ap (drop (length (g ∷ gs))) (sym (drop-drop 1 (length (front is_digit d)) d) ∙ ap (drop 1) (sym (after_drop is_digit d) ∙ sym q))
            ∙ ap (λ (es : List ℕ). drop (length es) r) f
            ∙ sym (after_drop is_digit r);
      }

  cut_ended : (rest : List ℕ) → rest ≡ after is_digit d → ended at (front is_digit d) rest ≡ Ok found → Cut at d found
  unfolding ended
  cut_ended [] q e = cut_whole e
  cut_ended (c ∷ r) q e = go (eqb c 46) e
    where
      go : (b : Bool)
          → elim b as (λ _. Result (Parsed Float) NoDecimal) [ true ↦ pointed at (front is_digit d) (front is_digit r) | false ↦ judged (front is_digit d) [] (at + length (front is_digit d)) ] ≡ Ok found
          → Cut at d found
      go true e = cut_pointed c r (front is_digit r) q refl e
      go false e = cut_whole e

cut_begun : (at : ℕ) (d : List ℕ) (found : Parsed Float) (ds : List ℕ) → ds ≡ front is_digit d → begun at ds (after is_digit d) ≡ Ok found → Cut at d found
unfolding begun
cut_begun at d found [] q e = cc
cut_begun at d found (g ∷ gs) q e =
    cut_ended at d found (omega (arith, ap length q)) (after is_digit d) refl (ap (λ (ds : List ℕ). ended at ds (after is_digit d)) (sym q) ∙ e)

pub decimal_cut : (s : List ℕ) (at : ℕ) (found : Parsed Float) → decimal_at s at ≡ Ok found → Cut at (drop at s) found
unfolding decimal_at
decimal_cut s at found e = cut_begun at (drop at s) found (front is_digit (drop at s)) refl e

-- ---- where it ends

-- past its start and within the text
pub decimal_placed : (s : List ℕ) (at : ℕ) (found : Parsed Float) → decimal_at s at ≡ Ok found → Placed s at found.next
decimal_placed s at found e =
    let c = decimal_cut s at found e in
    record { past = omega (arith, c.some, c.place); within = omega (arith, c.some, c.within, c.place, length-drop at s) }

-- and what stands there is no digit, or the text ends there
pub decimal_stops : (s : List ℕ) (at : ℕ) (found : Parsed Float) → decimal_at s at ≡ Ok found → Stops is_digit (drop found.next s)
decimal_stops s at found e =
    let c = decimal_cut s at found e in
    subst (Stops is_digit) (sym (ap (λ (n : ℕ). drop n s) c.place ∙ sym (drop-drop c.width at s) ∙ c.rest)) (after_stops is_digit c.later)

-- ---- the value of a decimal

-- what an f32 holds, finite and not below zero
pub record Plain (x : Float) : Type 0 where
  pub finite : T (finite x)
  pub nonnegative : T (nonnegative x)
  pub fits : T (fits binary32 x)

bounded_finite : (x y : Float) → T (nonnegative x) → T (finite y) → T (le x y) → T (finite x)
unfolding le
bounded_finite nan y h f l = h
bounded_finite (inf true) y h f l = absurd h
bounded_finite (inf false) nan h f l = absurd f
bounded_finite (inf false) (inf s) h f l = absurd f
bounded_finite (inf false) (fin s m e) h f l = absurd l
bounded_finite (fin s m e) y h f l = tt

-- 10^18 is one
ten_eighteen : T (finite (round binary32 false (10 ^ 18) 1))
unfolding round
ten_eighteen = tt

plain_round : (n d : ℕ) → n < 10 ^ 18 → 0 < d → Plain (round binary32 false n d)
plain_round n d h p =
    let x = round binary32 false n d in
    record {
      finite =
          bounded_finite x (round binary32 false (10 ^ 18) 1) (round_nonnegative binary32 n d) ten_eighteen
          (round_mono binary32 n d (10 ^ 18) 1 p (omega arith) (omega (arith, mul-le-mul_left (10 ^ 18) p)));
      nonnegative = round_nonnegative binary32 n d;
      fits = round-fits binary32 false n d;
    }

pub decimal_plain : (s : List ℕ) (at : ℕ) (found : Parsed Float) → decimal_at s at ≡ Ok found → Plain found.value
unfolding nearest_to
decimal_plain s at found e =
    let c = decimal_cut s at found e in
    let d = drop at s in
    let n = value_from (value_from 0 (front is_digit d)) (front is_digit c.later) in
    let small : n < 10 ^ 18 = value_room (value_from 0 (front is_digit d)) c.later (room_second d c.later c.few) in
    subst Plain
    (sym (c.value ∙ ap (λ (k : ℕ). round binary32 false k (10 ^ length (front is_digit c.later))) (value_append 0 (front is_digit d) (front is_digit c.later))))
    (plain_round n (10 ^ length (front is_digit c.later)) small (one-le-pow (length (front is_digit c.later)) 10 (omega arith)))
