-- What it means that a number is read to the end of its text, in document 01's words, both ways. A digit run: all of
-- the text is digits, and their number is within the limit. A decimal: "digits, or digits, a point, digits", at most 18
-- of them. And that both end within their text. Assumes nothing.
use mathlib.Core.Path.{◌≡◌, refl, sym, ap, ap₂, subst, ◌∙◌}
use mathlib.Core.Bool.{Bool, true, false}
use mathlib.Core.Logic.{◌⊎◌, inl, inr}
use mathlib.Core.List.{List, [], ◌∷◌, ◌++◌}
use Prim.Native.Nat.{ℕ, ◌+◌, ◌≤◌, ◌<◌, zero-le}
use Prim.Native.Char.{code}
use native.Mathlib.Omega.{arith}
use lib.Dec.{leb, eqb}
use lib.ListN.{length, length-append}
use borrow.Author.Tests.{leb-true, le-leb, eqb-true}
use Rattle.text.specs.Fronts.{front, after}
use Rattle.text.proofs.Passes.{Passes, front_passes, front_after, whole_passes, passed_front, passed_after}
use Rattle.text.proofs.Passes.{piece_front, piece_after}
use Rattle.std.specs.Prelude.{Float, Option, Some, None, Result, Ok, Err}
use Rattle.text.specs.declared.parsed.Parsed.{Parsed}
use Rattle.text.specs.Parsed.{parsed}
use Rattle.number.specs.declared.decimal.NoDecimal.{NoDecimal}
use Rattle.number.specs.declared.decimal.NoDecimal.TheVariants.{TooLong}
use Rattle.number.specs.Digits.{is_digit, value_from, int_of, int_at, int_width}
use Rattle.number.specs.Decimal.{nearest_to, judged, pointed, ended, begun, decimal_at, decimal_width}
use Rattle.number.proofs.Places.{int_run, int_placed}
use Rattle.number.proofs.Cuts.{decimal_placed}

-- ---- digit runs

pub run_within : (limit : ℕ) (t : List ℕ) → int_width (int_at limit t 0) ≤ length t
unfolding int_width
run_within limit t = go (int_at limit t 0) refl
  where
    go : (i : Option (Parsed ℕ)) → int_at limit t 0 ≡ i → int_width i ≤ length t
    go (Some found) e = (int_placed limit t 0 found e).within
    go None e = zero-le

module _ (limit : ℕ) (t : List ℕ) (some : 0 < length t) where
  pub run_in_words : int_width (int_at limit t 0) ≡ length t → Passes is_digit t × (value_from 0 t ≤ limit)
  unfolding int_width
  run_in_words w = go (int_at limit t 0) refl w
    where
      go : (i : Option (Parsed ℕ)) → int_at limit t 0 ≡ i → int_width i ≡ length t → Passes is_digit t × (value_from 0 t ≤ limit)
      go (Some found) e q =
          let r = int_run limit t 0 found e in
          let d = whole_passes is_digit t (omega (arith, q, r.place)) in
          (d, subst (λ (n : ℕ). n ≤ limit) (r.value ∙ ap (value_from 0) (passed_front is_digit t d)) r.below)
      go None e q = absurd (omega (arith, q, some))

pub words_run : (limit : ℕ) (t : List ℕ) → 0 < length t → Passes is_digit t → value_from 0 t ≤ limit
    → int_width (int_at limit t 0) ≡ length t
unfolding int_width int_at int_of
words_run limit [] some d v = absurd (omega (arith, some))
words_run limit (b ∷ s) some d v =
    ap (λ (ds : List ℕ). int_width (int_of limit 0 ds)) (passed_front is_digit (b ∷ s) d)
    ∙ rw (le-leb (value_from 0 (b ∷ s)) limit v, int_of, int_width) (omega arith)

-- ---- decimals

pub decimal_within : (t : List ℕ) → decimal_width (decimal_at t 0) ≤ length t
unfolding decimal_width
decimal_within t = go (decimal_at t 0) refl
  where
    go : (d : Result (Parsed Float) NoDecimal) → decimal_at t 0 ≡ d → decimal_width d ≤ length t
    go (Ok found) e = (decimal_placed t 0 found e).within
    go (Err why) e = zero-le

-- "digits, a point, digits"; "Decimal digits 18, both sides of the point together"
pub record Pointed (t : List ℕ) : Type 0 where
  pub whole : List ℕ
  pub part : List ℕ
  pub split : t ≡ whole ++ (code "." ∷ part)
  pub before : 0 < length whole
  pub behind : 0 < length part
  pub whole_digits : Passes is_digit whole
  pub part_digits : Passes is_digit part
  pub few : length whole + length part ≤ 18

-- "digits, or digits, a point, digits"
abbrev pub WholeDecimal : List ℕ → Type 0
WholeDecimal t = (Passes is_digit t × (length t ≤ 18)) ⊎ Pointed t

-- a number that is judged to end at n was read up to there where its digits are few
judged_width : (ds es : List ℕ) (n k : ℕ) → 0 < k → decimal_width (judged ds es n) ≡ k
    → (n ≡ k) × (length ds + length es ≤ 18)
unfolding judged decimal_width
judged_width ds es n k some w = go (leb (length ds + length es) 18) refl w
  where
    go : (b : Bool) → leb (length ds + length es) 18 ≡ b
        → decimal_width (elim b as (λ _. Result (Parsed Float) NoDecimal) [ true ↦ Ok (parsed (nearest_to ds es) n) | false ↦ Err TooLong ]) ≡ k
        → (n ≡ k) × (length ds + length es ≤ 18)
    go true e q = (q, leb-true _ _ e)
    go false e q = absurd (omega (arith, q, some))

judged_few : (ds es : List ℕ) (n : ℕ) → length ds + length es ≤ 18 → decimal_width (judged ds es n) ≡ n
unfolding judged decimal_width
judged_few ds es n h = rw (le-leb (length ds + length es) 18 h, judged, decimal_width)

module _ (t : List ℕ) (some : 0 < length t) where
  abbrev ds : List ℕ
  ds = front is_digit t

  -- no point
  no_point : decimal_width (judged ds [] (0 + length ds)) ≡ length t → WholeDecimal t
  no_point w =
      let j = judged_width ds [] (0 + length ds) (length t) some w in
      inl (whole_passes is_digit t (omega (arith, j.0)), omega (arith, j.0, j.1))

  -- a point, and the digits es behind it
  a_point : (r es : List ℕ) → code "." ∷ r ≡ after is_digit t → front is_digit r ≡ es → 0 < length ds
      → decimal_width (pointed 0 ds es) ≡ length t → WholeDecimal t
  unfolding pointed decimal_width
  a_point r [] q f h w = absurd (omega (arith, w, some))
  a_point r (g ∷ gs) q f h w =
      let j = judged_width ds (g ∷ gs) (0 + length ds + 1 + length (g ∷ gs)) (length t) some w in
      let e : t ≡ ds ++ (code "." ∷ r) = sym (front_after is_digit t) ∙ ap (λ (l : List ℕ). ds ++ l) (sym q) in
      let n = ap length e ∙ length-append ds (code "." ∷ r) in
      let l : length r ≡ length (g ∷ gs) = omega (arith, n, j.0) in
      let d = whole_passes is_digit r (omega (arith, l, ap length f)) in
      inr
      (record {
        whole = ds;
        part = r;
        split = e;
        before = h;
        behind = omega (arith, l);
        whole_digits = front_passes is_digit t;
        part_digits = d;
        few = omega (arith, l, j.1);
      })

  rest_read : (rest : List ℕ) → rest ≡ after is_digit t → 0 < length ds → decimal_width (ended 0 ds rest) ≡ length t
      → WholeDecimal t
  unfolding ended
  rest_read [] q h w = no_point w
  rest_read (c ∷ r) q h w = go (eqb c 46) refl w
    where
      go : (b : Bool) → eqb c 46 ≡ b
          → decimal_width
          (elim b as (λ _. Result (Parsed Float) NoDecimal) [ true ↦ pointed 0 ds (front is_digit r) | false ↦ judged ds [] (0 + length ds) ])
          ≡ length t
          → WholeDecimal t
      go true e p = a_point r (front is_digit r) (ap (λ (x : ℕ). x ∷ r) (sym (eqb-true c 46 e)) ∙ q) refl h p
      go false e p = no_point p

  begun_read : (fs : List ℕ) → ds ≡ fs → decimal_width (begun 0 fs (after is_digit t)) ≡ length t → WholeDecimal t
  unfolding begun decimal_width
  begun_read [] e w = absurd (omega (arith, w, some))
  begun_read (g ∷ gs) e w =
      rest_read (after is_digit t) refl (omega (arith, ap length e))
      (ap (λ (fs : List ℕ). decimal_width (ended 0 fs (after is_digit t))) e ∙ w)

  pub decimal_in_words : decimal_width (decimal_at t 0) ≡ length t → WholeDecimal t
  unfolding decimal_at
  decimal_in_words w = begun_read ds refl w

-- digits alone
alone : (t : List ℕ) → 0 < length t → Passes is_digit t → length t ≤ 18 → decimal_width (begun 0 t []) ≡ length t
unfolding begun ended
alone [] some d h = absurd (omega (arith, some))
alone (b ∷ s) some d h = judged_few (b ∷ s) [] _ (omega (arith, h)) ∙ omega arith

-- digits, a point, digits
both : (whole part : List ℕ) → 0 < length whole → 0 < length part → Passes is_digit part
    → length whole + length part ≤ 18 → decimal_width (begun 0 whole (code "." ∷ part)) ≡ length whole + 1 + length part
unfolding begun ended pointed
both [] part h k d few = absurd (omega (arith, h))
both (b ∷ s) [] h k d few = absurd (omega (arith, k))
both (b ∷ s) (c ∷ r) h k d few =
    ap (λ (es : List ℕ). decimal_width (pointed 0 (b ∷ s) es)) (passed_front is_digit (c ∷ r) d)
    ∙ judged_few (b ∷ s) (c ∷ r) _ few ∙ omega arith

pub words_decimal : (t : List ℕ) → 0 < length t → WholeDecimal t → decimal_width (decimal_at t 0) ≡ length t
unfolding decimal_at
words_decimal t some (inl w) =
    ap₂ (λ (fs rest : List ℕ). decimal_width (begun 0 fs rest)) (passed_front is_digit t w.0)
    (passed_after is_digit t w.0)
    ∙ alone t some w.0 w.1
words_decimal t some (inr w) =
    let behind : List ℕ = code "." ∷ w.part in
    ap (λ (s : List ℕ). decimal_width (begun 0 (front is_digit s) (after is_digit s))) w.split
    ∙ ap₂ (λ (fs rest : List ℕ). decimal_width (begun 0 fs rest))
    (piece_front is_digit w.whole behind w.whole_digits refl)
    (piece_after is_digit w.whole behind w.whole_digits refl)
    ∙ both w.whole w.part w.before w.behind w.part_digits w.few
    ∙ omega (arith, ap length w.split ∙ length-append w.whole behind)
