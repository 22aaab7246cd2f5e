-- Laws of the turn sine for those who call it: by any table it is NaN exactly at what is not finite, fits an `f32`, and is odd
-- below 2^31; by T it lies from -1 to 1. What carries them is that rounding does not look at the sign, and that by T S / 2^24
-- is exact. Assumes nothing.
use Rattle.std.proofs.Common.{◌≡◌, ℕ, ◌+◌, ◌*◌, ◌^◌, ◌<◌, ◌≤◌, Bool, true, false, not, ◌&&◌, ◌||◌, T, eqb, ltb, leb, ◌⊎◌, List, ℤ, sym, refl, ap, ◌∙◌, inl, inr, le_trans, le_of_eq, lt_of_le_of_lt, mul-le-mul_right, mul_assoc, mul_comm, eq-or-lt_of_le, le_of_mul-le-mul_right, arith, lit<, lit≤, lt→ltb, pow_pos}
use lib.Ieee.{Float, nan, inf, fin, binary32, up, down, unlike, round, neg, le, fits}
use lib.Ieee.Bits.{is_true, is_false}
use lib.Ieee.Exact.{HasValue, round_exact}
use lib.Ieee.Fits.{down_pos, nan-fits, round-fits, eq→eqb}
use lib.Ieee.Scale.{finite}
use Rattle.ieee.specs.Constants.{minus_one, minus_zero, one, plus_zero}
use Rattle.ieee.proofs.Sign.{round_neg}
use Rattle.sine.specs.Quarter.{quarter}
use Rattle.sine.specs.Turn.{position, quarter_of, folded, height, sine_at, turn_sine_by, turn_sine}
use Rattle.sine.proofs.Heights.{folded_le, height_le}

-- finite, and of magnitude 2^31 or more: where document 01 gives 0.0 outright
abbrev pub beyond : Float → Bool
beyond nan = false
beyond (inf s) = false
beyond (fin s m e) = leb (2 ^ 31 * down e) (m * up e)

-- ---- where the sine is NaN, and where it is 0.0 outright; and it fits an `f32`

module _ (table : List ℕ) where
  -- an infinity and NaN give NaN
  pub sine_not_finite : (x : Float) → T (not (finite x)) → turn_sine_by table x ≡ nan
  unfolding turn_sine_by
  sine_not_finite nan h = refl
  sine_not_finite (inf s) h = refl
  sine_not_finite (fin s m e) h = absurd h

  -- from 2^31 on the sine is 0.0
  pub sine_beyond : (x : Float) → T (beyond x) → turn_sine_by table x ≡ plus_zero
  unfolding turn_sine_by
  sine_beyond nan h = absurd h
  sine_beyond (inf s) h = absurd h
  sine_beyond (fin s m e) h = rw (is_true (leb (2 ^ 31 * down e) (m * up e)) h, turn_sine_by)

  -- elsewhere it is the sine at x's position
  pub sine_within : (s : Bool) (m : ℕ) (e : ℤ) → T (not (beyond (fin s m e))) → turn_sine_by table (fin s m e) ≡ sine_at table s (position m e)
  unfolding turn_sine_by
  sine_within s m e h = rw (is_false (leb (2 ^ 31 * down e) (m * up e)) h, turn_sine_by)

  -- so what holds of 0.0 and of the sine at every position holds of the sine of every finite x
  of_finite : (P : Float → Type 0) → P plus_zero → ((s : Bool) (p : ℕ) → P (sine_at table s p)) → (s : Bool) (m : ℕ) (e : ℤ) → P (turn_sine_by table (fin s m e))
  unfolding turn_sine_by
  of_finite P z f s m e = go (leb (2 ^ 31 * down e) (m * up e))
    where
      go : (b : Bool) → P (elim b [ true ↦ plus_zero | false ↦ sine_at table s (position m e) ])
      go true = z
      go false = f s (position m e)

  -- an `f32` holds the sine of every x
  pub sine_fits : (x : Float) → T (fits binary32 (turn_sine_by table x))
  unfolding turn_sine_by
  sine_fits nan = nan-fits binary32
  sine_fits (inf s) = nan-fits binary32
  sine_fits (fin s m e) = of_finite (λ (y : Float). T (fits binary32 y)) zero_fits at_fits s m e
    where
      zero_fits : T (fits binary32 plus_zero)
      zero_fits = unfold fits in tt

      at_fits : (t : Bool) (p : ℕ) → T (fits binary32 (sine_at table t p))
      at_fits t p = unfold sine_at in round-fits binary32 (unlike t (leb 2 (quarter_of p))) (height table (folded p)) (2 ^ 24)

-- ---- by T it lies from -1 to 1

-- 2^24 / 2^24 is 1
crest : (s : Bool) → HasValue (round binary32 s (2 ^ 24) (2 ^ 24)) s (2 ^ 24) (2 ^ 24)
unfolding round
crest s = (refl, refl)

-- n / 2^24 is exact
exact : (s : Bool) (n : ℕ) → n ≤ 2 ^ 24 → HasValue (round binary32 s n (2 ^ 24)) s n (2 ^ 24)
exact s n h = go (eq-or-lt_of_le h)
  where
    go : (n ≡ 2 ^ 24) ⊎ (n < 2 ^ 24) → HasValue (round binary32 s n (2 ^ 24)) s n (2 ^ 24)
    go (inl e) = rw e (crest s)
    go (inr l) =
        round_exact binary32 s n (2 ^ 24) n 125 (pow_pos 24) l (lt_of_le_of_lt (mul-le-mul_right (2 ^ 125) h) (lit< tt)) (sym (mul_assoc n (2 ^ 125) (2 ^ 24)))

-- a test that passes makes a disjunction pass
either : (p q : Bool) → T p ⊎ T q → T (p || (q && true))
either true q h = tt
either false true h = tt
either false false (inl t) = t
either false false (inr t) = t

first : (p q : Bool) → T p → T (p || q)
first true q h = tt
first false q h = absurd h

-- the tests of `le` between two values of one sign, p and q in size
up_to : (p q : ℕ) → p ≤ q → T (ltb p q || (eqb p q && true))
up_to p q h = either (ltb p q) (eqb p q) (elim (eq-or-lt_of_le h) [ inl e ↦ inr (eq→eqb e) | inr l ↦ inl (lt→ltb p q l) ])

down_to : (p q : ℕ) → p ≤ q → T (ltb p q || (eqb q p && true))
down_to p q h = either (ltb p q) (eqb q p) (elim (eq-or-lt_of_le h) [ inl e ↦ inr (eq→eqb (sym e)) | inr l ↦ inl (lt→ltb p q l) ])

-- a value of at most 1 in size lies from -1 to 1
between : (y : Float) (s : Bool) (a c : ℕ) → 0 < c → a ≤ c → HasValue y s a c → T (le minus_one y) × T (le y one)
unfolding le
between nan s a c cp h v = absurd v
between (inf t) s a c cp h v = absurd v
between (fin t m e) s a c cp h v = go t
  where
    small : m * up e ≤ down e
    small = le_of_mul-le-mul_right (le_trans (le_of_eq v.1) (le_trans (mul-le-mul_right (down e) h) (le_of_eq (mul_comm c (down e))))) cp

    go : (t : Bool) → T (le minus_one (fin t m e)) × T (le (fin t m e) one)
    go true =
        let p = m * up e * 1 in
        let q = 1 * down e in
        (down_to p q (omega (arith, small)), first (ltb 0 (p + q)) (eqb p q && eqb p 0) (lt→ltb 0 (p + q) (omega (arith, down_pos e))))
    go false =
        let p = m * up e * 1 in
        let q = 1 * down e in
        (first (ltb 0 (q + p)) (eqb q p && eqb q 0) (lt→ltb 0 (q + p) (omega (arith, down_pos e))), up_to p q (omega (arith, small)))

-- the sine of a finite x lies from -1 to 1
pub sine_bounded : (x : Float) → T (finite x) → T (le minus_one (turn_sine x)) × T (le (turn_sine x) one)
sine_bounded nan h = absurd h
sine_bounded (inf s) h = absurd h
sine_bounded (fin s m e) h =
    of_finite quarter (λ (y : Float). T (le minus_one y) × T (le y one)) (between plus_zero false 0 1 (lit< tt) (lit≤ tt) (refl, refl)) at_bounded s m e
  where
    at_bounded : (t : Bool) (p : ℕ) → T (le minus_one (sine_at quarter t p)) × T (le (sine_at quarter t p) one)
    at_bounded t p =
        let n = height quarter (folded p) in
        let l : n ≤ 2 ^ 24 = height_le (folded p) (folded_le p) in
        unfold sine_at in between (round binary32 (unlike t (leb 2 (quarter_of p))) n (2 ^ 24)) _ n (2 ^ 24) (pow_pos 24) l (exact _ n l)

-- ---- it is odd

-- the other sign of x turns the sign of the sine
turned : (s t : Bool) → unlike (not s) t ≡ not (unlike s t)
turned true true = refl
turned true false = refl
turned false true = refl
turned false false = refl

module _ (table : List ℕ) where
  at_neg : (s : Bool) (p : ℕ) → sine_at table (not s) p ≡ neg (sine_at table s p)
  unfolding sine_at
  at_neg s p =
      ap (λ (b : Bool). round binary32 b (height table (folded p)) (2 ^ 24)) (turned s (leb 2 (quarter_of p)))
      ∙ round_neg binary32 (unlike s (leb 2 (quarter_of p))) (height table (folded p)) (2 ^ 24)

  -- the sine of -x is the negated sine of x, but for the x of which document 01 gives 0.0 outright
  pub sine_neg : (x : Float) → T (not (beyond x)) → turn_sine_by table (neg x) ≡ neg (turn_sine_by table x)
  unfolding turn_sine_by neg
  sine_neg nan h = refl
  sine_neg (inf s) h = refl
  sine_neg (fin s m e) h = sine_within table (not s) m e h ∙ at_neg s (position m e) ∙ ap neg (sym (sine_within table s m e h))

  -- and there it is not: 0.0 is not the negated 0.0
  pub sine_neg_beyond : (x : Float) → T (beyond x) → turn_sine_by table (neg x) ≡ neg (turn_sine_by table x) → ⊥
  unfolding neg
  sine_neg_beyond nan h e = absurd h
  sine_neg_beyond (inf s) h e = absurd h
  sine_neg_beyond (fin s m d) h e =
      let f : plus_zero ≡ minus_zero = sym (sine_beyond table (fin (not s) m d) h) ∙ e ∙ ap neg (sine_beyond table (fin s m d) h) in
      let z : ◌≡◌ {A = ℕ} 0 1 = cc f in
      omega arith
