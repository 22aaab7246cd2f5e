-- Lanes: a loop that gives one lane after the other its value, the list that all lanes make, and the steps of the sine one after
-- the other. Assumes nothing.
use Rattle.std.proofs.Common.{◌≡◌, ℕ, ◌+◌, ◌-◌, ◌*◌, ◌/◌, ◌%◌, ◌^◌, ◌<◌, ◌≤◌, Bool, true, false, not, ◌&&◌, T, ltb, List, ◌++◌, map, length, get_or, take, drop, set, sym, refl, ap, ◌∙◌, subst, ⊎_elim, le_refl, eq-or-lt_of_le, arith, length-append, length-drop, length-set, length-take-le, get_or-drop, get_or-set_other, get_or-take, get_or-set_same, get_or-append-add, ext_get_or, ltb-true, ltb-false, pow_pos, pow-add}
use mathlib.Core.Bool.{true≢false}
use Rattle.std.proofs.Math.ListN.{get_or-eq_default}
use Rattle.std.proofs.lemmas.List.{get_or_default}
use lib.ListN.{length-map, get_or-append, get_or-map}
use lib.Ieee.{Float, nan, binary32, is_nan, fits, of_bits, to_bits}
use lib.Ieee.Bits.{is_false, of_bits-to_bits}
use lib.Ieee.Nearest.{div_same}
use Rattle.sine.specs.Turn.{C, folded, height, sine_at, turn_sine_by}
use Rattle.sine.specs.Phase.{field_of, position_of}
use Rattle.sine.specs.Lanes.{AllPass, LanesBy, LanesOf, pattern_of, signed_of, turn_sine_at}
use Rattle.sine.proofs.Phase.{position_some, bits_under}
use Rattle.sine.proofs.Sine.{sine_not_finite}

-- ---- lane after lane

module _ {A : Type 0} (gives : ℕ → A → A → Type 0) (none : A) where
  -- no lane yet
  pub lanes_none : (xs : List A) → LanesBy gives none 0 xs xs
  lanes_none xs = record { done = λ j l. absurd (omega arith); kept = λ j l. refl; size = refl }

  -- one more lane, by what it has, whatever a list has past its end
  pub lanes_more : (j : ℕ) (xs ys : List A) (d y : A) → j < length xs → LanesBy gives none j xs ys → gives j (get_or ys j d) y
      → LanesBy gives none (j + 1) xs (set ys j y)
  lanes_more j xs ys d y l r e =
      record {
        done =
            λ m p. ⊎_elim {C = gives m (get_or xs m none) (get_or (set ys j y) m none)}
            (λ q. subst (λ (k : ℕ). gives k (get_or xs k none) (get_or (set ys j y) k none)) (sym q) here)
            (λ q. subst (gives m (get_or xs m none)) (sym (get_or-set_other ys j m y none (λ (w : m ≡ j). omega arith))) (r.done m q))
            (eq-or-lt_of_le {n = m} {m = j} (omega arith));
        kept = λ m p. get_or-set_other ys j m y none (λ (w : m ≡ j). omega arith) ∙ r.kept m (omega arith);
        size = length-set ys j y ∙ r.size;
      }
    where
      within : j < length ys
      within = omega (arith, r.size)

      here : gives j (get_or xs j none) (get_or (set ys j y) j none)
      here =
          subst (gives j (get_or xs j none)) (sym (get_or-set_same ys j y none within))
          (subst (λ (x : A). gives j x y) (get_or_default ys j d none within ∙ r.kept j (le_refl _)) e)

  -- so many lanes by another name
  pub lanes_to : (j n : ℕ) (xs ys : List A) → j ≡ n → LanesBy gives none j xs ys → LanesBy gives none n xs ys
  lanes_to j n xs ys e r = subst (λ (k : ℕ). LanesBy gives none k xs ys) e r

  -- the first m lanes of a front of n that is lent, in the whole
  pub lanes_front : (m n : ℕ) (xs ys : List A) → m ≤ n → n ≤ length xs → LanesBy gives none m (take n xs) ys → LanesBy gives none m xs (ys ++ drop n xs)
  lanes_front m n xs ys h l r =
      record {
        done =
            λ j p. subst (λ (x : A). gives j x (get_or (ys ++ drop n xs) j none)) (get_or-take n xs j none (omega arith))
            (subst (gives j (get_or (take n xs) j none)) (sym (get_or-append ys (drop n xs) none j (omega (arith, size)))) (r.done j p));
        kept = λ j p. kept j p (ltb j n) refl;
        size = length-append ys (drop n xs) ∙ omega (arith, size, length-drop n xs);
      }
    where
      size : length ys ≡ n
      size = r.size ∙ length-take-le n xs l

      kept : (j : ℕ) → m ≤ j → (b : Bool) → ltb j n ≡ b → get_or (ys ++ drop n xs) j none ≡ get_or xs j none
      kept j p true e = let q : j < n = ltb-true j n e in get_or-append ys (drop n xs) none j (omega (arith, size)) ∙ r.kept j p ∙ get_or-take n xs j none q
      kept j p false e =
          let i : n ≤ j = ltb-false j n e in
          let o : j ≡ length ys + (j - n) = omega (arith, size) in
          let q : n + (j - n) ≡ j = omega arith in
          ap (λ (k : ℕ). get_or (ys ++ drop n xs) k none) o ∙ get_or-append-add ys (drop n xs) (j - n) none ∙ get_or-drop n xs (j - n) none ∙ ap (λ (k : ℕ). get_or xs k none) q

-- every lane has h's value of what it had, and there are no more of them
pub lanes_done : {A : Type 0} (h : ℕ → A → A) (none : A) (xs ys : List A) → length ys ≡ length xs
    → ((j : ℕ) → j < length xs → get_or ys j none ≡ h j (get_or xs j none)) → LanesOf none h (length xs) xs ys
lanes_done h none xs ys e f =
    record { done = f; kept = λ j l. get_or-eq_default ys none (omega (arith, e)) ∙ sym (get_or-eq_default xs none l); size = e }

-- lanes that become what h says
pub lanes_as : {A : Type 0} (gives : ℕ → A → A → Type 0) (h : ℕ → A → A) (none : A) (n : ℕ) (xs ys : List A)
    → ((j : ℕ) (x y : A) → j < n → gives j x y → y ≡ h j x) → LanesBy gives none n xs ys → LanesOf none h n xs ys
lanes_as gives h none n xs ys f r = record { done = λ j l. f j (get_or xs j none) (get_or ys j none) l (r.done j l); kept = r.kept; size = r.size }

-- ---- a test of lane after lane

module _ {A : Type 0} (gives : A → Bool → Type 0) (none : A) (xs : List A) where
  pub all_none : AllPass gives none 0 xs true
  all_none = record { passes = λ _ j l. absurd (omega arith); fails = λ e. absurd (true≢false e) }

  -- one more lane, which has x
  pub all_more : (j : ℕ) (all test : Bool) (x : A) → j < length xs → AllPass gives none j xs all → x ≡ get_or xs j x → gives x test
      → AllPass gives none (j + 1) xs (all && test)
  all_more j all test x l r q e = go all test r (subst (λ (y : A). gives y test) (q ∙ get_or_default xs j x none l) e)
    where
      go : (all test : Bool) → AllPass gives none j xs all → gives (get_or xs j none) test → AllPass gives none (j + 1) xs (all && test)
      go true true r e =
          record {
            passes =
                λ _ k p. ⊎_elim {C = gives (get_or xs k none) true} (λ q. subst (λ (m : ℕ). gives (get_or xs m none) true) (sym q) e) (λ q. r.passes refl k q)
                (eq-or-lt_of_le {n = k} {m = j} (omega arith));
            fails = λ q. absurd (true≢false q);
          }
      go true false r e = record { passes = λ q. absurd (true≢false (sym q)); fails = λ _. (j, omega arith, e) }
      go false test r e =
          let f = r.fails refl in
          let l : f.0 < j = f.1 in
          record { passes = λ q. absurd (true≢false (sym q)); fails = λ _. (f.0, omega arith, f.2) }

  -- so many lanes by another name
  pub all_to : (j n : ℕ) (all : Bool) → j ≡ n → AllPass gives none j xs all → AllPass gives none n xs all
  all_to j n all e r = subst (λ (k : ℕ). AllPass gives none k xs all) e r

-- ---- a list of lanes that all do the same

module _ {A : Type 0} (none : A) (f : A → A) (same : f none ≡ none) where
  -- a lane of a mapped list
  lane_mapped : (xs : List A) (j : ℕ) → get_or (map f xs) j none ≡ f (get_or xs j none)
  lane_mapped xs j = subst (λ (d : A). get_or (map f xs) j d ≡ f (get_or xs j none)) same (get_or-map f xs j none)

  -- where all lanes are done the list is mapped
  pub lanes_mapped : (xs ys : List A) → LanesOf none (λ _. f) (length xs) xs ys → ys ≡ map f xs
  lanes_mapped xs ys r =
      ext_get_or none ys (map f xs) (r.size ∙ sym (length-map xs f)) (λ j l. r.done j (omega (arith, r.size)) ∙ sym (lane_mapped xs j))

  -- where the front of a list is mapped, that many lanes are done
  pub front_mapped : (n : ℕ) (xs ys : List A) → n ≤ length xs → ys ≡ map f (take n xs) → LanesOf none (λ _. f) n xs (ys ++ drop n xs)
  front_mapped n xs ys l e =
      record {
        done = λ j p. get_or-append ys (drop n xs) none j (omega (arith, size)) ∙ ap (λ (zs : List A). get_or zs j none) e ∙ lane_mapped (take n xs) j ∙ ap f (get_or-take n xs j none p);
        kept =
            λ j p.
            let o : j ≡ length ys + (j - n) = omega (arith, size) in
            let q : n + (j - n) ≡ j = omega arith in
            ap (λ (k : ℕ). get_or (ys ++ drop n xs) k none) o ∙ get_or-append-add ys (drop n xs) (j - n) none ∙ get_or-drop n xs (j - n) none ∙ ap (λ (k : ℕ). get_or xs k none) q;
        size = length-append ys (drop n xs) ∙ omega (arith, size, length-drop n xs);
      }
    where
      size : length ys ≡ n
      size = ap length e ∙ length-map (take n xs) f ∙ length-take-le n xs l

  -- and where it is mapped, all lanes are done
  pub mapped_lanes : (xs ys : List A) → ys ≡ map f xs → LanesOf none (λ _. f) (length xs) xs ys
  mapped_lanes xs ys e =
      record {
        done = λ j l. lane j;
        kept = λ j l. lane j ∙ ap f (get_or-eq_default xs none l) ∙ same ∙ sym (get_or-eq_default xs none l);
        size = ap length e ∙ length-map xs f;
      }
    where
      lane : (j : ℕ) → get_or ys j none ≡ f (get_or xs j none)
      lane j = ap (λ (zs : List A). get_or zs j none) e ∙ lane_mapped xs j

-- the sine of NaN is NaN, so a list of sines is one of lanes
pub sines_mapped : (table : List ℕ) (xs ys : List Float) → LanesOf nan (turn_sine_at table) (length xs) xs ys → ys ≡ map (turn_sine_by table) xs
unfolding turn_sine_at
sines_mapped table xs ys r = lanes_mapped nan (turn_sine_by table) (sine_not_finite table nan tt) xs ys r

pub mapped_sines : (table : List ℕ) (xs ys : List Float) → ys ≡ map (turn_sine_by table) xs → LanesOf nan (turn_sine_at table) (length xs) xs ys
unfolding turn_sine_at
mapped_sines table xs ys e = mapped_lanes nan (turn_sine_by table) (sine_not_finite table nan tt) xs ys e

-- ---- patterns

pub pattern_nan : (x : Float) → is_nan x ≡ true → pattern_of x ≡ 0
unfolding pattern_of
pattern_nan x e = rw (e, pattern_of)

pub pattern_bits : (x : Float) → T (not (is_nan x)) → pattern_of x ≡ to_bits binary32 x
unfolding pattern_of
pattern_bits x e = rw (is_false (is_nan x) e, pattern_of)

-- a pattern other than 0 is that of its number
pattern_back : (x : Float) → T (fits binary32 x) → 0 < pattern_of x → of_bits binary32 (pattern_of x) ≡ x
pattern_back x h l = go (is_nan x) refl
  where
    go : (b : Bool) → is_nan x ≡ b → of_bits binary32 (pattern_of x) ≡ x
    go true e = absurd (omega (arith, pattern_nan x e))
    go false e = ap (of_bits binary32) (pattern_bits x (subst (λ (b : Bool). T (not b)) (sym e) tt)) ∙ of_bits-to_bits binary32 x h

-- ---- the position of a pattern by its 24 digits alone

regroup : (m c p : ℕ) → m * 512 * c * p ≡ m * c * (512 * p)
regroup m c p = omega arith

narrowed : (m f d : ℕ) → f + d ≡ 149 → m * 512 * C / 2 ^ (31 + (158 - f)) ≡ m * C / 2 ^ (31 + d)
narrowed m f d e =
    let q : 31 + (158 - f) ≡ 9 + (31 + d) = omega arith in
    div_same (m * 512 * C) (2 ^ (31 + (158 - f))) (m * C) (2 ^ (31 + d)) (pow_pos (31 + (158 - f))) (pow_pos (31 + d))
    (regroup m C (2 ^ (31 + d)) ∙ ap (λ (n : ℕ). m * C * n) (sym (ap (λ (n : ℕ). 2 ^ n) q ∙ pow-add 2 9 (31 + d))))

pub position_narrow : (b d : ℕ) → d ≤ 54 → field_of b + d ≡ 149 → (b % 2 ^ 23 + 2 ^ 23) * C / 2 ^ (31 + d) % 2 ^ 32 ≡ position_of (of_bits binary32 b)
position_narrow b d l e =
    ap (λ (n : ℕ). n % 2 ^ 32) (sym (narrowed (b % 2 ^ 23 + 2 ^ 23) (field_of b) d e)) ∙ sym (position_some b (omega arith) (omega arith))

-- ---- the steps one after the other

-- one lane: the sine of x by its pattern b, its position p and the height s there
pub lane_sine : (table : List ℕ) (x : Float) (b p s : ℕ) → T (fits binary32 x) → b ≡ pattern_of x → 95 ≤ field_of b → field_of b < 158 → p ≡ position_of (of_bits binary32 b)
    → s ≡ height table (folded p) → signed_of s b p ≡ turn_sine_by table x
unfolding signed_of sine_at
lane_sine table x b p s f eb l h ep es =
    let q : of_bits binary32 b ≡ x = ap (of_bits binary32) eb ∙ pattern_back x f (omega arith) in
    subst (λ (y : Float). signed_of s b p ≡ turn_sine_by table y) q (rw (es, bits_under b table h, ep))
