-- Lanes: the steps of a round, rounds one after the other, and the levels that lanes have.
-- Assumes nothing.
use mathlib.Core.Path.{◌≡◌, refl, sym, ap, subst, ◌∙◌}
use mathlib.Core.Bool.{Bool, true, false}
use mathlib.Core.Logic.{⊎_elim}
use mathlib.Core.List.{List, map}
use Prim.Native.Nat.{ℕ, zero, suc, ◌+◌, ◌≤◌, ◌<◌, min}
use native.Mathlib.Nat.{le_refl, eq-or-lt_of_le}
use native.Mathlib.Numerals.{add-one}
use native.Mathlib.Omega.{arith}
use borrow.Author.Tests.{ltb-true, ltb-false}
use lib.Dec.{ltb}
use lib.ListN.{length, get_or, set, take}
use lib.Seq.{get_or-set_same, get_or-set_other, get_or-take, ext_get_or}
use lib.Ieee.{Float, nan, binary32, add, mul, div, lt}
use Rattle.std.specs.Prelude.{Option, Some}
use Rattle.sine.specs.Turn.{turn_sine_by}
use Rattle.sine.specs.Lanes.{turn_sine_at}
use Rattle.sine.proofs.LaneLaws.{lanes_as, mapped_sines}
use Rattle.operator.specs.declared.operator.Operator.{Operator}
use Rattle.operator.specs.Evaluation.{level_of, turn_at, rounds}
use Rattle.operator.specs.Lent.{worked_by, operator_by, worked_over}
use Rattle.operator.specs.Lanes.{Lanes, Levelled, Staged, release_level, decay_level, round_at, rounds_at, worked_at}
use Rattle.operator.proofs.Lent.{over_length, over_done, over_kept}

-- one more round after n of them
pub rounds_last : (n : ℕ) (h : Float → Float) (x : Float) → h (rounds n h x) ≡ rounds (suc n) h x
unfolding rounds
rounds_last zero h x = refl
rounds_last (suc n) h x = rounds_last n h (h x)

module _ (h : ℕ → Float → Float) where
  -- no round
  pub rounds_none : (n : ℕ) (xs : List Float) → Lanes (rounds_at 0 h) n xs xs
  unfolding rounds_at rounds
  rounds_none n xs = record { done = λ j l. refl; kept = λ j l. refl; size = refl }

  -- one more round in all lanes
  pub lanes_round : (i n : ℕ) (xs ys zs : List Float) → Lanes (rounds_at i h) n xs ys → Lanes h n ys zs → Lanes (rounds_at (i + 1) h) n xs zs
  unfolding rounds_at
  lanes_round i n xs ys zs r s =
      record {
        done = λ j l. s.done j l ∙ ap (h j) (r.done j l) ∙ rounds_last i (h j) (get_or xs j nan) ∙ ap (λ (k : ℕ). rounds k (h j) (get_or xs j nan)) (sym (add-one i));
        kept = λ j l. s.kept j l ∙ r.kept j l;
        size = s.size ∙ r.size;
      }

-- the steps of a round one after the other
pub round_steps : (table : List ℕ) (amplitude : Float) (levels turns xs ys zs ws : List Float) → Lanes (λ j x. add binary32 (get_or turns j nan) x) (length xs) xs ys
    → zs ≡ map (turn_sine_by table) ys → Lanes (λ j y. mul binary32 (get_or levels j nan) (mul binary32 amplitude y)) (length zs) zs ws
    → Lanes (round_at table amplitude levels turns) (length xs) xs ws
unfolding round_at turn_sine_at
round_steps table amplitude levels turns xs ys zs ws p e r =
    let q = mapped_sines table ys zs e in
    record {
      done =
          λ j l.
          r.done j (omega (arith, p.size, q.size))
          ∙ ap (λ (y : Float). mul binary32 (get_or levels j nan) (mul binary32 amplitude y)) (q.done j (omega (arith, p.size)) ∙ ap (turn_sine_by table) (p.done j l));
      kept = λ j l. r.kept j (omega (arith, p.size, q.size)) ∙ q.kept j (omega (arith, p.size)) ∙ p.kept j l;
      size = r.size ∙ q.size ∙ p.size;
    }

-- rounds at the lanes' levels and turns are the operator's work
pub lanes_work : (table : List ℕ) (op : Operator) (f d : Float) (times levels turns : List Float) (m : ℕ) (xs ys : List Float) → Levelled op d times levels m
    → ((j : ℕ) → j < length times → get_or turns j nan ≡ turn_at op f (get_or times j nan))
    → Lanes (rounds_at (suc op.feedback) (round_at table op.amplitude levels turns)) m xs ys → Lanes (worked_at table op f d times) m xs ys
unfolding worked_at operator_by rounds_at round_at worked_by
lanes_work table op f d times levels turns m xs ys v t r =
    lanes_as _ (worked_at table op f d times) nan m xs ys
    (λ j x y l e.
    e
    ∙ ap (λ (t : Float). rounds (suc op.feedback) (λ (y : Float). mul binary32 (get_or levels j nan) (mul binary32 op.amplitude (turn_sine_by table (add binary32 t y)))) x) (t j (omega (arith, v.within)))
    ∙ ap (λ (k : Option Float). rounds (suc op.feedback) (worked_by table op f (get_or times j nan) k) x) (sym (v.held j l)))
    r

-- work at the first of the times
pub lanes_early : (table : List ℕ) (op : Operator) (f d : Float) (n : ℕ) (times : List Float) (m : ℕ) (xs ys : List Float) → m ≤ n
    → Lanes (worked_at table op f d (take n times)) m xs ys → Lanes (worked_at table op f d times) m xs ys
unfolding worked_at
lanes_early table op f d n times m xs ys h r =
    lanes_as _ (worked_at table op f d times) nan m xs ys
    (λ j x y l e. e ∙ ap (λ (t : Float). operator_by table f d t op x) (get_or-take n times j nan (omega arith))) r

-- ---- levels

module _ (op : Operator) (d t : Float) where
  -- an envelope that sustains is at its sustain level, and one in another stage at the level of that stage
  pub sustain_level : lt t op.attack ≡ false → lt t (add binary32 op.attack op.decay) ≡ false → lt t d ≡ true → level_of op d t ≡ Some op.sustain
  unfolding level_of
  sustain_level a b e = rw (a, e, b, level_of) (rw e)

  pub decay_level_law : lt t op.attack ≡ false → lt t d ≡ true → lt t (add binary32 op.attack op.decay) ≡ true
      → level_of op d t ≡ Some (decay_level op.attack op.decay op.sustain t)
  unfolding level_of decay_level
  decay_level_law a e b = rw (a, e, b, level_of)

  pub release_level_law : lt t op.attack ≡ false → lt t d ≡ false → lt t (add binary32 d op.release) ≡ true
      → level_of op d t ≡ Some (release_level op.sustain op.release d t)
  unfolding level_of release_level
  release_level_law a e b = rw (a, e, level_of) (rw e (rw b))

  pub attack_level : lt t op.attack ≡ true → level_of op d t ≡ Some (div binary32 t op.attack)
  unfolding level_of
  attack_level a = rw (a, level_of)

module _ (op : Operator) (d : Float) (times : List Float) where
  -- all lanes are in one stage, and have its levels
  pub staged_all : (levels : List Float) → length levels ≡ length times → ((j : ℕ) → j < length times → level_of op d (get_or times j nan) ≡ Some (get_or levels j nan))
      → Staged op d times levels true
  staged_all levels z h = record { held = λ _. record { within = le_refl _; held = h }; size = z }

  -- lanes one by one
  pub levelled_none : (levels : List Float) → Levelled op d times levels 0
  levelled_none levels = record { within = omega arith; held = λ j l. absurd (omega arith) }

  pub levelled_more : (levels : List Float) (j : ℕ) (x : Float) → j < length times → j < length levels → Levelled op d times levels j
      → level_of op d (get_or times j nan) ≡ Some x → Levelled op d times (set levels j x) (j + 1)
  levelled_more levels j x l g r e =
      record {
        within = omega arith;
        held =
            λ m p. ⊎_elim {C = level_of op d (get_or times m nan) ≡ Some (get_or (set levels j x) m nan)}
            (λ q. subst (λ (k : ℕ). level_of op d (get_or times k nan) ≡ Some (get_or (set levels j x) k nan)) (sym q) (e ∙ ap Some (sym (get_or-set_same levels j x nan g))))
            (λ q. r.held m q ∙ ap Some (sym (get_or-set_other levels j m x nan (λ (w : m ≡ j). omega arith)))) (eq-or-lt_of_le {n = m} {m = j} (omega arith));
      }

-- ---- all lanes are the list

-- with each value worked on that has a time, the lanes are what the definition says
pub lanes_over : (table : List ℕ) (op : Operator) (f d : Float) (times xs ys : List Float) (n : ℕ) → n ≡ min (length xs) (length times)
    → Lanes (worked_at table op f d times) n xs ys → ys ≡ worked_over table f d op times xs
unfolding worked_at
lanes_over table op f d times xs ys n e r =
    ext_get_or nan ys (worked_over table f d op times xs) (r.size ∙ sym (over_length table f d op times xs)) (λ j l. lane j l (ltb j n) refl)
  where
    lane : (j : ℕ) → j < length ys → (b : Bool) → ltb j n ≡ b → get_or ys j nan ≡ get_or (worked_over table f d op times xs) j nan
    lane j l true h = let p : j < n = ltb-true j n h in r.done j p ∙ sym (over_done table f d op times xs j (omega arith) (omega arith))
    lane j l false h = let p : n ≤ j = ltb-false j n h in r.kept j p ∙ sym (over_kept table f d op times xs j (omega (arith, r.size)))
