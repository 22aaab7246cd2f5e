-- The stacks of lanes: what an operator or a push does to each is what the machine does. The counts and the depth are shared.
-- Assumes nothing.
use Rattle.std.proofs.Common.{◌≡◌, ℕ, zero, suc, ◌+◌, ◌-◌, ◌*◌, ◌<◌, ◌≤◌, List, ◌∷◌, length, get_or, set, slice_range, sym, refl, ap, ◌∙◌, subst, ap₂, le_refl, mul-le-mul_right, add-one, arith, rules, length-set, get_or-set_other, get_or-set_same, w64, Fits}
use borrow.Rule.Slice.PartMut.{put_mid}
use Rattle.std.proofs.lemmas.List.{places}
use Rattle.std.proofs.lemmas.List.Edits.{length-between}
use lib.Ieee.{Float, nan, binary32, add}
use Rattle.ieee.specs.Constants.{plus_zero}
use Rattle.operator.specs.declared.operator.Operator.{Operator}
use Rattle.instrument.specs.declared.machine.Command.{Command}
use Rattle.instrument.specs.Machine.{Entry, topped, step}
use Rattle.instrument.specs.Lanes.{Keeps, SettlesLanes, StepsLanes, settled_at, step_by, stack_by, lane_stack, lane_state}
use Rattle.operator.specs.Lanes.{Lanes}
use Rattle.operator.specs.Lent.{worked_over}
use Rattle.operator.proofs.Lent.{over_length, over_done}

-- a store of a count above the depth
by_count : (depth i n : ℕ) (counts : List ℕ) (kept : ℕ → Float) → depth ≤ i → stack_by depth (set counts i n) kept ≡ stack_by depth counts kept
unfolding stack_by
by_count zero i n counts kept h = refl
by_count (suc k) i n counts kept h =
    ap₂ (λ (c : ℕ) (rest : List (Entry Float)). record { left = c; saved = kept k } ∷ rest)
    (get_or-set_other counts i k n 0 (λ (e : k ≡ i). omega arith)) (by_count k i n counts kept (omega arith))

-- saved values that are the same below the depth
by_kept : (depth : ℕ) (counts : List ℕ) (kept kept' : ℕ → Float) → ((k : ℕ) → k < depth → kept' k ≡ kept k) → stack_by depth counts kept' ≡ stack_by depth counts kept
unfolding stack_by
by_kept zero counts kept kept' h = refl
by_kept (suc k) counts kept kept' h =
    ap₂ (λ (y : Float) (rest : List (Entry Float)). record { left = get_or counts k 0; saved = y } ∷ rest)
    (h k (le_refl _)) (by_kept k counts kept kept' (λ m l. h m (omega arith)))

-- ---- an operator's effect, case by case

module _ (w depth : ℕ) (values : List Float) (counts : List ℕ) (saved : List Float) where
  pub settles_none : depth ≡ 0 → SettlesLanes w depth values counts saved values depth counts
  unfolding lane_state settled_at
  settles_none e =
      record {
        state =
            λ j l. subst (λ (k : ℕ). lane_state w j (get_or values j nan) k counts saved ≡ settled_at (get_or values j nan) (lane_stack w j k counts saved)) (sym e) refl;
        within = le_refl _;
        counts_size = refl;
        values_size = refl;
      }

  pub settles_add : (top : ℕ) (after : List Float) → depth ≡ suc top → get_or counts top 0 ≡ 0 → Lanes (λ j x. add binary32 x (get_or saved (top * w + j) nan)) w values after
      → SettlesLanes w depth values counts saved after top counts
  unfolding lane_state settled_at
  settles_add top after e z r =
      record {
        state =
            λ j l.
            ap (λ (v : Float). lane_state w j v top counts saved) (r.done j l)
            ∙ subst (λ (k : ℕ). lane_state w j (add binary32 (get_or values j nan) (get_or saved (top * w + j) nan)) top counts saved ≡ settled_at (get_or values j nan) (lane_stack w j k counts saved)) (sym e)
            (sym (ap (λ (k : ℕ). topped Float (add binary32) (get_or values j nan) k (get_or saved (top * w + j) nan) (lane_stack w j top counts saved)) z));
        within = omega arith;
        counts_size = refl;
        values_size = r.size;
      }

  pub settles_less : (top left : ℕ) → depth ≡ suc top → top < length counts → get_or counts top 0 ≡ suc left → SettlesLanes w depth values counts saved values depth (set counts top left)
  unfolding lane_state settled_at
  settles_less top left e l z =
      record {
        state =
            λ j _.
            subst (λ (k : ℕ). lane_state w j (get_or values j nan) k (set counts top left) saved ≡ settled_at (get_or values j nan) (lane_stack w j k counts saved)) (sym e)
            (ap₂ (λ (c : ℕ) (rest : List (Entry Float)). record { value = get_or values j nan; stack = record { left = c; saved = get_or saved (top * w + j) nan } ∷ rest })
            (get_or-set_same counts top left 0 l) (by_count top top left counts (λ (k : ℕ). get_or saved (k * w + j) nan) (omega arith))
            ∙ sym (ap (λ (k : ℕ). topped Float (add binary32) (get_or values j nan) k (get_or saved (top * w + j) nan) (lane_stack w j top counts saved)) z));
        within = le_refl _;
        counts_size = length-set counts top left;
        values_size = refl;
      }

-- ---- rows of lanes

-- a row of w lanes lies within 64 of them
pub row_within : (k w n : ℕ) → k < 64 → n ≡ 64 * w → k * w + w ≤ n
row_within k w n h e = omega (arith, mul-le-mul_right w h)

pub row_fits : (k w : ℕ) → k < 64 → w ≤ 32 → Fits w64 (k * w)
row_fits k w h l = omega (arith, mul-le-mul_right w h)

-- a row that each lane's value was put into
module _ (from w : ℕ) (values saved row : List Float) (h : from + w ≤ length saved) (r : Lanes (λ j x. get_or values j nan) w (slice_range saved from (from + w)) row) where
  row_length : length row ≡ w
  row_length = r.size ∙ length-between saved from (from + w) h ∙ omega arith

  in_row : (j : ℕ) → j < w → get_or (put_mid from (from + w - from) saved row) (from + j) nan ≡ get_or row j nan
  in_row j l = search (rules, places)

  below_row : (k : ℕ) → k < from → get_or (put_mid from (from + w - from) saved row) k nan ≡ get_or saved k nan
  below_row k l = search (rules, places)

  with_row : length (put_mid from (from + w - from) saved row) ≡ length saved
  with_row = search (rules, places)

  pub keeps_row : Keeps from w values saved (put_mid from (from + w - from) saved row)
  keeps_row = record { done = λ j l. in_row j l ∙ r.done j l; below = λ k l. below_row k l; size = with_row }

-- ---- one command

-- a row of lanes lies below a later one
row_below : (i depth w j : ℕ) → i < depth → j < w → i * w + j < depth * w
row_below i depth w j h l = omega (arith, mul-le-mul_right w h)

module _ (table : List ℕ) (f d : Float) (times : List Float) (w depth : ℕ) (values : List Float) (counts : List ℕ) (saved : List Float) where
  pub steps_operator : (op : Operator) (command : Command) (mid after : List Float) (depthAfter : ℕ) (countsAfter : List ℕ) → command ≡ Command.Operator op
      → length values ≡ w → length times ≤ w → mid ≡ worked_over table f d op times values → SettlesLanes (length mid) depth mid counts saved after depthAfter countsAfter
      → StepsLanes table f d times w command depth values counts saved after depthAfter countsAfter saved
  unfolding lane_state settled_at step_by step
  steps_operator op command mid after depthAfter countsAfter e z g r s' =
      let u : length mid ≡ w = ap length r ∙ over_length table f d op times values ∙ z in
      let s = subst (λ (k : ℕ). SettlesLanes k depth mid counts saved after depthAfter countsAfter) u s' in
      record {
        state =
            λ j l.
            s.state j (omega arith)
            ∙ ap (λ (v : Float). settled_at v (lane_stack w j depth counts saved)) (ap (λ (xs : List Float). get_or xs j nan) r ∙ over_done table f d op times values j l (omega arith))
            ∙ ap (λ (o : Command). step_by table f d (get_or times j nan) o (lane_state w j (get_or values j nan) depth counts saved)) (sym e);
        within = omega (arith, s.within);
        counts_size = s.counts_size;
        saved_size = refl;
        values_size = s.values_size ∙ ap length r ∙ over_length table f d op times values;
      }

  pub steps_stack : (m : ℕ) (command : Command) (after savedAfter : List Float) → command ≡ Command.Stack m → length values ≡ w → length times ≤ w → depth < length counts
      → Keeps (depth * w) w values saved savedAfter → ((j : ℕ) → j < w → get_or after j nan ≡ plus_zero) → length after ≡ length values
      → StepsLanes table f d times w command depth values counts saved after (depth + 1) (set counts depth m) savedAfter
  unfolding lane_state lane_stack step_by step stack_by
  steps_stack m command after savedAfter e z h g k r q =
      record {
        state =
            λ j l.
            let u : j < w = omega arith in
            ap (λ (v : Float). lane_state w j v (depth + 1) (set counts depth m) savedAfter) (r j u)
            ∙ ap (λ (i : ℕ). lane_state w j plus_zero i (set counts depth m) savedAfter) (add-one depth)
            ∙ ap₂ (λ (x : Entry Float) (rest : List (Entry Float)). record { value = plus_zero; stack = x ∷ rest })
            (ap₂ (λ (c : ℕ) (y : Float). record { left = c; saved = y }) (get_or-set_same counts depth m 0 g) (k.done j u))
            (by_count depth depth m counts (λ (i : ℕ). get_or savedAfter (i * w + j) nan) (omega arith)
            ∙ by_kept depth counts (λ (i : ℕ). get_or saved (i * w + j) nan) (λ (i : ℕ). get_or savedAfter (i * w + j) nan) (λ i p. k.below (i * w + j) (row_below i depth w j p u)))
            ∙ ap (λ (o : Command). step_by table f d (get_or times j nan) o (lane_state w j (get_or values j nan) depth counts saved)) (sym e);
        within = le_refl _;
        counts_size = length-set counts depth m;
        saved_size = k.size;
        values_size = q;
      }
