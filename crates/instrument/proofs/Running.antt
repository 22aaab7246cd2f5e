-- Running an instrument's commands on lanes: in each lane, what is left of them, run from the lane's state in the arrays, gives what
-- the whole list gives. Assumes nothing.
use Rattle.std.proofs.Common.{◌≡◌, ℕ, suc, ◌+◌, ◌*◌, ◌<◌, ◌≤◌, min, List, [], ◌∷◌, map, length, get_or, take, drop, pos, length-take-le, sym, ap, subst, ◌∙◌, add-one, arith, drop_of_length-le, length-take, drop-cons, get_or-take}
use lib.ListN.{length-map, get_or-map}
use lib.Ieee.{Float, nan, binary32, mul, div, of_int}
use Rattle.ieee.specs.Constants.{one, plus_zero}
use Rattle.instrument.specs.declared.machine.Command.{Command}
use Rattle.instrument.specs.declared.machine.Slot.{Slot}
use Rattle.instrument.specs.declared.machine.Instrument.{Instrument}
use Rattle.instrument.specs.Machine.{State, run, machine}
use Rattle.instrument.specs.Evaluation.{list_of}
use Rattle.instrument.specs.Lent.{instrument_by, sound_by}
use Rattle.instrument.specs.Lanes.{Front, MixesLanes, StepsLanes, step_by, run_by, lane_state, timed}
use Rattle.operator.specs.Lanes.{Lanes}
use Rattle.instrument.proofs.Filling.{sound_is}

-- the machine at the start
abbrev start : State Float
start = record { value = plus_zero; stack = [] }

-- k commands are run on w lanes, of which those with a time count
pub record RunningLanes (table : List ℕ) (f d : Float) (i : Instrument) (times : List Float) (w k depth : ℕ) (values : List Float) (counts : List ℕ) (saved : List Float) : Type 0 where
  pub rest :
      (j : ℕ) → j < length times
      → run_by table f d (get_or times j nan) (drop k (list_of i)) (lane_state w j (get_or values j nan) depth counts saved) ≡ run_by table f d (get_or times j nan) (list_of i) start
  pub shallow : depth ≤ k
  pub timed : length times ≤ w
  pub counts_size : length counts ≡ 64
  pub saved_size : length saved ≡ 64 * w
  pub values_size : length values ≡ w

-- the k-th command of the list is that of the k-th slot
list_at : (i : Instrument) (k : ℕ) (s : Slot) → k < min i.count 64 → length i.commands ≡ 64
    → drop k (list_of i) ≡ (get_or i.commands k s).command ∷ drop (k + 1) (list_of i)
unfolding list_of
list_at i k s h g =
    let c = map (λ (x : Slot). x.command) (take i.count i.commands) in
    let l : k < length c = omega (arith, length-map (take i.count i.commands) (λ (x : Slot). x.command), length-take i.count i.commands) in
    rw add-one
    (drop-cons c k s.command l
    ∙ ap (λ (o : Command). o ∷ drop (suc k) c) (get_or-map (λ (x : Slot). x.command) (take i.count i.commands) k s ∙ ap (λ (x : Slot). x.command) (get_or-take i.count i.commands k s (omega arith))))

-- past the last command there is none
list_ends : (i : Instrument) (k : ℕ) → min i.count 64 ≤ k → length i.commands ≡ 64 → drop k (list_of i) ≡ []
unfolding list_of
list_ends i k h g =
    drop_of_length-le (map (λ (x : Slot). x.command) (take i.count i.commands)) {i = k}
    (omega (arith, length-map (take i.count i.commands) (λ (x : Slot). x.command), length-take i.count i.commands))

module _ (table : List ℕ) (f d : Float) (i : Instrument) (times : List Float) (w : ℕ) where
  pub lanes_start : (values : List Float) (counts : List ℕ) (saved : List Float) → length times ≤ w → length counts ≡ 64 → length saved ≡ 64 * w → length values ≡ w
      → ((j : ℕ) → j < w → get_or values j nan ≡ plus_zero) → RunningLanes table f d i times w 0 0 values counts saved
  unfolding lane_state
  lanes_start values counts saved t h g e r =
      record {
        rest = λ j l. ap (λ (v : Float). run_by table f d (get_or times j nan) (list_of i) (lane_state w j v 0 counts saved)) (r j (omega arith));
        shallow = omega arith;
        timed = t;
        counts_size = h;
        saved_size = g;
        values_size = e;
      }

  -- one more command
  pub lanes_step : (k depth : ℕ) (values : List Float) (counts : List ℕ) (saved : List Float) (s : Slot) (command : Command) (values' : List Float) (depth' : ℕ) (counts' : List ℕ) (saved' : List Float) (w' : ℕ)
      → k < min i.count 64 → length i.commands ≡ 64 → command ≡ (get_or i.commands k s).command → w' ≡ w → RunningLanes table f d i times w k depth values counts saved
      → StepsLanes table f d times w' command depth values counts saved values' depth' counts' saved'
      → RunningLanes table f d i times w (k + 1) depth' values' counts' saved'
  unfolding run_by run step_by
  lanes_step k depth values counts saved s command values' depth' counts' saved' w' h g o z r e =
      let l : drop k (list_of i) ≡ command ∷ drop (k + 1) (list_of i) = list_at i k s h g ∙ ap (λ (x : Command). x ∷ drop (k + 1) (list_of i)) (sym o) in
      record {
        rest =
            λ j l'.
            ap (λ (u : ℕ). run_by table f d (get_or times j nan) (drop (k + 1) (list_of i)) (lane_state u j (get_or values' j nan) depth' counts' saved')) (sym z)
            ∙ ap (run_by table f d (get_or times j nan) (drop (k + 1) (list_of i))) (e.state j l')
            ∙ ap (λ (u : ℕ). run_by table f d (get_or times j nan) (command ∷ drop (k + 1) (list_of i)) (lane_state u j (get_or values j nan) depth counts saved)) z
            ∙ sym (ap (λ (cs : List Command). run_by table f d (get_or times j nan) cs (lane_state w j (get_or values j nan) depth counts saved)) l)
            ∙ r.rest j l';
        shallow = omega (arith, e.within, r.shallow);
        timed = r.timed;
        counts_size = e.counts_size ∙ r.counts_size;
        saved_size = e.saved_size ∙ r.saved_size;
        values_size = e.values_size ∙ r.values_size;
      }

  -- all of them
  pub lanes_end : (k depth : ℕ) (values : List Float) (counts : List ℕ) (saved : List Float) → min i.count 64 ≤ k → length i.commands ≡ 64
      → RunningLanes table f d i times w k depth values counts saved → (j : ℕ) → j < length times → get_or values j nan ≡ instrument_by table f d (get_or times j nan) i
  unfolding instrument_by machine run_by run lane_state
  lanes_end k depth values counts saved h g r j l =
      ap (λ (s : State Float). s.value)
      (sym (ap (λ (cs : List Command). run_by table f d (get_or times j nan) cs (lane_state w j (get_or values j nan) depth counts saved)) (list_ends i k h g)) ∙ r.rest j l)

-- the lanes' values are the note's samples
pub lanes_sound : (table : List ℕ) (f d : Float) (i : Instrument) (amplitude : Float) (rate first at n : ℕ) (unit : Float) (before times values : List Float) → unit ≡ div binary32 one (of_int binary32 (pos rate))
    → Lanes (timed (first + at) unit) n before times → n ≤ length times → ((j : ℕ) → j < length times → get_or values j nan ≡ instrument_by table f d (get_or times j nan) i)
    → (j : ℕ) → j < n → mul binary32 amplitude (get_or values j nan) ≡ sound_by table i amplitude f d rate first (at + j)
unfolding timed
lanes_sound table f d i amplitude rate first at n unit before times values u t z v j l =
    let w : first + at + j ≡ first + (at + j) = omega arith in
    sound_is table i amplitude f d rate first (at + j) unit (get_or values j nan) u
    (v j (omega arith) ∙ ap (λ (x : Float). instrument_by table f d x i) (t.done j l ∙ ap (λ (k : ℕ). mul binary32 (of_int binary32 (pos k)) unit) w))

-- a turn over n samples: with i of them in the slice, i + n are
pub turn : (table : List ℕ) (f d : Float) (inst : Instrument) (amplitude : Float) (rate first added i n : ℕ) (unit : Float) (had times values whole before after : List Float)
    → unit ≡ div binary32 one (of_int binary32 (pos rate)) → n ≤ length had → n ≤ length values → i + n ≤ length whole
    → Lanes (timed (first + i) unit) (length (take n had)) (take n had) times
    → ((j : ℕ) → j < length times → get_or values j nan ≡ instrument_by table f d (get_or times j nan) inst)
    → before ≡ Front (sound_by table inst amplitude f d rate first) added i whole
    → MixesLanes added amplitude i (length (take n values)) (take n values) before after
    → after ≡ Front (sound_by table inst amplitude f d rate first) added (i + n) whole
turn table f d inst amplitude rate first added i n unit had times values whole before after u a b g t v e m =
    let v' = sound_by table inst amplitude f d rate first in
    let z : length (take n values) ≡ n = length-take-le n values b in
    let t' : Lanes (timed (first + i) unit) n (take n had) times = subst (λ (k : ℕ). Lanes (timed (first + i) unit) k (take n had) times) (length-take-le n had a) t in
    let s = lanes_sound table f d inst amplitude rate first i n unit (take n had) times values u t' (omega (arith, t'.size, length-take-le n had a)) v in
    subst (λ (k : ℕ). after ≡ Front v' added (i + k) whole) z
    (m.mixes v' whole (omega (arith, z, g)) e
    (λ j p. let q : j < n = omega (arith, z) in ap (λ (x : Float). mul binary32 amplitude x) (get_or-take n values j nan q) ∙ s j q))
