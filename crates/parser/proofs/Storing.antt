-- A part that is there or new: its state, the places of its name, and the reading behind its line, which the state is stored in. Assumes nothing.
use mathlib.Core.Path.{◌≡◌, refl, sym, ap, ap₂, subst, ◌∙◌}
use mathlib.Core.Bool.{Bool, true, false}
use mathlib.Core.List.{List}
use Prim.Native.Nat.{ℕ, ◌+◌, ◌*◌, ◌-◌, ◌≤◌, ◌<◌}
use native.Mathlib.Omega.{arith}
use lib.Dec.{ltb}
use lib.ListN.{length, get_or, set, length-set}
use lib.Seq.{get_or-set_same, set-set}
use lib.Ieee.{Float}
use borrow.Author.Tests.{lt-ltb, le-ltb, ltb-true, ltb-false}
use Rattle.environment.specs.declared.environment.Environment.{Environment}
use Rattle.environment.specs.Environment.{at_the_start}
use Rattle.part.specs.declared.state.State.{State}
use Rattle.part.specs.Body.{Book}
use Rattle.tables.specs.Tables.{with_entry}
use Rattle.parser.specs.declared.sofar.Sofar.{Sofar}
use Rattle.parser.specs.Columns.{place_column, Fits, refused_at, passed_to}
use Rattle.parser.specs.PartSteps.{state_from, NamedAt, BodyCame, body_at}
use Rattle.parser.proofs.PartStates.{state_of, kept_with, stored_as, with_new, with_part, Passed, LinePassed}
use Rattle.parser.proofs.Pieces.{region_before, region_set}
use Rattle.parser.proofs.Playing.{own_few, stored_kept, stored_refused, state_is, line_whole}

-- ---- the reading with the part in it

module _ (r : Sofar) (k : ℕ) where
  pub with_known : k < r.parts → with_part r k ≡ r
  unfolding with_part
  with_known h = rw (lt-ltb k r.parts h, with_part) refl

  pub with_new_law : r.parts ≤ k → with_part r k ≡ with_new r
  unfolding with_part
  with_new_law h = rw (le-ltb k r.parts h, with_part) refl

-- ---- its state

pub state_known : (r : Sofar) (k : ℕ) (d : Environment) → k < r.parts → k < length r.envs
    → ◌≡◌ {A = State}
    (record { env = get_or r.envs k d; count = get_or r.counts k 0; others = r.all - get_or r.counts k 0; depth = get_or r.depths k 0; steps = r.steps; refusal = 0; line = 0 })
    (state_of (with_part r k) k)
state_known r k d h l = state_is r k d l ∙ ap (λ (u : Sofar). state_of u k) (sym (with_known r k h))

pub state_new : (r : Sofar) (k : ℕ) → r.parts ≤ k → k ≤ r.parts → k < 16 → length r.envs ≡ 16 → length r.counts ≡ 16 → length r.depths ≡ 16
    → ◌≡◌ {A = State}
    (record { env = r.start; count = 0; others = r.all; depth = 0; steps = r.steps; refusal = 0; line = 0 })
    (state_of (with_part r k) k)
unfolding state_of with_new
state_new r k h m few le lc ld =
    let e : k ≡ r.parts = omega (arith, h, m) in
    sym
    (ap (λ (u : Sofar). state_of u k) (with_new_law r k h)
    ∙ ap (state_of (with_new r)) e
    ∙ rw (
      get_or-set_same r.envs r.parts r.start at_the_start (omega (arith, few, e, le)),
      get_or-set_same r.counts r.parts 0 0 (omega (arith, few, e, lc)),
      get_or-set_same r.depths r.parts 0 0 (omega (arith, few, e, ld)),
    )
    (ap (λ (n : ℕ). record { env = r.start; count = 0; others = n; depth = 0; steps = r.steps; refusal = 0; line = 0 }) (let z : r.all - 0 ≡ r.all = omega arith in z)))

-- from what it has
module _ (k n : ℕ) (env : Environment) (count depth : ℕ) (start : Environment) (all steps : ℕ) where
  pub from_known : k < n
      → ◌≡◌ {A = State}
      (record { env = env; count = count; others = all - count; depth = depth; steps = steps; refusal = 0; line = 0 })
      (state_from k n env count depth start all steps)
  unfolding state_from
  from_known h = rw (lt-ltb k n h, state_from) refl

  pub from_new : n ≤ k
      → ◌≡◌ {A = State}
      (record { env = start; count = 0; others = all; depth = 0; steps = steps; refusal = 0; line = 0 })
      (state_from k n env count depth start all steps)
  unfolding state_from
  from_new h = rw (le-ltb k n h, state_from) refl

-- ---- the reading behind the line

module _ (next : ℕ) (r : Sofar) (k : ℕ) (st : State) where
  pub stored_refuses : (st.refusal ≡ 0 → ⊥) → Passed next (stored_as (with_part r k) k st) (refused_at r st.refusal st.line)
  stored_refuses n =
      subst (λ (x : Sofar). Passed next x (refused_at r st.refusal st.line)) (stored_refused (with_part r k) k st n)
      (record { on = λ z. absurd (n z); ended = λ m. (refl, refl) })

  module _ (goes : r.refusal ≡ 0) (z : st.refusal ≡ 0) where
    pub stored_known : k < r.parts → Passed next (stored_as (with_part r k) k st) (passed_to (kept_with r k st) r.macros r.instruments (r.line + 1) next)
    stored_known h =
        subst (λ (u : Sofar). Passed next (stored_as u k st) (passed_to (kept_with r k st) r.macros r.instruments (r.line + 1) next)) (sym (with_known r k h))
        (subst (λ (x : Sofar). Passed next x (passed_to (kept_with r k st) r.macros r.instruments (r.line + 1) next)) (stored_kept r k st z)
        (record { on = λ y. refl; ended = λ m. absurd (m goes) }))

    -- the part is one more: what was stored first is written over
    over : {A : Type 0} (xs : List A) (n : ℕ) (a b : A) → n ≡ k → set xs k b ≡ set (set xs n a) k b
    over xs n a b e = sym (set-set xs k a b) ∙ ap (λ (j : ℕ). set (set xs j a) k b) (sym e)

    abbrev made : ℕ → List Environment → List ℕ → List ℕ → Sofar
    made parts envs counts depths =
        record {
          start = r.start;
          parts = parts;
          envs = envs;
          counts = counts;
          depths = depths;
          all = st.others + st.count;
          macros = r.macros;
          instruments = r.instruments;
          steps = st.steps;
          refusal = r.refusal;
          line = r.line + 1;
          at = next;
        }

    pub stored_new : r.parts ≤ k → k ≤ r.parts
        → Passed next (stored_as (with_part r k) k st) (made (k + 1) (set r.envs k st.env) (set r.counts k st.count) (set r.depths k st.depth))
    unfolding with_new
    stored_new h m =
        let e : r.parts ≡ k = omega (arith, h, m) in
        let t = made (k + 1) (set r.envs k st.env) (set r.counts k st.count) (set r.depths k st.depth) in
        subst (λ (u : Sofar). Passed next (stored_as u k st) t) (sym (with_new_law r k h))
        (subst (λ (x : Sofar). Passed next x t) (stored_kept (with_new r) k st z)
        (record {
          on = λ y.
              ap₂ (λ (n : ℕ) (es : List Environment). made n es (set r.counts k st.count) (set r.depths k st.depth))
              (ap (λ (n : ℕ). n + 1) (sym e)) (over r.envs r.parts r.start st.env e)
              ∙ ap₂ (λ (cs ds : List ℕ). made (r.parts + 1) (set (set r.envs r.parts r.start) k st.env) cs ds)
              (over r.counts r.parts 0 st.count e) (over r.depths r.parts 0 st.depth e);
          ended = λ n. absurd (n goes);
        }))

-- ---- the places of a name

module _ (k n a b : ℕ) (ls : List ℕ) where
  pub named_known : k < n → NamedAt k n a b ls ls
  named_known h = record { known = λ l. refl; new = λ l. absurd (omega (arith, h, l)); loops = λ j l. refl }

  pub named_new : n ≤ k → k < 16 → NamedAt k n a b ls (set (set ls (256 + 2 * n) a) (256 + 2 * n + 1) b)
  unfolding with_entry
  named_new h few =
      record {
        known = λ l. absurd (omega (arith, h, l));
        new = λ l.
            ap (λ (i : ℕ). place_column (set (set ls (256 + 2 * n) a) i b)) (let z : 256 + 2 * n + 1 ≡ 256 + (2 * n + 1) = omega arith in z)
            ∙ region_set 32 8 (set ls (256 + 2 * n) a) (2 * n + 1) b (omega (arith, h, few))
            ∙ ap (λ (ps : List ℕ). set ps (2 * n + 1) b) (region_set 32 8 ls (2 * n) a (omega (arith, h, few)));
        loops = λ j l.
            region_before 16 j (set ls (256 + 2 * n) a) (256 + 2 * n + 1) b (omega (arith, l)) ∙ region_before 16 j ls (256 + 2 * n) a (omega (arith, l));
      }

-- ---- the line

module _ (r : Sofar) (k : ℕ) where
  with_line : ((with_part r k).refusal ≡ r.refusal) × ((with_part r k).line ≡ r.line)
  unfolding with_part with_new
  with_line = go (ltb k r.parts) refl
    where
      go : (b : Bool) → ltb k r.parts ≡ b → ((with_part r k).refusal ≡ r.refusal) × ((with_part r k).line ≡ r.line)
      go true e = rw (e, with_part) (refl, refl)
      go false e = rw (e, with_part) (refl, refl)

  -- what the state's reader asks
  abbrev Asked : Type 0
  Asked =
      (k ≤ r.parts)
      × ((k < 16) × ((length r.envs ≡ 16) × ((length r.counts ≡ 16) × ((length r.depths ≡ 16) × (k < r.parts → get_or r.counts k 0 ≤ r.all)))))

  pub state_asks : (places : List ℕ) (fs : List Float) (is ls : List ℕ) → k ≤ r.parts → k < (with_part r k).parts → Fits places (with_part r k) fs is ls → Asked
  unfolding with_new
  state_asks places fs is ls m h g = go (ltb k r.parts) refl
    where
      few : k < 16
      few = omega (arith, h, g.few)

      go : (b : Bool) → ltb k r.parts ≡ b → Asked
      go true e =
          let f = subst (λ (u : Sofar). Fits places u fs is ls) (with_known r k (ltb-true k r.parts e)) g in
          (m, (few, (f.envs_length, (f.counts_length, (f.depths_length, λ l. own_few places r fs is ls f k l)))))
      go false e =
          let past = ltb-false k r.parts e in
          let f = subst (λ (u : Sofar). Fits places u fs is ls) (with_new_law r k past) g in (
            m,
            (
              few,
              (
                sym (length-set r.envs r.parts r.start) ∙ f.envs_length,
                (
                  sym (length-set r.counts r.parts 0) ∙ f.counts_length,
                  (sym (length-set r.depths r.parts 0) ∙ f.depths_length, λ l. absurd (omega (arith, l, past))),
                ),
              ),
            ),
          )

  pub line_passes : (book : Book) (text : List ℕ) (next : ℕ) (fs : List Float) (is ls : List ℕ) (gs : List Float) (js ms : List ℕ) → k < (with_part r k).parts → r.refusal ≡ 0
      → (b : State) → b ≡ state_of (with_part r k) k → (q : State) → BodyCame (body_at book r.line text k b fs is ls) k b q fs is ls gs js ms
      → (t : Sofar) → Passed next (stored_as (with_part r k) k q) t → place_column ms ≡ place_column ls
      → LinePassed book text k next r t fs is ls gs js ms
  line_passes book text next fs is ls gs js ms h z b e q c t p l =
      record {
        left = stored_as (with_part r k) k q;
        came = line_whole book text k (with_part r k) fs is ls gs js ms h (with_line.0 ∙ z) b e q
            (subst (λ (i : ℕ). BodyCame (body_at book i text k b fs is ls) k b q fs is ls gs js ms) (sym with_line.1) c);
        passed = p;
        places = l;
      }
