-- Why the stack has the tree's value, chains and all. Once the lines from some line of indent i on have been run, last line first, the value is the sum of
-- the forest that they begin with at level i, and the stack holds, for each smaller level that has a forest there, the sum of
-- that forest, with the number of levels between it and the one above it on the stack. `descent` carries this from line to
-- line: a line's children are the value, its later siblings the top of the stack. A line before one of equal indent takes the value as it is; that
-- the stack is empty there, so that nothing is added too early, is what the hypothesis says. Assumes nothing.
use mathlib.Core.Path.{◌≡◌, refl, sym, ap, ap₂, subst, subst⁻¹, ◌∙◌}
use mathlib.Core.Bool.{Bool, true, false}
use mathlib.Core.Logic.{◌⊎◌, inl, inr}
use mathlib.Core.List.{List, [], ◌∷◌, ◌++◌, reverse_aux}
use mathlib.Core.Option.{none, some}
use Prim.Native.Nat.{ℕ, zero, suc, ◌+◌, ◌-◌, ◌≤◌, ◌<◌}
use native.Mathlib.Nat.{le_of_suc-le-suc, eq-or-lt_of_le, not-suc-le-zero, le_refl, zero-add}
use native.Mathlib.Numerals.{add-one}
use native.Mathlib.Omega.{arith}
use lib.Dec.{T, eqb, leb, leb→le}
use lib.Ieee.Fits.{and_i, and_l, and_r}
use borrow.Author.Tests.{lt-ltb, le-ltb, eq-eqb, ne_eqb, leb-true, leb-false, eqb-true}
use Rattle.operator.specs.declared.operator.Operator.{Operator}
use Rattle.instrument.specs.declared.machine.Command.{Command}
use Rattle.instrument.specs.declared.machine.Command.TheVariants as Command
use Rattle.tree.specs.Lines.{Line, indent_refusal, accepted, outdent, downward, commands_of}
use Rattle.instrument.specs.Machine.{Entry, State, topped, settled, step, run, machine}
use Rattle.tree.specs.Tree.{Forest, bare, grown, forest_at, tree_of, with_later, sum}
use Rattle.tree.specs.Chains.{chained, none_below, chains_last_after, chains_last}

-- ---- the forest that a line begins

pub forest_same : (l : Line) (ls : List Line) → forest_at l.indent (l ∷ ls) ≡ grown l.op (forest_at (suc l.indent) ls) (forest_at l.indent ls)
unfolding forest_at
forest_same l ls = rw (eq-eqb l.indent l.indent refl, forest_at)

pub forest_here : (j : ℕ) (l : Line) (ls : List Line) → l.indent ≡ j → forest_at j (l ∷ ls) ≡ grown l.op (forest_at (suc l.indent) ls) (forest_at l.indent ls)
forest_here j l ls e = ap (λ (n : ℕ). forest_at n (l ∷ ls)) (sym e) ∙ forest_same l ls

pub forest_ended : (j : ℕ) (l : Line) (ls : List Line) → l.indent < j → forest_at j (l ∷ ls) ≡ bare
unfolding forest_at
forest_ended j l ls h = rw (ne_eqb l.indent j (λ (e : l.indent ≡ j). omega arith), lt-ltb l.indent j h, forest_at)

pub forest_passed : (j : ℕ) (l : Line) (ls : List Line) → j < l.indent → forest_at j (l ∷ ls) ≡ forest_at j ls
unfolding forest_at
forest_passed j l ls h = rw (ne_eqb l.indent j (λ (e : l.indent ≡ j). omega arith), le-ltb l.indent j (omega arith), forest_at)

-- lines of which none has a smaller indent than i have no forest at a level below i
forest_none : (j i : ℕ) (ls : List Line) → j < i → T (none_below i ls) → forest_at j ls ≡ bare
unfolding forest_at none_below
forest_none j i [] h t = refl
forest_none j i (l ∷ ls) h t =
    let d : i ≤ l.indent = leb→le i l.indent (and_l (leb i l.indent) (none_below i ls) t) in
    forest_passed j l ls (omega arith) ∙ forest_none j i ls h (and_r (leb i l.indent) (none_below i ls) t)

not_bare : (op : Operator) (kids later : Forest) → grown op kids later ≡ bare → ⊥
not_bare op kids later e = let z : ◌≡◌ {A = ℕ} 0 1 = cc e in absurd (omega arith)

-- lines of which one has a smaller indent than i have a forest at a level below i
some_below : (i : ℕ) (ls : List Line) → (T (none_below i ls) → ⊥) → (k : ℕ) × ((k < i) × (forest_at k ls ≡ bare → ⊥))
unfolding none_below
some_below i [] h = absurd (h tt)
some_below i (l ∷ ls) h =
    go (leb i l.indent) refl (λ (deep : T (leb i l.indent)). some_below i ls (λ t. h (and_i (leb i l.indent) (none_below i ls) deep t)))
  where
    go : (c : Bool) → leb i l.indent ≡ c → (T (leb i l.indent) → (k : ℕ) × ((k < i) × (forest_at k ls ≡ bare → ⊥))) → (k : ℕ) × ((k < i) × (forest_at k (l ∷ ls) ≡ bare → ⊥))
    go false e later = (l.indent, (leb-false i l.indent e, (λ b. not_bare l.op _ _ (sym (forest_same l ls) ∙ b))))
    go true e later =
        let p = later (subst⁻¹ T e tt) in
        let d : i ≤ l.indent = leb-true i l.indent e in
        (p.0, (p.1.0, (λ b. p.1.1 (sym (forest_passed p.0 l ls (omega (arith, p.1.0, d))) ∙ b))))

-- ---- what is left of an accepted list whose chains are last

pub next_accepted : (i : ℕ) (l : Line) (ls : List Line) → T (accepted (some i) (l ∷ ls)) → (l.indent ≤ i + 1) × T (accepted (some l.indent) ls)
unfolding accepted
next_accepted i l ls t =
    (steep i l.indent (leb l.indent (i + 1)) refl (and_l (eqb (indent_refusal (some i) l.indent) 0) (accepted (some l.indent) ls) t), and_r (eqb (indent_refusal (some i) l.indent) 0) (accepted (some l.indent) ls) t)
  where
    steep : (b k : ℕ) (c : Bool) → leb k (b + 1) ≡ c → T (eqb (elim c as (λ _. ℕ) [ true ↦ 0 | false ↦ 16 ]) 0) → k ≤ b + 1
    steep b k true e h = leb-true k (b + 1) e
    steep b k false e h = absurd h

-- so the next line is a child, or has equal indent, or a smaller one
pub next_line : (i : ℕ) (l : Line) (ls : List Line) → T (accepted (some i) (l ∷ ls)) → (l.indent ≡ suc i) ⊎ ((i ≡ l.indent) ⊎ (l.indent < i))
next_line i l ls a =
    elim (eq-or-lt_of_le (subst (λ (n : ℕ). l.indent ≤ n) (add-one i) (next_accepted i l ls a).0)) [
      | inl e ↦ inl e
      | inr g ↦ inr (elim (eq-or-lt_of_le (le_of_suc-le-suc g)) [ inl e ↦ inl (sym e) | inr h ↦ inr h ])
    ]

-- chains are last after a line of indent i where they are after the next one, and where this has that indent none that follows has a smaller one
pair_last : ℕ → List Line → Bool → Bool
pair_last i ls b = elim b [ true ↦ none_below i ls | false ↦ true ]

pub next_last : (i : ℕ) (l : Line) (ls : List Line) → T (chains_last_after i (l ∷ ls)) → (i ≡ l.indent → T (none_below i ls)) × T (chains_last_after l.indent ls)
unfolding chains_last_after pair_last
next_last i l ls t =
    ((λ e. subst (λ (b : Bool). T (pair_last i ls b)) (eq-eqb i l.indent e) (and_l (pair_last i ls (eqb i l.indent)) (chains_last_after l.indent ls) t)), and_r (pair_last i ls (eqb i l.indent)) (chains_last_after l.indent ls) t)

pub pair_last_law : (i : ℕ) (l : Line) (ls : List Line) → (i ≡ l.indent → T (none_below i ls)) → T (chains_last_after l.indent ls) → T (chains_last_after i (l ∷ ls))
unfolding chains_last_after pair_last
pair_last_law i l ls h t = and_i (pair_last i ls (eqb i l.indent)) (chains_last_after l.indent ls) (go (eqb i l.indent) refl) t
  where
    go : (b : Bool) → eqb i l.indent ≡ b → T (pair_last i ls b)
    go true e = h (eqb-true i l.indent e)
    go false e = tt

pub first_accepted : (l : Line) (ls : List Line) → T (accepted none (l ∷ ls)) → (l.indent ≡ 0) × T (accepted (some l.indent) ls)
unfolding accepted
first_accepted l ls t =
    (unindented l.indent (eqb l.indent 0) refl (and_l (eqb (indent_refusal none l.indent) 0) (accepted (some l.indent) ls) t), and_r (eqb (indent_refusal none l.indent) 0) (accepted (some l.indent) ls) t)
  where
    unindented : (k : ℕ) (c : Bool) → eqb k 0 ≡ c → T (eqb (elim c as (λ _. ℕ) [ true ↦ 0 | false ↦ 15 ]) 0) → k ≡ 0
    unindented k true e h = eqb-true k 0 e
    unindented k false e h = absurd h

smaller : (k i : ℕ) → k < suc i → (i ≡ k → ⊥) → k < i
smaller k i h n = omega arith

one_less : (i k : ℕ) → k < i → i - k ≡ suc (i - suc k)
one_less i k h = omega arith

outdent_none : (i k : ℕ) → i ≤ k → outdent (some i) k ≡ []
unfolding outdent
outdent_none i k h = rw (le-ltb k i h, outdent)

outdent_some : (i k : ℕ) → k < i → outdent (some i) k ≡ Command.Stack (i - k) ∷ []
unfolding outdent
outdent_some i k h = rw (lt-ltb k i h, outdent)

module _ (A : Type 0) (works : Operator → A → A) (plus : A → A → A) (nothing : A) where
  abbrev total : Forest → A
  total f = sum A works plus nothing (chained f)

  abbrev aside : ℕ → A → Entry A
  aside n v = record { left = n; saved = v }

  abbrev st : A → List (Entry A) → State A
  st v s = record { value = v; stack = s }

  -- the machine, run from the last command to the first
  upward : List Command → State A
  upward [] = st nothing []
  upward (c ∷ cs) = step A works plus nothing c (upward cs)

  upward_run : (cs ds : List Command) → run A works plus nothing (reverse_aux cs ds) (st nothing []) ≡ run A works plus nothing ds (upward cs)
  unfolding upward run
  upward_run [] ds = refl
  upward_run (c ∷ cs) ds = upward_run cs (c ∷ ds)

  -- ---- what is set aside

  -- for the levels below j: a level with a forest has an entry, and `gap` counts the levels since the last one
  pend_of : ℕ → Forest → List (Entry A) → List (Entry A) → List (Entry A)
  pend_of gap bare skipped taken = skipped
  pend_of gap (grown op kids later) skipped taken = aside gap (total (grown op kids later)) ∷ taken

  pend : ℕ → ℕ → List Line → List (Entry A)
  unfolding pend_of
  pend zero gap ls = []
  pend (suc j) gap ls = pend_of gap (forest_at j ls) (pend j (suc gap) ls) (pend j 0 ls)

  pend_none : (j gap : ℕ) → pend j gap [] ≡ []
  unfolding pend forest_at
  pend_none zero gap = refl
  pend_none (suc j) gap = pend_none j (suc gap)

  -- a line that is deeper changes nothing below it
  pend_passed : (j gap : ℕ) (l : Line) (ls : List Line) → j ≤ l.indent → pend j gap (l ∷ ls) ≡ pend j gap ls
  unfolding pend
  pend_passed zero gap l ls h = refl
  pend_passed (suc j) gap l ls h =
      rw (forest_passed j l ls h)
      (ap₂ (pend_of gap (forest_at j ls)) (pend_passed j (suc gap) l ls (omega arith)) (pend_passed j 0 l ls (omega arith)))

  pend_same : (gap : ℕ) (l : Line) (ls : List Line)
      → pend (suc l.indent) gap (l ∷ ls) ≡ aside gap (total (forest_at l.indent (l ∷ ls))) ∷ pend l.indent 0 (l ∷ ls)
  unfolding pend pend_of
  pend_same gap l ls = rw (forest_same l ls)

  -- above a line's own level there is nothing but gaps down to it
  pend_down : (i gap : ℕ) (l : Line) (ls : List Line) → l.indent < i
      → pend i gap (l ∷ ls) ≡ aside (gap + (i - suc l.indent)) (total (forest_at l.indent (l ∷ ls))) ∷ pend l.indent 0 (l ∷ ls)
  unfolding pend pend_of
  pend_down zero gap l ls h = absurd (not-suc-le-zero h)
  pend_down (suc j) gap l ls h =
      elim (eq-or-lt_of_le (le_of_suc-le-suc h)) [
        | inl e ↦
            subst (λ (n : ℕ). pend (suc n) gap (l ∷ ls) ≡ aside (gap + (suc n - suc l.indent)) (total (forest_at l.indent (l ∷ ls))) ∷ pend l.indent 0 (l ∷ ls)) e
            (pend_same gap l ls ∙ ap (λ (n : ℕ). aside n (total (forest_at l.indent (l ∷ ls))) ∷ pend l.indent 0 (l ∷ ls)) (omega arith))
        | inr g ↦
            rw (forest_ended j l ls g)
            (pend_down j (suc gap) l ls g ∙ ap (λ (n : ℕ). aside n (total (forest_at l.indent (l ∷ ls))) ∷ pend l.indent 0 (l ∷ ls)) (omega arith))
      ]

  -- where no line has a smaller indent than i, nothing is set aside for the levels up to i
  pend_empty : (j gap i : ℕ) (ls : List Line) → j ≤ i → T (none_below i ls) → pend j gap ls ≡ []
  unfolding pend pend_of
  pend_empty zero gap i ls h t = refl
  pend_empty (suc j) gap i ls h t = rw (forest_none j i ls h t) (pend_empty j (suc gap) i ls (omega arith) t)

  -- where a level below j has a forest, something is set aside, and within j operators it is added
  abbrev pub Waits : ℕ → List (Entry A) → Type 0
  Waits n s = (g : ℕ) × ((f : Forest) × ((rest : List (Entry A)) × ((s ≡ aside g (total f) ∷ rest) × ((g < n) × (f ≡ bare → ⊥)))))

  pend_some : (j gap k : ℕ) (ls : List Line) → k < j → (forest_at k ls ≡ bare → ⊥) → Waits (gap + j) (pend j gap ls)
  unfolding pend pend_of
  pend_some zero gap k ls h n = absurd (not-suc-le-zero h)
  pend_some (suc j) gap k ls h n = go (forest_at j ls) refl (λ g. pend_some j (suc gap) k ls g n)
    where
      go : (f : Forest) → forest_at j ls ≡ f → (k < j → Waits (suc gap + j) (pend j (suc gap) ls)) → Waits (gap + suc j) (pend_of gap f (pend j (suc gap) ls) (pend j 0 ls))
      go bare e later =
          subst (λ (m : ℕ). Waits m (pend j (suc gap) ls)) (omega arith)
          (later (elim (eq-or-lt_of_le (le_of_suc-le-suc h)) [ inl z ↦ absurd (n (ap (λ (m : ℕ). forest_at m ls) z ∙ e)) | inr g ↦ g ]))
      go (grown op kids rest) e later = (gap, (grown op kids rest, (pend j 0 ls, (refl, ((omega arith), not_bare op kids rest)))))

  -- ---- an operator and the stack

  lose_of : (w : A) (j gap : ℕ) (ls : List Line) (f : Forest) → settled A plus w (pend j (suc (suc gap)) ls) ≡ st w (pend j (suc gap) ls)
      → settled A plus w (pend_of (suc gap) f (pend j (suc (suc gap)) ls) (pend j 0 ls)) ≡ st w (pend_of gap f (pend j (suc gap) ls) (pend j 0 ls))
  unfolding pend_of settled
  lose_of w j gap ls bare h = h
  lose_of w j gap ls (grown op kids later) h = refl

  -- at a level without later siblings the top entry loses one
  lose : (w : A) (j gap : ℕ) (ls : List Line) → settled A plus w (pend j (suc gap) ls) ≡ st w (pend j gap ls)
  unfolding pend settled
  lose w zero gap ls = refl
  lose w (suc j) gap ls = lose_of w j gap ls (forest_at j ls) (lose w j (suc gap) ls)

  -- at a level with later siblings they are the top entry, and are added
  meet : (w : A) (i : ℕ) (ls : List Line) (f : Forest)
      → settled A plus w (pend_of 0 f (pend i 1 ls) (pend i 0 ls)) ≡ st (with_later A works plus nothing w (chained f) (total f)) (pend i 0 ls)
  unfolding pend_of settled with_later chained
  meet w i ls bare = lose w i 0 ls
  meet w i ls (grown op bare bare) = refl
  meet w i ls (grown op bare (grown next kids later)) = refl
  meet w i ls (grown op (grown first kids rest) later) = refl

  -- ---- the value of a tree

  -- a line with children
  with_kids : (op : Operator) (first : Operator) (kids rest later : Forest)
      → total (grown op (grown first kids rest) later) ≡ with_later A works plus nothing (works op (total (grown first kids rest))) (chained later) (total later)
  unfolding chained sum
  with_kids op first kids rest later = refl

  -- a childless line with a later sibling is modulated by all of them, and the sum ends with it
  in_chain : (op : Operator) (next : Operator) (kids later : Forest) → total (grown op bare (grown next kids later)) ≡ works op (total (grown next kids later))
  unfolding chained sum with_later
  in_chain op next kids later = refl

  -- ---- from line to line

  -- what the tree says of the value and the stack once the lines from l on are run, and what the machine has then
  pub said : Line → List Line → State A
  said l ls = st (total (forest_at l.indent (l ∷ ls))) (pend l.indent 0 (l ∷ ls))

  pub ran : Line → List Line → State A
  ran l ls = upward (Command.Operator l.op ∷ downward (some l.indent) ls)

  pub ran_deeper : (l m : Line) (ms : List Line) → l.indent ≤ m.indent → ran l (m ∷ ms) ≡ step A works plus nothing (Command.Operator l.op) (ran m ms)
  unfolding ran upward downward
  ran_deeper l m ms h =
      ap (λ (os : List Command). step A works plus nothing (Command.Operator l.op) (upward (os ++ (Command.Operator m.op ∷ downward (some m.indent) ms)))) (outdent_none l.indent m.indent h)

  pub ran_outdent : (l m : Line) (ms : List Line) → m.indent < l.indent
      → ran l (m ∷ ms) ≡ step A works plus nothing (Command.Operator l.op) (step A works plus nothing (Command.Stack (l.indent - m.indent)) (ran m ms))
  unfolding ran upward downward
  ran_outdent l m ms h =
      ap (λ (os : List Command). step A works plus nothing (Command.Operator l.op) (upward (os ++ (Command.Operator m.op ∷ downward (some m.indent) ms)))) (outdent_some l.indent m.indent h)

  -- what the tree says, from the lines after l
  says : (l : Line) (ls : List Line) (w : A) → w ≡ total (grown l.op (forest_at (suc l.indent) ls) (forest_at l.indent ls)) → st w (pend l.indent 0 ls) ≡ said l ls
  unfolding said
  says l ls w e = rw (forest_same l ls, pend_passed l.indent 0 l ls (le_refl l.indent)) (ap (λ (v : A). st v (pend l.indent 0 ls)) e)

  -- the last line
  pub last_line : (l : Line) → ran l [] ≡ said l []
  unfolding ran upward step settled downward forest_at chained sum with_later
  last_line l = ap (st (works l.op nothing)) (sym (pend_none l.indent 0)) ∙ says l [] (works l.op nothing) refl

  -- the value of a line before its first child
  over_child : (l m : Line) (ms : List Line) → m.indent ≡ suc l.indent
      → with_later A works plus nothing (works l.op (total (forest_at (suc l.indent) (m ∷ ms)))) (chained (forest_at l.indent (m ∷ ms))) (total (forest_at l.indent (m ∷ ms)))
      ≡ total (grown l.op (forest_at (suc l.indent) (m ∷ ms)) (forest_at l.indent (m ∷ ms)))
  over_child l m ms e =
      let L = forest_at l.indent (m ∷ ms) in
      subst (λ (K : Forest). with_later A works plus nothing (works l.op (total K)) (chained L) (total L) ≡ total (grown l.op K L)) (sym (forest_here (suc l.indent) m ms e))
      (sym (with_kids l.op m.op (forest_at (suc m.indent) ms) (forest_at m.indent ms) L))

  -- a line followed by its first child: the child's forest is the value, the later siblings are the top of the stack
  pub above_child : (l m : Line) (ms : List Line) → m.indent ≡ suc l.indent → step A works plus nothing (Command.Operator l.op) (said m ms) ≡ said l (m ∷ ms)
  unfolding said step pend
  above_child l m ms e =
      let i = l.indent in
      let S = m ∷ ms in
      ap (λ (n : ℕ). settled A plus (works l.op (total (forest_at n S))) (pend n 0 S)) e
      ∙ meet (works l.op (total (forest_at (suc i) S))) i S (forest_at i S)
      ∙ says l S _ (over_child l m ms e)

  -- a line before one of smaller indent has neither children nor later siblings
  alone : (l m : Line) (ms : List Line) → m.indent < l.indent
      → works l.op nothing ≡ total (grown l.op (forest_at (suc l.indent) (m ∷ ms)) (forest_at l.indent (m ∷ ms)))
  unfolding with_later sum chained
  alone l m ms h = rw (forest_ended (suc l.indent) m ms (omega arith), forest_ended l.indent m ms h)

  -- a line followed by one of smaller indent: it has neither children nor later siblings, and that line's forest is set aside
  pub above_outdent : (l m : Line) (ms : List Line) → m.indent < l.indent
      → step A works plus nothing (Command.Operator l.op) (step A works plus nothing (Command.Stack (l.indent - m.indent)) (said m ms)) ≡ said l (m ∷ ms)
  unfolding said step settled topped
  above_outdent l m ms h =
      let i = l.indent in
      let k = m.indent in
      let S = m ∷ ms in
      let v = total (forest_at k S) in
      let w = works l.op nothing in
      ap (λ (n : ℕ). topped A plus w n v (pend k 0 S)) (one_less i k h)
      ∙ ap (st w) (sym (pend_down i 0 m ms h ∙ ap (λ (n : ℕ). aside n v ∷ pend k 0 S) (zero-add (i - suc k))))
      ∙ says l S w (alone l m ms h)

  -- the value of a line before one of equal indent, which is childless
  over_equal : (l m : Line) (ms : List Line) → l.indent ≡ m.indent
      → works l.op (total (forest_at l.indent (m ∷ ms))) ≡ total (grown l.op (forest_at (suc l.indent) (m ∷ ms)) (forest_at l.indent (m ∷ ms)))
  over_equal l m ms e =
      rw (forest_ended (suc l.indent) m ms (omega arith), forest_here l.indent m ms (sym e)) (sym (in_chain l.op m.op (forest_at (suc m.indent) ms) (forest_at m.indent ms)))

  -- a line followed by one of equal indent: the forest that the next line begins is the value, and the tree takes nothing from the stack
  pub beside_equal : (l m : Line) (ms : List Line) → l.indent ≡ m.indent → st (works l.op (said m ms).value) (said m ms).stack ≡ said l (m ∷ ms)
  unfolding said
  beside_equal l m ms e =
      ap (λ (n : ℕ). st (works l.op (total (forest_at n (m ∷ ms)))) (pend n 0 (m ∷ ms))) (sym e) ∙ says l (m ∷ ms) _ (over_equal l m ms e)

  -- nor does the machine, where none of smaller indent is later: there is nothing on the stack
  none_aside : (m : Line) (ms : List Line) → T (none_below m.indent ms) → (said m ms).stack ≡ []
  unfolding said
  none_aside m ms q = pend_passed m.indent 0 m ms (le_refl m.indent) ∙ pend_empty m.indent 0 m.indent ms (le_refl m.indent) q

  pub some_aside : (m : Line) (ms : List Line) → (T (none_below m.indent ms) → ⊥) → Waits m.indent (said m ms).stack
  unfolding said
  some_aside m ms h =
      let p = some_below m.indent ms h in
      subst⁻¹ (λ (s : List (Entry A)). Waits m.indent s) (pend_passed m.indent 0 m ms (le_refl m.indent))
      (subst (λ (n : ℕ). Waits n (pend m.indent 0 ms)) (zero-add m.indent) (pend_some m.indent 0 p.0 ms p.1.0 p.1.1))

  nothing_taken : (op : Operator) (s : State A) → s.stack ≡ [] → step A works plus nothing (Command.Operator op) s ≡ st (works op s.value) s.stack
  unfolding step settled
  nothing_taken op s e = rw e

  above_equal : (l m : Line) (ms : List Line) → l.indent ≡ m.indent → T (none_below m.indent ms) → step A works plus nothing (Command.Operator l.op) (said m ms) ≡ said l (m ∷ ms)
  above_equal l m ms e q = nothing_taken l.op (said m ms) (none_aside m ms q) ∙ beside_equal l m ms e

  -- every line, from the last one up
  descent : (l : Line) (ls : List Line) → T (accepted (some l.indent) ls) → T (chains_last_after l.indent ls) → ran l ls ≡ said l ls
  descent l [] a s = last_line l
  descent l (m ∷ ms) a s =
      let q = next_last l.indent m ms s in
      let t = descent m ms (next_accepted l.indent m ms a).1 q.1 in
      let works-on = step A works plus nothing (Command.Operator l.op) in
      elim (next_line l.indent m ms a) [
        | inl e ↦ ran_deeper l m ms (omega arith) ∙ ap works-on t ∙ above_child l m ms e
        | inr (inl e) ↦ ran_deeper l m ms (omega arith) ∙ ap works-on t ∙ above_equal l m ms e (subst (λ (n : ℕ). T (none_below n ms)) e (q.0 e))
        | inr (inr h) ↦ ran_outdent l m ms h ∙ ap (λ (x : State A). works-on (step A works plus nothing (Command.Stack (l.indent - m.indent)) x)) t ∙ above_outdent l m ms h
      ]

  -- ---- the whole list

  pub machine_ran : (l : Line) (ls : List Line) → machine A works plus nothing (commands_of (l ∷ ls)) ≡ (ran l ls).value
  unfolding ran machine run commands_of downward outdent
  machine_ran l ls = ap (λ (x : State A). x.value) (upward_run (Command.Operator l.op ∷ downward (some l.indent) ls) [])

  pub tree_said : (l : Line) (ls : List Line) → l.indent ≡ 0 → (said l ls).value ≡ total (tree_of (l ∷ ls))
  unfolding said tree_of
  tree_said l ls z = ap (λ (n : ℕ). total (forest_at n (l ∷ ls))) z

  pub tree_value : (ls : List Line) → T (accepted none ls) → T (chains_last ls) → machine A works plus nothing (commands_of ls) ≡ total (tree_of ls)
  unfolding machine run commands_of downward outdent tree_of forest_at chained sum accepted chains_last
  tree_value [] a s = refl
  tree_value (l ∷ ls) a s =
      let z = first_accepted l ls a in
      machine_ran l ls ∙ ap (λ (x : State A). x.value) (descent l ls z.1 s) ∙ tree_said l ls z.0
