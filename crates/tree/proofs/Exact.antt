-- The hypothesis of demand 3 with chains could not be wider: of every other accepted list there are values, an operator and a sum by which the commands and the tree with chains part
-- (`exact`). The values are numbers, the sum is theirs, and an operator doubles its input and adds one, so that a value counts for twice as much with each operator that it goes
-- through. After a pair with a line of smaller indent below, the machine adds what is on its stack too early, and it goes through one operator more: the machine's number is the larger one
-- (`outside_larger`). What is compared is `after`, the value after as many operators more as the line has levels below it, when nothing is left on the tree's stack. Assumes nothing.
use mathlib.Core.Path.{◌≡◌, refl, sym, ap, subst, subst⁻¹, ◌∙◌}
use mathlib.Core.Bool.{Bool, true, false}
use mathlib.Core.Logic.{◌⊎◌, inl, inr}
use mathlib.Core.List.{List, [], ◌∷◌}
use mathlib.Core.Option.{none, some}
use Prim.Native.Nat.{ℕ, zero, suc, ◌+◌, ◌-◌, ◌≤◌, ◌<◌}
use native.Mathlib.Nat.{le_of_suc-le-suc, not-suc-le-zero, zero-add, suc-add}
use native.Mathlib.Omega.{arith}
use lib.Dec.{T, eqb}
use borrow.Author.Tests.{eq-eqb, eqb-true}
use Rattle.operator.specs.declared.operator.Operator.{Operator}
use Rattle.instrument.specs.declared.machine.Command.TheVariants as Command
use Rattle.instrument.specs.Machine.{Entry, State, topped, settled, step, machine}
use Rattle.tree.specs.Lines.{Line, accepted, commands_of}
use Rattle.tree.specs.Tree.{Forest, bare, grown, tree_of, with_later, sum}
use Rattle.tree.specs.Chains.{chained, none_below, chains_last_after, chains_last}
use Rattle.tree.proofs.Descent.{next_accepted, next_line, first_accepted, said, ran, ran_deeper, ran_outdent, last_line, above_child, above_outdent, beside_equal, some_aside, machine_ran, tree_said, pair_last_law}

-- ---- the operator and the sum

abbrev doubled : Operator → ℕ → ℕ
doubled op x = x + x + 1

abbrev does : Operator → State ℕ → State ℕ
does op s = step ℕ doubled ◌+◌ 0 (Command.Operator op) s

abbrev state : ℕ → List (Entry ℕ) → State ℕ
state v s = record { value = v; stack = s }

-- the value after so many operators more
after : ℕ → State ℕ → ℕ
after zero s = s.value
after (suc n) s = after n (settled ℕ ◌+◌ (s.value + s.value + 1) s.stack)

-- a number doubled so many times
twice : ℕ → ℕ → ℕ
twice zero c = c
twice (suc n) c = twice n (c + c)

twice_le : (n a b : ℕ) → a ≤ b → twice n a ≤ twice n b
unfolding twice
twice_le zero a b h = h
twice_le (suc n) a b h = twice_le n (a + a) (b + b) (omega arith)

twice_lt : (n a b : ℕ) → a < b → twice n a < twice n b
unfolding twice
twice_lt zero a b h = h
twice_lt (suc n) a b h = twice_lt n (a + a) (b + b) (omega arith)

-- ---- the value after some operators

-- what is added to the value now counts twice as much with each operator
settled_more : (c v : ℕ) (s : List (Entry ℕ)) → settled ℕ ◌+◌ (c + v) s ≡ state (c + (settled ℕ ◌+◌ v s).value) (settled ℕ ◌+◌ v s).stack
unfolding settled
settled_more c v [] = refl
settled_more c v (e ∷ rest) = go e.left
  where
    go : (n : ℕ) → topped ℕ ◌+◌ (c + v) n e.saved rest ≡ state (c + (topped ℕ ◌+◌ v n e.saved rest).value) (topped ℕ ◌+◌ v n e.saved rest).stack
    go zero = ap (λ (x : ℕ). state x rest) (omega arith)
    go (suc n) = refl

after_more : (n c v : ℕ) (s : List (Entry ℕ)) → after n (state (c + v) s) ≡ twice n c + after n (state v s)
unfolding after twice
after_more zero c v s = refl
after_more (suc n) c v s =
    ap (λ (x : ℕ). after n (settled ℕ ◌+◌ x s)) (omega arith)
    ∙ ap (after n) (settled_more (c + c) (v + v + 1) s)
    ∙ after_more n (c + c) (settled ℕ ◌+◌ (v + v + 1) s).value (settled ℕ ◌+◌ (v + v + 1) s).stack

settled_least : (v : ℕ) (s : List (Entry ℕ)) → v ≤ (settled ℕ ◌+◌ v s).value
unfolding settled
settled_least v [] = omega arith
settled_least v (e ∷ rest) = go e.left
  where
    go : (n : ℕ) → v ≤ (topped ℕ ◌+◌ v n e.saved rest).value
    go zero = omega arith
    go (suc n) = omega arith

-- one operator more at least doubles it, and adds one
after_doubles : (n : ℕ) (s : State ℕ) → after n s + after n s + 1 ≤ after (suc n) s
unfolding after
after_doubles zero s = settled_least (s.value + s.value + 1) s.stack
after_doubles (suc n) s = after_doubles n (settled ℕ ◌+◌ (s.value + s.value + 1) s.stack)

-- it is at least what the value alone comes to, and more where something is added on the way
after_least : (n v : ℕ) (s : List (Entry ℕ)) → twice n (v + 1) ≤ after n (state v s) + 1
unfolding after twice
after_least zero v s = omega arith
after_least (suc n) v s =
    let w = settled ℕ ◌+◌ (v + v + 1) s in
    omega (arith, twice_le n ((v + 1) + (v + 1)) (w.value + 1) (omega (arith, settled_least (v + v + 1) s)), after_least n w.value w.stack)

after_waiting : (n g x v : ℕ) (s : List (Entry ℕ)) → g < n → 1 ≤ x → twice n (v + 1) < after n (state v (record { left = g; saved = x } ∷ s)) + 1
unfolding after twice settled
after_waiting zero g x v s h p = absurd (not-suc-le-zero h)
after_waiting (suc n) zero x v s h p =
    omega (arith, twice_lt n ((v + 1) + (v + 1)) (((v + v + 1) + x) + 1) (omega arith), after_least n ((v + v + 1) + x) s)
after_waiting (suc n) (suc g) x v s h p =
    subst (λ (m : ℕ). twice n m < after n (state (v + v + 1) (record { left = g; saved = x } ∷ s)) + 1) (omega arith)
    (after_waiting n g x (v + v + 1) s (le_of_suc-le-suc h) p)

-- ---- what was set aside

-- from a value w, until what waits for n operators more is added
risen : ℕ → ℕ → ℕ
risen zero w = w + w + 1
risen (suc n) w = risen n (w + w + 1)

after_set : (n k i w x : ℕ) (s : List (Entry ℕ)) → i ≡ n + k → after (suc i) (state w (record { left = n; saved = x } ∷ s)) ≡ twice k (risen n w) + after k (state x s)
unfolding after risen settled
after_set zero k i w x s e =
    ap (λ (m : ℕ). after m (state ((w + w + 1) + x) s)) (e ∙ zero-add k) ∙ after_more k (w + w + 1) x s
after_set (suc n) k i w x s e =
    ap (λ (m : ℕ). after m (state (w + w + 1) (record { left = n; saved = x } ∷ s))) (e ∙ suc-add n k) ∙ after_set n k (n + k) (w + w + 1) x s refl

-- ---- from line to line

-- the tree's state and the machine's
abbrev S : Line → List Line → State ℕ
S l ls = said ℕ doubled ◌+◌ 0 l ls

abbrev R : Line → List Line → State ℕ
R l ls = ran ℕ doubled ◌+◌ 0 l ls

-- the machine's is at least d larger, at the line's level
abbrev Ahead : ℕ → Line → List Line → Type 0
Ahead d l ls = after l.indent (S l ls) + d ≤ after l.indent (R l ls)

-- a line above its first child: both go on by one operator
child_said : (l m : Line) (ms : List Line) → m.indent ≡ suc l.indent → after l.indent (S l (m ∷ ms)) ≡ after m.indent (S m ms)
unfolding after step
child_said l m ms e = ap (after l.indent) (sym (above_child ℕ doubled ◌+◌ 0 l m ms e)) ∙ ap (λ (n : ℕ). after n (S m ms)) (sym e)

child_ran : (l m : Line) (ms : List Line) → m.indent ≡ suc l.indent → after l.indent (R l (m ∷ ms)) ≡ after m.indent (R m ms)
unfolding after step
child_ran l m ms e = ap (after l.indent) (ran_deeper ℕ doubled ◌+◌ 0 l m ms (omega arith)) ∙ ap (λ (n : ℕ). after n (R m ms)) (sym e)

-- a line above one of smaller indent: both set the same aside, and go on to that line's level
outdent_after : (op : Operator) (i k : ℕ) (s : State ℕ) → k < i
    → after i (does op (step ℕ doubled ◌+◌ 0 (Command.Stack (i - k)) s)) ≡ twice k (risen (i - k) 0) + after k s
unfolding after step
outdent_after op i k s h = after_set (i - k) k i 0 s.value s.stack (omega arith)

outdent_said : (l m : Line) (ms : List Line) → m.indent < l.indent
    → after l.indent (S l (m ∷ ms)) ≡ twice m.indent (risen (l.indent - m.indent) 0) + after m.indent (S m ms)
outdent_said l m ms h = ap (after l.indent) (sym (above_outdent ℕ doubled ◌+◌ 0 l m ms h)) ∙ outdent_after l.op l.indent m.indent (S m ms) h

outdent_ran : (l m : Line) (ms : List Line) → m.indent < l.indent
    → after l.indent (R l (m ∷ ms)) ≡ twice m.indent (risen (l.indent - m.indent) 0) + after m.indent (R m ms)
outdent_ran l m ms h = ap (after l.indent) (ran_outdent ℕ doubled ◌+◌ 0 l m ms h) ∙ outdent_after l.op l.indent m.indent (R m ms) h

-- a line above one of equal indent: the tree's value goes on by one operator and its stack does not, the machine goes on whole
equal_said : (l m : Line) (ms : List Line) → l.indent ≡ m.indent
    → after l.indent (S l (m ∷ ms)) ≡ twice m.indent ((S m ms).value + 1) + after m.indent (S m ms)
equal_said l m ms e =
    let v = (S m ms).value in
    ap (after l.indent) (sym (beside_equal ℕ doubled ◌+◌ 0 l m ms e))
    ∙ ap (λ (n : ℕ). after n (state (v + v + 1) (S m ms).stack)) e
    ∙ ap (λ (x : ℕ). after m.indent (state x (S m ms).stack)) (omega arith)
    ∙ after_more m.indent (v + 1) v (S m ms).stack

equal_ran : (l m : Line) (ms : List Line) → l.indent ≡ m.indent → after m.indent (R m ms) + after m.indent (R m ms) + 1 ≤ after l.indent (R l (m ∷ ms))
unfolding after step
equal_ran l m ms e =
    subst (λ (n : ℕ). after m.indent (R m ms) + after m.indent (R m ms) + 1 ≤ n)
    (ap (λ (n : ℕ). after (suc n) (R m ms)) (sym e) ∙ ap (after l.indent) (sym (ran_deeper ℕ doubled ◌+◌ 0 l m ms (omega arith))))
    (after_doubles m.indent (R m ms))

-- what is set aside is a sum, and no sum of lines is 0
sum_some : (f : Forest) → (f ≡ bare → ⊥) → 1 ≤ sum ℕ doubled ◌+◌ 0 (chained f)
unfolding sum chained
sum_some bare n = absurd (n refl)
sum_some (grown op bare bare) n = omega arith
sum_some (grown op bare (grown next kids later)) n = omega arith
sum_some (grown op (grown first kids rest) later) n = go (sum ℕ doubled ◌+◌ 0 (chained (grown first kids rest))) (chained later) (sum ℕ doubled ◌+◌ 0 (chained later))
  where
    go : (x : ℕ) (g : Forest) (y : ℕ) → 1 ≤ with_later ℕ doubled ◌+◌ 0 (x + x + 1) g y
    go x bare y = omega arith
    go x (grown a b c) y = omega arith

-- where a line of smaller indent follows, the tree's value is not alone
equal_waiting : (m : Line) (ms : List Line) → (T (none_below m.indent ms) → ⊥) → twice m.indent ((S m ms).value + 1) < after m.indent (S m ms) + 1
equal_waiting m ms h =
    let p = some_aside ℕ doubled ◌+◌ 0 m ms h in
    let g = p.0 in
    let x = sum ℕ doubled ◌+◌ 0 (chained p.1.0) in
    let rest = p.1.1.0 in
    subst (λ (s : List (Entry ℕ)). twice m.indent ((S m ms).value + 1) < after m.indent (state (S m ms).value s) + 1) (sym p.1.1.1.0)
    (after_waiting m.indent g x (S m ms).value rest p.1.1.1.1.0 (sum_some p.1.0 p.1.1.1.1.1))

equal_least : (m : Line) (ms : List Line) → twice m.indent ((S m ms).value + 1) ≤ after m.indent (S m ms) + 1
equal_least m ms = after_least m.indent (S m ms).value (S m ms).stack

-- ---- every line, from the last one up

-- what the machine is ahead by, it stays ahead by
carried : (d : ℕ) (l m : Line) (ms : List Line) → T (accepted (some l.indent) (m ∷ ms)) → Ahead d m ms → Ahead d l (m ∷ ms)
carried d l m ms a h =
    elim (next_line l.indent m ms a) [
      | inl e ↦ omega (arith, child_said l m ms e, child_ran l m ms e, h)
      | inr (inl e) ↦ omega (arith, equal_said l m ms e, equal_ran l m ms e, equal_least m ms, h)
      | inr (inr g) ↦ omega (arith, outdent_said l m ms g, outdent_ran l m ms g, h)
    ]

not_behind : (l : Line) (ls : List Line) → T (accepted (some l.indent) ls) → Ahead 0 l ls
not_behind l [] a = subst (λ (s : State ℕ). after l.indent (S l []) + 0 ≤ after l.indent s) (sym (last_line ℕ doubled ◌+◌ 0 l)) (omega arith)
not_behind l (m ∷ ms) a = carried 0 l m ms a (not_behind m ms (next_accepted l.indent m ms a).1)

-- where some pair is not last, it is this one, or one further below
not_last : (i : ℕ) (m : Line) (ms : List Line) → (T (chains_last_after i (m ∷ ms)) → ⊥)
    → (T (chains_last_after m.indent ms) → ⊥) ⊎ ((i ≡ m.indent) × (T (none_below i ms) → ⊥))
not_last i m ms n = below (chains_last_after m.indent ms) refl
  where
    here : T (chains_last_after m.indent ms) → (b : Bool) → eqb i m.indent ≡ b → (i ≡ m.indent) × (T (none_below i ms) → ⊥)
    here t true e = (eqb-true i m.indent e, (λ q. n (pair_last_law i m ms (λ _. q) t)))
    here t false e = absurd (n (pair_last_law i m ms (λ z. absurd (subst T (sym (eq-eqb i m.indent z) ∙ e) tt)) t))

    below : (c : Bool) → chains_last_after m.indent ms ≡ c → (T (chains_last_after m.indent ms) → ⊥) ⊎ ((i ≡ m.indent) × (T (none_below i ms) → ⊥))
    below false e = inl (λ t. subst T e t)
    below true e = inr (here (subst⁻¹ T e tt) (eqb i m.indent) refl)

ahead : (l : Line) (ls : List Line) → T (accepted (some l.indent) ls) → (T (chains_last_after l.indent ls) → ⊥) → Ahead 1 l ls
unfolding chains_last_after
ahead l [] a n = absurd (n tt)
ahead l (m ∷ ms) a n =
    let p = (next_accepted l.indent m ms a).1 in
    elim (not_last l.indent m ms n) [
      | inl r ↦ carried 1 l m ms a (ahead m ms p r)
      | inr q ↦
          let waits = equal_waiting m ms (λ t. q.1 (subst⁻¹ (λ (k : ℕ). T (none_below k ms)) q.0 t)) in
          omega (arith, equal_said l m ms q.0, equal_ran l m ms q.0, waits, not_behind m ms p)
    ]

-- ---- the whole list

pub outside_larger : (ls : List Line) → T (accepted none ls) → (T (chains_last ls) → ⊥)
    → sum ℕ doubled ◌+◌ 0 (chained (tree_of ls)) < machine ℕ doubled ◌+◌ 0 (commands_of ls)
unfolding chains_last after
outside_larger [] a n = absurd (n tt)
outside_larger (l ∷ ls) a n =
    let z = first_accepted l ls a in
    let h : (S l ls).value + 1 ≤ (R l ls).value = subst (λ (k : ℕ). after k (S l ls) + 1 ≤ after k (R l ls)) z.0 (ahead l ls z.1 n) in
    omega (arith, h, tree_said ℕ doubled ◌+◌ 0 l ls z.0, machine_ran ℕ doubled ◌+◌ 0 l ls)

-- accepted lines of which the commands give the tree's value, whatever the values, the operator, the sum and the zero, are those of the hypothesis
pub exact : (ls : List Line) → T (accepted none ls)
    → ((A : Type 0) (works : Operator → A → A) (plus : A → A → A) (nothing : A) → machine A works plus nothing (commands_of ls) ≡ sum A works plus nothing (chained (tree_of ls)))
    → T (chains_last ls)
exact ls a same = go (chains_last ls) refl
  where
    go : (c : Bool) → chains_last ls ≡ c → T (chains_last ls)
    go true e = subst⁻¹ T e tt
    go false e = absurd (omega (arith, outside_larger ls a (λ t. subst T e t), same ℕ doubled ◌+◌ 0))
