-- What carries the reading of an operator line: a token read where it stands counts as the token alone, and what is read so far goes in front of
-- what the tokens behind it come to. Each step of the reader cites one law. Assumes nothing.
use mathlib.Core.Path.{◌≡◌, refl, sym, ap, ap₂, ◌∙◌}
use mathlib.Core.Bool.{Bool, true, false, ◌||◌}
use mathlib.Core.List.{List, [], ◌∷◌, ◌++◌, append_assoc}
use mathlib.Core.Option.{Option}
use Prim.Native.Nat.{ℕ, suc, ◌+◌, ◌-◌, ◌≤◌, ◌<◌}
use native.Mathlib.Omega.{arith}
use lib.Dec.{leb, eqb}
use lib.ListN.{length, take, drop, length-append, length-drop}
use lib.Seq.{length-take-le, drop-drop}
use lib.Ieee.{Float}
use borrow.Author.Tests.{eqb-false, eq-eqb, ne_eqb, le-leb, lt-leb, lt-ltb, le-ltb}
use Rattle.lines.specs.Tokens.{tokens_of}
use Rattle.lines.proofs.Tokens.{Token}
use Rattle.std.specs.Prelude.{Option as Optional, Some, None, Result, Ok, Err}
use Rattle.text.specs.declared.parsed.Parsed.{Parsed}
use Rattle.text.specs.Parsed.{parsed}
use Rattle.number.specs.declared.decimal.NoDecimal.{NoDecimal}
use Rattle.number.specs.declared.decimal.NoDecimal.TheVariants.{Unreadable, TooLong}
use Rattle.number.specs.Digits.{value_most, int_at, int_width}
use Rattle.number.specs.Decimal.{decimal_at, decimal_width}
use Rattle.number.proofs.Cuts.{decimal_placed}
use Rattle.number.proofs.Places.{int_placed}
use Rattle.number.proofs.Tokens.{int_moved, decimal_moved, int_token, decimal_token}
use Rattle.operator.specs.declared.operator.Operator.{Operator}
use Rattle.sheet.specs.Capacities.{feedback_most}
use Rattle.sheet.specs.Refusals.{Outcome, going, refused, ◌>>=◌, ◌>>◌, refuse◌on◌unless◌}
use Rattle.strict.specs.declared.mode.Mode.{Mode}
use Rattle.strict.specs.Strict.{tailed, read_to_its_end}
use Rattle.strict.proofs.Tails.{tailed_moved, read_through, read_tail}
use Rattle.operators.specs.OperatorLines.{indent_of, operator_of, indented, readable, numbers_read, present, feedback_read, operator_read}
use Rattle.operators.specs.Steps.{Passed, Stopped, numbers_of}

-- ---- one token

readable_moved : (line k : ℕ) (d : Result (Parsed Float) NoDecimal) → readable line (decimal_moved k d) ≡ readable line d
unfolding readable
readable_moved line k (Ok found) = refl
readable_moved line k (Err Unreadable) = refl
readable_moved line k (Err TooLong) = refl

present_moved : (line k : ℕ) (i : Optional (Parsed ℕ)) → present line (int_moved k i) ≡ present line i
unfolding present
present_moved line k (Some found) = refl
present_moved line k None = refl

module _ (s : List ℕ) (at from end : ℕ) (t : Token s at from end) where
  -- the token alone
  abbrev alone : List ℕ
  alone = take (end - from) (drop from s)

  alone_long : from + length alone ≡ end
  alone_long = omega (arith, length-take-le (end - from) (drop from s) (omega (arith, length-drop from s, t.within)), t.some)

  -- what is read in place up to a place is read in the token alone, up to where the token is cut by that place
  record Cut (next : ℕ) : Type 0 where
    stop : ℕ
    place : from + stop ≡ next
    within : stop ≤ length alone

  cut_inside : (next : ℕ) → Cut next → (from ≤ next) × (next ≤ end)
  cut_inside next c = (omega (arith, c.place), omega (arith, c.place, c.within, alone_long))

  cut_tailed : (mode : Mode) (next : ℕ) (c : Cut next) → tailed mode next end ≡ tailed mode c.stop (length alone)
  cut_tailed mode next c = ap₂ (tailed mode) (sym c.place) (sym alone_long) ∙ tailed_moved mode from c.stop (length alone)

  module _ (found : Parsed Float) (e : decimal_at s from ≡ Ok found) where
    decimal_alone : (c : Cut found.next) × (decimal_at alone 0 ≡ Ok (parsed found.value c.stop))
    decimal_alone = go (decimal_at alone 0) refl (sym (decimal_token s from end (omega (arith, t.some)) t.stops) ∙ e)
      where
        go : (d : Result (Parsed Float) NoDecimal) → decimal_at alone 0 ≡ d → decimal_moved from d ≡ Ok found
            → (c : Cut found.next) × (decimal_at alone 0 ≡ Ok (parsed found.value c.stop))
        go (Ok in_token) f g =
            let p : parsed in_token.value (from + in_token.next) ≡ found = cc in
            let m : from + in_token.next ≡ found.next = ap (λ (q : Parsed Float). q.next) p in
            let z : in_token.value ≡ found.value = ap (λ (q : Parsed Float). q.value) p in (
              record { stop = in_token.next; place = m; within = (decimal_placed alone 0 in_token f).within },
              f ∙ ap (λ (v : Float). Ok (parsed v in_token.next)) z,
            )
        go (Err why) f g = cc

    -- a decimal ends inside its token
    pub number_inside : (from ≤ found.next) × (found.next ≤ end)
    number_inside = cut_inside found.next decimal_alone.0

  module _ (found : Parsed ℕ) (e : int_at value_most s from ≡ Some found) where
    int_alone : (c : Cut found.next) × (int_at value_most alone 0 ≡ Some (parsed found.value c.stop))
    int_alone = go (int_at value_most alone 0) refl (sym (int_token s from end (omega (arith, t.some)) t.stops value_most) ∙ e)
      where
        go : (d : Optional (Parsed ℕ)) → int_at value_most alone 0 ≡ d → int_moved from d ≡ Some found
            → (c : Cut found.next) × (int_at value_most alone 0 ≡ Some (parsed found.value c.stop))
        go (Some in_token) f g =
            let p : parsed in_token.value (from + in_token.next) ≡ found = cc in
            let m : from + in_token.next ≡ found.next = ap (λ (q : Parsed ℕ). q.next) p in
            let z : in_token.value ≡ found.value = ap (λ (q : Parsed ℕ). q.value) p in (
              record { stop = in_token.next; place = m; within = (int_placed value_most alone 0 in_token f).within },
              f ∙ ap (λ (u : ℕ). Some (parsed u in_token.next)) z,
            )
        go None f g = cc

    -- a digit run ends inside its token
    pub feedback_inside : (from ≤ found.next) × (found.next ≤ end)
    feedback_inside = cut_inside found.next int_alone.0

  module _ (mode : Mode) where
    -- the numbers of a text start with that of the token
    first_number : (line k : ℕ)
        → numbers_read mode line (take (1 + k) (tokens_of (drop at s)))
        ≡ (readable line (decimal_at alone 0) >>= (λ x. read_to_its_end mode line alone (decimal_width (decimal_at alone 0)) >> (numbers_read mode line (take k (tokens_of (drop end s))) >>= (λ xs. going (x ∷ xs)))))
    unfolding numbers_read
    first_number line k =
        ap (λ (n : ℕ). numbers_read mode line (take n (tokens_of (drop at s)))) (let e : 1 + k ≡ suc k = omega arith in e)
        ∙ ap (λ (ts : List (List ℕ)). numbers_read mode line (take (suc k) ts)) t.tokens

    pub number_passed : (found : Parsed Float) → decimal_at s from ≡ Ok found → tailed mode found.next end ≡ false → Passed mode s at (found.value ∷ []) end
    unfolding readable decimal_width ◌>>=◌ ◌>>◌
    number_passed found e f =
        let c = decimal_alone found e in
        record {
          numbers = λ line k. first_number line k ∙ rw (c.1, read_through mode line alone _ (sym (cut_tailed mode found.next c.0) ∙ f));
          tokens = ap (drop 1) t.tokens;
        }

    pub number_tailed : (found : Parsed Float) → decimal_at s from ≡ Ok found → tailed mode found.next end ≡ true → Stopped mode s at 1 32
    unfolding readable decimal_width ◌>>=◌ ◌>>◌
    number_tailed found e f line k =
        let c = decimal_alone found e in
        first_number line k ∙ rw (c.1, read_tail mode line alone _ (sym (cut_tailed mode found.next c.0) ∙ f))

    pub number_stopped : (d : Result (Parsed Float) NoDecimal) (n : ℕ) → decimal_at s from ≡ d → ((line : ℕ) → readable line d ≡ refused n line) → Stopped mode s at 1 n
    unfolding ◌>>=◌
    number_stopped d n e f line k =
        let g : readable line (decimal_at alone 0) ≡ refused n line =
        sym (readable_moved line from (decimal_at alone 0))
        ∙ ap (readable line) (sym (decimal_token s from end (omega (arith, t.some)) t.stops) ∙ e)
        ∙ f line in
        first_number line k ∙ rw g

    -- the feedback is what the token says
    feedback_here : (line : ℕ)
        → feedback_read mode line (tokens_of (drop at s))
        ≡ (present line (int_at value_most alone 0) >>= (λ v. refuse 20 on line unless (leb v feedback_most) >> (read_to_its_end mode line alone (int_width (int_at value_most alone 0)) >> going v)))
    unfolding feedback_read
    feedback_here line = ap (feedback_read mode line) t.tokens

    module _ (line : ℕ) (found : Parsed ℕ) (e : int_at value_most s from ≡ Some found) where
      pub feedback_read_law : found.value ≤ 255 → tailed mode found.next end ≡ false → feedback_read mode line (tokens_of (drop at s)) ≡ going found.value
      unfolding present int_width ◌>>=◌ ◌>>◌ refuse◌on◌unless◌
      feedback_read_law h f =
          let c = int_alone found e in
          feedback_here line ∙ rw (c.1, le-leb found.value 255 h, read_through mode line alone _ (sym (cut_tailed mode found.next c.0) ∙ f))

      pub feedback_tailed : found.value ≤ 255 → tailed mode found.next end ≡ true → feedback_read mode line (tokens_of (drop at s)) ≡ refused 32 line
      unfolding present int_width ◌>>=◌ ◌>>◌ refuse◌on◌unless◌
      feedback_tailed h f =
          let c = int_alone found e in
          feedback_here line ∙ rw (c.1, le-leb found.value 255 h, read_tail mode line alone _ (sym (cut_tailed mode found.next c.0) ∙ f))

      pub feedback_over : 255 < found.value → feedback_read mode line (tokens_of (drop at s)) ≡ refused 20 line
      unfolding present ◌>>=◌ ◌>>◌ refuse◌on◌unless◌
      feedback_over h = feedback_here line ∙ rw ((int_alone found e).1, lt-leb found.value 255 h)

    pub feedback_absent : (line : ℕ) → int_at value_most s from ≡ None → feedback_read mode line (tokens_of (drop at s)) ≡ refused 18 line
    unfolding present ◌>>=◌
    feedback_absent line e =
        let g : present line (int_at value_most alone 0) ≡ refused 18 line =
        sym (present_moved line from (int_at value_most alone 0))
        ∙ ap (present line) (sym (int_token s from end (omega (arith, t.some)) t.stops value_most) ∙ e) in
        feedback_here line ∙ rw g

-- ---- some tokens, and then more

going_on : (xs ys : List Float) (o : Outcome (List Float))
    → ((o >>= (λ zs. going (ys ++ zs))) >>= (λ zs. going (xs ++ zs))) ≡ (o >>= (λ zs. going ((xs ++ ys) ++ zs)))
unfolding ◌>>=◌
going_on xs ys (going zs) = ap going (sym (append_assoc xs ys zs))
going_on xs ys (refused n l) = refl

module _ (mode : Mode) (s : List ℕ) (at next : ℕ) (xs : List Float) (p : Passed mode s at xs next) where
  pub passed_more : (ys : List Float) (end : ℕ) → Passed mode s next ys end → Passed mode s at (xs ++ ys) end
  passed_more ys end q = record {
    numbers = λ line k.
        ap (λ (n : ℕ). numbers_read mode line (take n (tokens_of (drop at s)))) (let l = length-append xs ys in let e : length (xs ++ ys) + k ≡ length xs + (length ys + k) = omega arith in e)
        ∙ p.numbers line (length ys + k)
        ∙ ap (λ (o : Outcome (List Float)). o >>= (λ zs. going (xs ++ zs))) (q.numbers line k)
        ∙ going_on xs ys _;
    tokens =
        ap (λ (n : ℕ). drop n (tokens_of (drop at s))) (length-append xs ys)
        ∙ sym (drop-drop (length ys) (length xs) (tokens_of (drop at s)))
        ∙ ap (drop (length ys)) p.tokens
        ∙ q.tokens;
  }

  pub passed_stopped : (m n : ℕ) → Stopped mode s next m n → Stopped mode s at (length xs + m) n
  unfolding ◌>>=◌
  passed_stopped m n q line k =
      ap (λ (j : ℕ). numbers_read mode line (take j (tokens_of (drop at s)))) (let e : length xs + m + k ≡ length xs + (m + k) = omega arith in e)
      ∙ p.numbers line (m + k)
      ∙ ap (λ (o : Outcome (List Float)). o >>= (λ zs. going (xs ++ zs))) (q line k)

-- a refusal among the first tokens is one among more
pub stopped_more : (mode : Mode) (s : List ℕ) (at m n j : ℕ) → Stopped mode s at m n → Stopped mode s at (m + j) n
stopped_more mode s at m n j q line k =
    ap (λ (i : ℕ). numbers_read mode line (take i (tokens_of (drop at s)))) (let e : m + j + k ≡ m + (j + k) = omega arith in e) ∙ q line (j + k)

-- ---- a line

module _ (mode : Mode) (line : ℕ) (before : Option ℕ) (above : ℕ) (l : List ℕ) where
  pub line_indented : (n : ℕ) → indented line before (indent_of l) ≡ refused n line → refused n line ≡ operator_read mode line before above l
  unfolding operator_read ◌>>◌
  line_indented n e = rw e

  -- past its indent
  module _ (i : indented line before (indent_of l) ≡ going tt) where
    counted_wrong : (length (tokens_of l) ≡ 6 → ⊥) → (length (tokens_of l) ≡ 7 → ⊥) → (eqb (length (tokens_of l)) 6 || eqb (length (tokens_of l)) 7) ≡ false
    counted_wrong f g = rw (ne_eqb (length (tokens_of l)) 6 f, ne_eqb (length (tokens_of l)) 7 g)

    pub line_counted : (length (tokens_of l) ≡ 6 → ⊥) → (length (tokens_of l) ≡ 7 → ⊥) → refused 17 line ≡ operator_read mode line before above l
    unfolding operator_read ◌>>◌ refuse◌on◌unless◌
    line_counted f g = rw (i, counted_wrong f g)

    -- and with six tokens or seven
    module _ (few : 6 ≤ length (tokens_of l)) (many : length (tokens_of l) ≤ 7) where
      counted_right : (eqb (length (tokens_of l)) 6 || eqb (length (tokens_of l)) 7) ≡ true
      counted_right = go (eqb (length (tokens_of l)) 6) refl
        where
          go : (x : Bool) → eqb (length (tokens_of l)) 6 ≡ x → (x || eqb (length (tokens_of l)) 7) ≡ true
          go true e = refl
          go false e = eq-eqb (length (tokens_of l)) 7 (omega (arith, eqb-false (length (tokens_of l)) 6 e))

      pub line_stopped : (n : ℕ) → Stopped mode l 0 6 n → refused n line ≡ operator_read mode line before above l
      unfolding operator_read ◌>>=◌ ◌>>◌ refuse◌on◌unless◌
      line_stopped n q = rw (i, counted_right, q line 0)

      module _ (o : Operator) (next : ℕ) (p : Passed mode l 0 (numbers_of o) next) where
        numbers_all : numbers_read mode line (take 6 (tokens_of l)) ≡ going (numbers_of o)
        unfolding numbers_read ◌>>=◌
        numbers_all = p.numbers line 0

        pub line_unfed : (n : ℕ) → feedback_read mode line (tokens_of (drop next l)) ≡ refused n line
            → refused n line ≡ operator_read mode line before above l
        unfolding operator_read ◌>>=◌ ◌>>◌ refuse◌on◌unless◌
        line_unfed n e = rw (i, counted_right, numbers_all, p.tokens, e)

        module _ (f : ℕ) (e : feedback_read mode line (tokens_of (drop next l)) ≡ going f) where
          pub line_full : 32 ≤ above → refused 21 line ≡ operator_read mode line before above l
          unfolding operator_read ◌>>=◌ ◌>>◌ refuse◌on◌unless◌
          line_full h = rw (i, counted_right, numbers_all, p.tokens, e, le-ltb above 32 h)

          pub line_read : above < 32 → going (record { indent = indent_of l; op = operator_of (numbers_of o) f }) ≡ operator_read mode line before above l
          unfolding operator_read ◌>>=◌ ◌>>◌ refuse◌on◌unless◌
          line_read h = rw (i, counted_right, numbers_all, p.tokens, e, lt-ltb above 32 h)
