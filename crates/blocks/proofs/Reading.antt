-- Reading the operator lines below a header: whatever lines stand from the walk's place on, what they come to, with those
-- that the columns keep in front, is what all of them come to. The reader's loop keeps this, and each of its exits cites
-- one law. Assumes nothing.
use mathlib.Core.Path.{◌≡◌, refl, sym, ap, ap₂, subst, ◌∙◌}
use mathlib.Core.Bool.{true, false}
use mathlib.Core.List.{List, [], ◌∷◌, ◌++◌, append-nil}
use mathlib.Core.Option.{Option, none, some}
use Prim.Native.Nat.{ℕ, zero, suc, ◌+◌, ◌*◌, ◌-◌, ◌≤◌, ◌<◌}
use native.Mathlib.Nat.{add-zero}
use native.Mathlib.Numerals.{add-one}
use native.Mathlib.Omega.{arith}
use lib.ListN.{length, take, drop, drop_of_length-le, take-append-drop}
use lib.Seq.{append_snoc, drop-drop, take-add}
use lib.Ieee.{Float}
use borrow.Author.Tests.{le-leb, lt-leb}
use Rattle.lines.specs.Lines.{lines_of, line_width, behind_lines}
use Rattle.lines.specs.Tokens.{tokens_of}
use Rattle.lines.proofs.LinePlaces.{Lined}
use Rattle.std.specs.Prelude.{Option as Optional, Some, None, Result, Ok, Err}
use Rattle.text.specs.declared.parsed.Parsed.{Parsed}
use Rattle.number.specs.declared.decimal.NoDecimal.{NoDecimal}
use Rattle.number.specs.declared.decimal.NoDecimal.TheVariants.{Unreadable, TooLong}
use Rattle.number.specs.Digits.{value_most, int_at}
use Rattle.number.specs.Decimal.{decimal_at}
use Rattle.operator.specs.declared.operator.Operator.{Operator}
use Rattle.tree.specs.Lines.{Line, indent_refusal}
use Rattle.sheet.specs.declared.refusal.Refusal.{Refusal}
use Rattle.sheet.specs.declared.refusal.Refusal.TheVariants.{Full}
use Rattle.sheet.specs.Numbers.{number_of}
use Rattle.sheet.specs.Refusals.{Outcome, going, refused, ◌>>=◌, ◌>>◌}
use Rattle.sheet.proofs.Basics.{false_true}
use Rattle.sheet.proofs.Holds.{Holds, holds_of}
use Rattle.sheet.proofs.Outcomes.{then_going, then_refused, then_same, Numbered, numbered_going, numbered_refused, numbered_unless, numbered_if, numbered_then}
use Rattle.strict.specs.declared.mode.Mode.{Mode}
use Rattle.blocks.specs.declared.block.Block.{Block}
use Rattle.operators.specs.OperatorLines.{ends, operator_lines, indent_of, indented, readable, numbers_read, present, feedback_read, operator_read, operators_read}
use Rattle.operators.specs.Answers.{indent_above}
use Rattle.blocks.specs.Blocks.{lines_in, has_room, block_read, first_read, block_outcome}
use Rattle.operators.proofs.Indents.{Fits, one_fits}

-- ---- a line's refusal is not 0

module _ (line : ℕ) where
  indented_numbered : {A : Type 0} (before : Option ℕ) (i : ℕ) (rest : Outcome A) → Numbered rest → Numbered (◌>>◌ (indented line before i) rest)
  unfolding indented ◌>>◌ Numbered
  indented_numbered before i rest h = go (indent_refusal before i)
    where
      go : (n : ℕ) → Numbered (◌>>◌ (elim n as (λ _. Outcome (Unit {0})) [ zero ↦ going tt | suc m ↦ refused (suc m) line ]) rest)
      go zero = h
      go (suc m) = omega arith

  readable_numbered : (d : Result (Parsed Float) NoDecimal) → Numbered (readable line d)
  unfolding readable
  readable_numbered (Ok found) = numbered_going found.value
  readable_numbered (Err Unreadable) = numbered_refused _ 18 line (omega arith)
  readable_numbered (Err TooLong) = numbered_refused _ 19 line (omega arith)

  present_numbered : (i : Optional (Parsed ℕ)) → Numbered (present line i)
  unfolding present
  present_numbered (Some found) = numbered_going found.value
  present_numbered None = numbered_refused _ 18 line (omega arith)

module _ (mode : Mode) (line : ℕ) where
  numbers_numbered : (ts : List (List ℕ)) → Numbered (numbers_read mode line ts)
  unfolding numbers_read
  numbers_numbered [] = numbered_going []
  numbers_numbered (t ∷ ts) =
      numbered_then _ _ (readable_numbered line (decimal_at t 0))
      (λ x. numbered_if _ _ _ _ (omega arith) (numbered_then _ _ (numbers_numbered ts) (λ xs. numbered_going (x ∷ xs))))

  feedback_numbered : (ts : List (List ℕ)) → Numbered (feedback_read mode line ts)
  unfolding feedback_read
  feedback_numbered [] = numbered_going 0
  feedback_numbered (t ∷ ts) =
      numbered_then _ _ (present_numbered line (int_at value_most t 0))
      (λ v. numbered_unless _ _ _ _ (omega arith) (numbered_if _ _ _ _ (omega arith) (numbered_going v)))

  pub line_numbered : (before : Option ℕ) (above : ℕ) (l : List ℕ) → Numbered (operator_read mode line before above l)
  unfolding operator_read
  line_numbered before above l =
      indented_numbered line before (indent_of l) _
      (numbered_unless _ _ _ _ (omega arith)
      (numbered_then _ _ (numbers_numbered (take 6 (tokens_of l)))
      (λ xs. numbered_then _ _ (feedback_numbered (drop 6 (tokens_of l))) (λ f. numbered_unless _ _ _ _ (omega arith) (numbered_going _)))))

-- ---- the lines below

lines_ended : (l : List ℕ) (ls : List (List ℕ)) → ends l ≡ true → operator_lines (l ∷ ls) ≡ []
unfolding operator_lines
lines_ended l ls e = rw (e, operator_lines)

lines_go_on : (l : List ℕ) (ls : List (List ℕ)) → ends l ≡ false → operator_lines (l ∷ ls) ≡ l ∷ operator_lines ls
unfolding operator_lines
lines_go_on l ls e = rw (e, operator_lines)

-- one line behind those that are read, and then the others
one_behind : (xs ys : List Line) (o : Line) (m : Outcome (List Line)) → ys ≡ xs ++ (o ∷ [])
    → ◌>>=◌ (◌>>=◌ m (λ os. going (o ∷ os))) (λ os. going (xs ++ os)) ≡ ◌>>=◌ m (λ os. going (ys ++ os))
unfolding ◌>>=◌
one_behind xs ys o (going os) e = ap going (sym (append_snoc xs o os) ∙ ap (λ (zs : List Line). zs ++ os) (sym e))
one_behind xs ys o (refused n l) e = refl

-- a list's front with its next element, and then others
front_next : {A : Type 0} (n : ℕ) (l : List A) (x : A) (xs later : List A) → drop n l ≡ x ∷ xs
    → take (n + 1) l ++ later ≡ take n l ++ (x ∷ later)
front_next n l x xs later e =
    ap (λ (ys : List _). ys ++ later) (take-add n 1 l ∙ ap (λ (ys : List _). take n l ++ take 1 ys) e)
    ∙ append_snoc (take n l) x later

-- what is left behind a place is also left behind a later one
drop_on : {A : Type 0} (k n : ℕ) (l m : List A) → drop (k * n) l ≡ drop (k * n) m
    → drop (k * (n + 1)) l ≡ drop (k * (n + 1)) m
drop_on k n l m e =
    let z : k * n + k ≡ k * (n + 1) = omega arith in
    subst (λ (j : ℕ). drop j l ≡ drop j m) z (sym (drop-drop k (k * n) l) ∙ ap (drop k) e ∙ drop-drop k (k * n) m)

-- ---- the walk

-- at `place` so many lines from `at` on are read, the last of them with the indent `before`, and stand in the columns, which were fs₀ and ss₀
pub record Reading (mode : Mode) (source : List ℕ) (at : ℕ) (fs₀ : List Float) (ss₀ : List ℕ) (fs : List Float) (ss : List ℕ) (place count before : ℕ) : Type 0 where
  pub wide : 192 ≤ length fs₀
  pub high : 64 ≤ length ss₀
  pub floats : length fs ≡ length fs₀
  pub shapes : length ss ≡ length ss₀
  pub few : count ≤ 32
  pub onward : at ≤ place
  pub inside : at ≤ length source → place ≤ length source
  pub behind : place ≡ behind_lines count source at
  pub lines : lines_of (drop place source) ≡ drop count (lines_of (drop at source))
  pub ahead : drop count (operator_lines (lines_of (drop at source))) ≡ operator_lines (lines_of (drop place source))
  pub means : (line : ℕ) (later : List (List ℕ))
      → operators_read mode none line 0 (take count (operator_lines (lines_of (drop at source))) ++ later)
      ≡ ◌>>=◌ (operators_read mode (indent_above count before) (line + count) count later)
      (λ os. going (lines_in count fs ss ++ os))
  pub numbers : drop (6 * count) fs ≡ drop (6 * count) fs₀
  pub shape : drop (2 * count) ss ≡ drop (2 * count) ss₀

pub reading_start : (mode : Mode) (source : List ℕ) (at : ℕ) (fs : List Float) (ss : List ℕ) → 192 ≤ length fs → 64 ≤ length ss → Reading mode source at fs ss fs ss at 0 0
unfolding indent_above lines_in behind_lines
reading_start mode source at fs ss h k =
    record {
      behind = refl;
      wide = h;
      high = k;
      floats = refl;
      shapes = refl;
      few = omega arith;
      onward = omega arith;
      inside = λ i. i;
      lines = refl;
      ahead = refl;
      means = λ line later.
          sym (then_same _)
          ∙ ap (λ (n : ℕ). ◌>>=◌ (operators_read mode none n 0 later) (λ os. going os)) (sym (add-zero line));
      numbers = refl;
      shape = refl;
    }

-- what the reader promises of an answer, by the names of its clauses
abbrev pub Answered : Mode → List ℕ → ℕ → List Float → List ℕ → List Float → List ℕ → Block → Type 0
Answered mode source at fs₀ ss₀ fs ss b = record {
  read : (line : ℕ) → block_outcome line b fs ss ≡ block_read mode line (drop at source) (length fs₀) (length ss₀);
  place : b.next ≡ behind_lines b.count source at;
  onward : b.refusal ≡ None → lines_of (drop b.next source) ≡ drop b.count (lines_of (drop at source));
  within : (at ≤ b.next) × (at ≤ length source → b.next ≤ length source);
  few : b.count ≤ 32;
  kept : has_room (length fs₀) (length ss₀) ≡ false → (fs ≡ fs₀) × (ss ≡ ss₀);
  front : (line : ℕ) → first_read mode line b.count (drop at source) ≡ going (lines_in b.count fs ss);
  rest : (drop (6 * b.count) fs ≡ drop (6 * b.count) fs₀) × (drop (2 * b.count) ss ≡ drop (2 * b.count) ss₀);
}

-- an answer by its values in their order
abbrev pub block : ℕ → ℕ → Optional Refusal → Block
block count next refusal = record { count = count; next = next; refusal = refusal }

module _ (mode : Mode) (source : List ℕ) (at : ℕ) (fs : List Float) (ss : List ℕ) where
  answered_narrow : has_room (length fs) (length ss) ≡ false → Answered mode source at fs ss fs ss (block 0 at (Some Full))
  unfolding block_outcome block_read first_read operators_read lines_in behind_lines
  answered_narrow e = record {
    read = λ line. ap (refused 21) (add-zero line) ∙ sym (rw (e, block_read));
    place = refl;
    onward = λ z. cc;
    within = (omega arith, λ i. i);
    few = omega arith;
    kept = λ k. (refl, refl);
    front = λ line. refl;
    rest = (refl, refl);
  }

  pub narrow_numbers : length fs < 192 → Answered mode source at fs ss fs ss (block 0 at (Some Full))
  unfolding has_room
  narrow_numbers h = answered_narrow (rw (lt-leb 192 (length fs) h))

  pub narrow_shape : 192 ≤ length fs → length ss < 64 → Answered mode source at fs ss fs ss (block 0 at (Some Full))
  unfolding has_room
  narrow_shape h k = answered_narrow (rw (le-leb 192 (length fs) h, lt-leb 64 (length ss) k))

module _ (mode : Mode) (source : List ℕ) (at : ℕ) (fs₀ : List Float) (ss₀ : List ℕ) (fs : List Float) (ss : List ℕ) (place count before : ℕ)
    (r : Reading mode source at fs₀ ss₀ fs ss place count before) where
  -- the columns have room
  room : has_room (length fs₀) (length ss₀) ≡ true
  unfolding has_room
  room = rw (le-leb 192 (length fs₀) r.wide, le-leb 64 (length ss₀) r.high)

  roomy : {A : Type 0} → has_room (length fs₀) (length ss₀) ≡ false → A
  roomy e = false_true (sym e ∙ room)

  -- so the lines are all that counts
  block_means : (line : ℕ)
      → block_read mode line (drop at source) (length fs₀) (length ss₀)
      ≡ ◌>>=◌ (operators_read mode (indent_above count before) (line + count) count (operator_lines (lines_of (drop place source)))) (λ os. going (lines_in count fs ss ++ os))
  unfolding block_read
  block_means line =
      let ops = operator_lines (lines_of (drop at source)) in
      rw (room, block_read)
      (ap (operators_read mode none line 0) (sym (take-append-drop count ops))
      ∙ r.means line (drop count ops)
      ∙ ap
      (λ (ls : List (List ℕ)).
      ◌>>=◌ (operators_read mode (indent_above count before) (line + count) count ls)
      (λ os. going (lines_in count fs ss ++ os)))
      r.ahead)

  -- those that are read stand in the columns, and behind them is what stood there
  front_read : (line : ℕ) → first_read mode line count (drop at source) ≡ going (lines_in count fs ss)
  unfolding first_read operators_read
  front_read line =
      ap (operators_read mode none line 0) (sym (append-nil (take count (operator_lines (lines_of (drop at source))))))
      ∙ r.means line []
      ∙ then_going [] _ _ refl
      ∙ ap going (append-nil (lines_in count fs ss))

  -- no operator line follows
  answered_done : operator_lines (lines_of (drop place source)) ≡ [] → Answered mode source at fs₀ ss₀ fs ss (block count place None)
  unfolding block_outcome operators_read
  answered_done e = record {
    read = λ line.
        sym
        (block_means line
        ∙ then_going [] _ _ (ap (operators_read mode (indent_above count before) (line + count) count) e)
        ∙ ap going (append-nil (lines_in count fs ss)));
    place = r.behind;
    onward = λ z. r.lines;
    within = (r.onward, r.inside);
    few = r.few;
    kept = roomy;
    front = front_read;
    rest = (r.numbers, r.shape);
  }

  pub answered_end : length source ≤ place → Answered mode source at fs₀ ss₀ fs ss (block count place None)
  unfolding lines_of operator_lines
  answered_end h = answered_done (rw (drop_of_length-le source h))

  -- a line follows
  module _ (end next : ℕ) (l : Lined source place end next) where
    abbrev text : List ℕ
    text = take (end - place) (drop place source)

    below : lines_of (drop place source) ≡ text ∷ lines_of (drop next source)
    below = l.lines ∙ ap (λ (t : List ℕ). t ∷ lines_of (drop next source)) (sym l.line)

    pub answered_other : ends text ≡ true → Answered mode source at fs₀ ss₀ fs ss (block count place None)
    answered_other e = answered_done (ap operator_lines below ∙ lines_ended text _ e)

    -- an operator line
    module _ (e : ends text ≡ false) where
      here : operator_lines (lines_of (drop place source)) ≡ text ∷ operator_lines (lines_of (drop next source))
      here = ap operator_lines below ∙ lines_go_on text _ e

      pub answered_refused : (why : Refusal) → ((line : ℕ) → refused (number_of why) line ≡ operator_read mode line (indent_above count before) count text)
          → Answered mode source at fs₀ ss₀ fs ss (block count place (Some why))
      unfolding block_outcome operators_read
      answered_refused why q = record {
        read = λ line.
            sym
            (block_means line
            ∙ then_refused (number_of why) (line + count) _ _
            (ap (operators_read mode (indent_above count before) (line + count) count) here
            ∙ then_refused (number_of why) (line + count) _ _ (sym (q (line + count)))));
        place = r.behind;
        onward = λ z. cc;
        within = (r.onward, r.inside);
        few = r.few;
        kept = roomy;
        front = front_read;
        rest = (r.numbers, r.shape);
      }

      module _ (tabs : ℕ) (o : Operator)
          (q : (line : ℕ) → going (record { indent = tabs; op = o }) ≡ operator_read mode line (indent_above count before) count text) where
        pub line_room : count < 32
        line_room =
            (holds_of (Fits (indent_above count before) count) _
            (subst (Holds (Fits (indent_above count before) count)) (sym (q 0)) (one_fits mode 0 (indent_above count before) count text))).room

        next_above : some tabs ≡ indent_above (count + 1) tabs
        unfolding indent_above
        next_above = rw (add-one count)

        pub reading_more : (gs : List Float) (ts : List ℕ) → length gs ≡ length fs → length ts ≡ length ss
            → lines_in (count + 1) gs ts ≡ lines_in count fs ss ++ (record { indent = tabs; op = o } ∷ [])
            → (drop (6 * (count + 1)) gs ≡ drop (6 * (count + 1)) fs)
            × (drop (2 * (count + 1)) ts ≡ drop (2 * (count + 1)) ss)
            → Reading mode source at fs₀ ss₀ gs ts next (count + 1) tabs
        unfolding operators_read behind_lines
        reading_more gs ts a b k d =
            record {
              wide = r.wide;
              high = r.high;
              floats = a ∙ r.floats;
              shapes = b ∙ r.shapes;
              few = omega (arith, line_room);
              onward = omega (arith, r.onward, l.onward);
              inside = λ i. l.inside;
              behind =
                  l.width ∙ ap (λ (p : ℕ). p + line_width (drop p source)) r.behind
                  ∙ ap (λ (n : ℕ). behind_lines n source at) (let w : suc count ≡ count + 1 = omega arith in w);
              lines =
                  ap (drop 1) (sym below)
                  ∙ ap (drop 1) r.lines
                  ∙ drop-drop 1 count (lines_of (drop at source));
              ahead =
                  sym (drop-drop 1 count (operator_lines (lines_of (drop at source)))) ∙ ap (drop 1) (r.ahead ∙ here);
              means = λ line later.
                  ap (operators_read mode none line 0) (front_next count _ text _ later (r.ahead ∙ here))
                  ∙ r.means line (text ∷ later)
                  ∙ ap (λ (m : Outcome (List Line)). ◌>>=◌ m (λ os. going (lines_in count fs ss ++ os)))
                  (then_going _ _ _ (sym (q (line + count))))
                  ∙ one_behind (lines_in count fs ss) (lines_in (count + 1) gs ts) (record { indent = tabs; op = o }) _ k
                  ∙ ap₂
                  (λ (p : Option ℕ) (n : ℕ).
                  ◌>>=◌ (operators_read mode p n (count + 1) later) (λ os. going (lines_in (count + 1) gs ts ++ os)))
                  next_above (let w : line + count + 1 ≡ line + (count + 1) = omega arith in w);
              numbers = d.0 ∙ drop_on 6 count fs fs₀ r.numbers;
              shape = d.1 ∙ drop_on 2 count ss ss₀ r.shape;
            }
