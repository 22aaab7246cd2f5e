-- An instrument that is read is one that a sheet handed in may have: its 32 lines at most come to 64 commands at most, each feedback is within 255 by 20, and
-- its release is the largest of decimals, which are times. Assumes nothing.
use mathlib.Core.Path.{◌≡◌, refl, ap}
use mathlib.Core.Bool.{Bool, true, false, ◌||◌}
use mathlib.Core.List.{List, [], ◌∷◌, ◌++◌, map, reverse_aux}
use mathlib.Core.Option.{Option, none, some}
use Prim.Native.Nat.{ℕ, zero, suc, ◌+◌, ◌-◌, ◌≤◌, ◌<◌}
use native.Mathlib.Omega.{arith}
use lib.Dec.{T, ltb, eqb}
use lib.ListN.{length, take, drop, get_or, replicate, length-map}
use lib.Seq.{take_at, length-take-le}
use lib.Ieee.{Float, nan, lt}
use lib.Ieee.Bits.{is_true}
use borrow.Author.Tests.{le-leb, leb-true, eqb-true}
use Rattle.ieee.specs.Constants.{plus_zero}
use Rattle.ieee.specs.Times.{is_time}
use Rattle.ieee.proofs.Times.{nonnegative_time}
use Rattle.lines.specs.Tokens.{tokens_of}
use Rattle.std.specs.Prelude.{Result, Ok, Err}
use Rattle.text.specs.declared.parsed.Parsed.{Parsed}
use Rattle.number.specs.declared.decimal.NoDecimal.{NoDecimal}
use Rattle.number.specs.declared.decimal.NoDecimal.TheVariants.{Unreadable, TooLong}
use Rattle.number.specs.Decimal.{decimal_at}
use Rattle.number.proofs.Cuts.{decimal_plain}
use Rattle.instrument.specs.declared.machine.Command.{Command}
use Rattle.instrument.specs.declared.machine.Command.TheVariants as Command
use Rattle.instrument.specs.declared.machine.Slot.{Slot}
use Rattle.tree.specs.Lines.{Line, outdent, downward, commands_of, larger, release_from, release_of}
use Rattle.tree.proofs.CommandCount.{commands_few}
use Rattle.sheet.specs.Capacities.{commands_most, feedback_most}
use Rattle.sheet.specs.Padding.{padded}
use Rattle.sheet.specs.Refusals.{Outcome, going, refused}
use Rattle.sheet.proofs.Basics.{both, false_true}
use Rattle.sheet.proofs.Holds.{Holds, holds_going, holds_refused, holds_unless, holds_if, holds_then, holds_after}
use Rattle.strict.specs.declared.mode.Mode.{Mode}
use Rattle.operators.specs.OperatorLines.{indent_of, operator_of, readable, numbers_read, feedback_read, operator_read, operators_read}
use Rattle.operators.proofs.Indents.{holds_indented, AllFit, all_fit}
use Rattle.commands.specs.Commands.{no_command, instrument_of}
use Rattle.handed.specs.Check.{all, command_passes, slot_passes, instrument_passes}
use Rattle.meaning.proofs.NotesKept.{all_both}
use Rattle.meaning.specs.Sheets.{plain}

-- ---- what follows of two facts of a reading

holds_both : {A : Type 0} (P Q R : A → Type 0) (m : Outcome A) → Holds P m → Holds Q m → ((x : A) → P x → Q x → R x) → Holds R m
unfolding Holds
holds_both P Q R (going x) h k f = f x h k
holds_both P Q R (refused n l) h k f = tt

-- ---- the lines that are read

-- the numbers of a line are times
abbrev Times : List Float → Type 0
Times [] = Unit
Times (x ∷ xs) = T (is_time x) × Times xs

readable_time : (line : ℕ) (t : List ℕ) (d : Result (Parsed Float) NoDecimal) → decimal_at t 0 ≡ d → Holds (λ (x : Float). T (is_time x)) (readable line d)
unfolding readable
readable_time line t (Ok found) e =
    holds_going (λ (x : Float). T (is_time x)) found.value (nonnegative_time found.value (decimal_plain t 0 found e).nonnegative)
readable_time line t (Err Unreadable) e = holds_refused _ _ _
readable_time line t (Err TooLong) e = holds_refused _ _ _

-- as many as there are tokens, and all are times
abbrev Numbers : ℕ → List Float → Type 0
Numbers n xs = (length xs ≡ n) × Times xs

numbers_times : (mode : Mode) (line : ℕ) (ts : List (List ℕ)) → Holds (Numbers (length ts)) (numbers_read mode line ts)
unfolding numbers_read
numbers_times mode line [] = holds_going (Numbers 0) [] (refl, tt)
numbers_times mode line (t ∷ ts) =
    holds_then (λ (x : Float). T (is_time x)) (Numbers (suc (length ts))) (readable line (decimal_at t 0)) _ (readable_time line t (decimal_at t 0) refl)
    (λ x h. holds_if _ _ _ _ _
    (holds_then (Numbers (length ts)) (Numbers (suc (length ts))) (numbers_read mode line ts) _ (numbers_times mode line ts)
    (λ xs k. holds_going (Numbers (suc (length ts))) (x ∷ xs) (ap suc k.0, (h, k.1)))))

time_at_law : (xs : List Float) (i : ℕ) → i < length xs → Times xs → T (is_time (get_or xs i nan))
time_at_law [] i h t = absurd (omega (arith, h))
time_at_law (x ∷ xs) zero h t = t.0
time_at_law (x ∷ xs) (suc i) h t = time_at_law xs i (omega (arith, h)) t.1

feedback_most_law : (mode : Mode) (line : ℕ) (ts : List (List ℕ)) → Holds (λ (f : ℕ). f ≤ feedback_most) (feedback_read mode line ts)
unfolding feedback_read
feedback_most_law mode line [] = holds_going (λ (f : ℕ). f ≤ feedback_most) 0 (omega arith)
feedback_most_law mode line (t ∷ ts) =
    holds_after _ _ _ (λ v. holds_unless _ _ _ _ _ (λ e. holds_if _ _ _ _ _ (holds_going (λ (f : ℕ). f ≤ feedback_most) v (leb-true v feedback_most e))))

-- what a line has
pub record Lasts (l : Line) : Type 0 where
  pub release : T (is_time l.op.release)
  pub feedback : l.op.feedback ≤ feedback_most

-- a line of six tokens or seven has six
six : (n : ℕ) → (eqb n 6 || eqb n 7) ≡ true → 6 ≤ n
six n e = go (eqb n 6) (eqb n 7) refl refl e
  where
    go : (a b : Bool) → eqb n 6 ≡ a → eqb n 7 ≡ b → (a || b) ≡ true → 6 ≤ n
    go true b p q t = omega (arith, eqb-true n 6 p)
    go false true p q t = omega (arith, eqb-true n 7 q)
    go false false p q t = false_true t

one_lasts : (mode : Mode) (line : ℕ) (before : Option ℕ) (above : ℕ) (l : List ℕ) → Holds Lasts (operator_read mode line before above l)
unfolding operator_read operator_of
one_lasts mode line before above l =
    let ts = tokens_of l in
    holds_indented _ line before (indent_of l) _
    (λ e. holds_unless _ _ _ _ _
    (λ t. holds_then (Numbers (length (take 6 ts))) Lasts (numbers_read mode line (take 6 ts)) _ (numbers_times mode line (take 6 ts))
    (λ xs n. holds_then (λ (f : ℕ). f ≤ feedback_most) Lasts (feedback_read mode line (drop 6 ts)) _ (feedback_most_law mode line (drop 6 ts))
    (λ f h. holds_unless _ _ _ _ _
    (λ u. holds_going Lasts _
    (record { release = time_at_law xs 5 (omega (arith, n.0, length-take-le 6 ts (six (length ts) t))) n.1; feedback = h }))))))

-- all of them
abbrev pub AllLast : List Line → Type 0
AllLast [] = Unit
AllLast (l ∷ ls) = Lasts l × AllLast ls

all_last : (mode : Mode) (before : Option ℕ) (line above : ℕ) (ls : List (List ℕ)) → Holds AllLast (operators_read mode before line above ls)
unfolding operators_read
all_last mode before line above [] = holds_going AllLast [] tt
all_last mode before line above (l ∷ ls) =
    holds_then Lasts AllLast (operator_read mode line before above l) _ (one_lasts mode line before above l)
    (λ o g. holds_then AllLast AllLast (operators_read mode (some o.indent) (line + 1) (above + 1) ls) _
    (all_last mode (some o.indent) (line + 1) (above + 1) ls) (λ os k. holds_going AllLast (o ∷ os) (g, k)))

-- ---- their release

larger_time : (x y : Float) → T (is_time x) → T (is_time y) → T (is_time (larger x y))
unfolding larger
larger_time x y h i = go (lt x y)
  where
    go : (b : Bool) → T (is_time (elim b as (λ _. Float) [ true ↦ y | false ↦ x ]))
    go true = i
    go false = h

release_time : (x : Float) (ls : List Line) → T (is_time x) → AllLast ls → T (is_time (release_from x ls))
unfolding release_from
release_time x [] h k = h
release_time x (l ∷ ls) h k = release_time (larger x l.op.release) ls (larger_time x l.op.release h k.0.release) k.1

-- ---- their commands

outdent_passes : (before : Option ℕ) (i : ℕ) → all command_passes (outdent before i) ≡ true
unfolding outdent all command_passes
outdent_passes none i = refl
outdent_passes (some b) i = go (ltb i b)
  where
    go : (x : Bool) → all command_passes (elim x as (λ _. List Command) [ true ↦ Command.Stack (b - i) ∷ [] | false ↦ [] ]) ≡ true
    go true = refl
    go false = refl

downward_passes : (before : Option ℕ) (ls : List Line) → AllLast ls → all command_passes (downward before ls) ≡ true
unfolding downward all command_passes
downward_passes before [] k = refl
downward_passes before (l ∷ ls) k =
    all_both command_passes (outdent before l.indent) (Command.Operator l.op ∷ downward (some l.indent) ls) (outdent_passes before l.indent)
    (rw (le-leb l.op.feedback feedback_most k.0.feedback) (downward_passes (some l.indent) ls k.1))

all_turned : {A : Type 0} (test : A → Bool) (xs ys : List A) → all test xs ≡ true → all test ys ≡ true → all test (reverse_aux xs ys) ≡ true
unfolding all
all_turned test [] ys e f = f
all_turned test (x ∷ xs) ys e f = let b = both (test x) (all test xs) e in all_turned test xs (x ∷ ys) b.1 (rw b.0 f)

commands_pass : (ls : List Line) → AllLast ls → all command_passes (commands_of ls) ≡ true
unfolding commands_of all
commands_pass ls k = all_turned command_passes (downward none ls) [] (downward_passes none ls k) refl

slots_pass : (cs : List Command) → all command_passes cs ≡ true → all slot_passes (map (λ (c : Command). record { command = c }) cs) ≡ true
unfolding all slot_passes
slots_pass [] e = refl
slots_pass (c ∷ cs) e = let b = both (command_passes c) (all command_passes cs) e in rw b.0 (slots_pass cs b.1)

-- so the instrument of such lines passes
instrument_passes_law : (ls : List Line) → AllFit none 0 ls → AllLast ls → instrument_passes (instrument_of ls) ≡ true
unfolding instrument_passes instrument_of padded release_of
instrument_passes_law ls g k =
    let cs = commands_of ls in
    let ss : List Slot = map (λ (c : Command). record { command = c }) cs in
    let front : take (length cs) (ss ++ replicate (commands_most - length ss) no_command) ≡ ss =
    take_at ss (replicate (commands_most - length ss) no_command) (length cs) (length-map cs (λ (c : Command). record { command = c })) in
    rw (
      le-leb (length cs) commands_most (omega (arith, commands_few ls, g.few)),
      is_true (is_time (release_from plus_zero ls)) (release_time plus_zero ls tt k),
      front,
    )
    (slots_pass cs (commands_pass ls k))

-- and so does every instrument that is read
pub operators_pass : (mode : Mode) (line : ℕ) (ls : List (List ℕ)) → Holds (λ (os : List Line). instrument_passes (instrument_of os) ≡ true) (operators_read mode none line 0 ls)
operators_pass mode line ls =
    holds_both (AllFit none 0) AllLast (λ (os : List Line). instrument_passes (instrument_of os) ≡ true) (operators_read mode none line 0 ls)
    (all_fit mode none line 0 ls (omega arith)) (all_last mode none line 0 ls) (λ os g k. instrument_passes_law os g k)

pub plain_passes : instrument_passes (instrument_of plain) ≡ true
unfolding instrument_passes instrument_of padded release_of commands_of lt
plain_passes = refl
