-- Commands laid down from the last line up: each line puts its own behind those of the lines below it, and 32 lines have room. Assumes nothing.
use mathlib.Core.Path.{◌≡◌, refl, sym, ap, ap₂, ◌∙◌}
use mathlib.Core.List.{List, [], ◌∷◌, ◌++◌, map, map-append, reverse, reverse-cons}
use mathlib.Core.Option.{none, some}
use Prim.Native.Nat.{ℕ, zero, suc, ◌+◌, ◌-◌, ◌*◌, ◌/◌, ◌≤◌, ◌<◌, min}
use native.Mathlib.Nat.{add-zero, mul-div-le}
use native.Mathlib.Numerals.{add-one}
use native.Mathlib.Omega.{arith}
use borrow.Author.Tests.{lt-ltb, le-ltb}
use lib.ListN.{length, drop, set, get_or, length-append, length-map, length-reverse}
use lib.Seq.{get_or-drop, drop-drop}
use lib.Ieee.{Float, nan, binary32, of_bits}
use Rattle.instrument.specs.declared.machine.Command.{Command}
use Rattle.instrument.specs.declared.machine.Slot.{Slot}
use Rattle.instrument.specs.declared.machine.Instrument.{Instrument}
use Rattle.tree.specs.Lines.{Line, outdent, downward, commands_of, larger, release_from, release_of}
use Rattle.tree.proofs.CommandCount.{outdent_few, downward_few}
use Rattle.blocks.specs.Blocks.{lines_in}
use Rattle.commands.specs.declared.layout.Laid.{Laid}
use Rattle.commands.specs.Commands.{no_command, clipped, instrument_of, lines_held}
use Rattle.sheet.proofs.Padded.{padded_set}
use Rattle.sheet.specs.Padding.{padded}
use Rattle.commands.specs.Laying.{lines_from, operator_at, above, put, puts, laid}

-- ---- commands in their array

abbrev slots : List Command → List Slot
slots cs = map (λ (c : Command). record { command = c }) cs

put_laid : (c : Command) (cs : List Command) → length cs < 64 → put c (laid cs) ≡ laid (c ∷ cs)
put_laid c cs h =
    let n : length (slots (reverse cs)) ≡ length cs = length-map (reverse cs) (λ (d : Command). record { command = d }) ∙ length-reverse cs in
    let e : slots (reverse (c ∷ cs)) ≡ slots (reverse cs) ++ (record { command = c } ∷ []) = ap slots (reverse-cons c cs) ∙ map-append (λ (d : Command). record { command = d }) (reverse cs) (c ∷ []) in
    let s : set (padded 64 no_command (slots (reverse cs))) (length cs) (record { command = c }) ≡ padded 64 no_command (slots (reverse (c ∷ cs))) =
    ap (λ (k : ℕ). set (padded 64 no_command (slots (reverse cs))) k (record { command = c })) (sym n)
    ∙ padded_set 64 no_command (record { command = c }) (slots (reverse cs)) (omega (arith, n))
    ∙ ap (padded 64 no_command) (sym e) in
    ap₂ {C = Laid} (λ (xs : List Slot) (k : ℕ). record { commands = xs; count = k }) s (add-one (length cs))

puts_laid : (cs ds : List Command) → length cs + length ds ≤ 64 → puts cs (laid ds) ≡ laid (cs ++ ds)
unfolding puts
puts_laid [] ds h = refl
puts_laid (c ∷ cs) ds h = ap (put c) (puts_laid cs ds (omega arith)) ∙ put_laid c (cs ++ ds) (omega (arith, length-append cs ds))

-- ---- lines from a place on

lines_first : (k i : ℕ) (fs : List Float) (ss : List ℕ)
    → lines_from (suc k) i fs ss ≡ record { indent = get_or ss (2 * i) 0; op = operator_at i fs ss } ∷ lines_from k (suc i) fs ss
unfolding lines_from lines_in clipped
lines_first k i fs ss =
    let f : drop 6 (drop (6 * i) fs) ≡ drop (6 * suc i) fs = drop-drop 6 (6 * i) fs ∙ ap (λ (j : ℕ). drop j fs) (let e : 6 * i + 6 ≡ 6 * suc i = omega arith in e) in
    let s : drop 2 (drop (2 * i) ss) ≡ drop (2 * suc i) ss = drop-drop 2 (2 * i) ss ∙ ap (λ (j : ℕ). drop j ss) (let e : 2 * i + 2 ≡ 2 * suc i = omega arith in e) in
    rw (get_or-drop (6 * i) fs 0 nan, get_or-drop (6 * i) fs 1 nan, get_or-drop (6 * i) fs 2 nan, get_or-drop (6 * i) fs 3 nan, get_or-drop (6 * i) fs 4 nan, get_or-drop (6 * i) fs 5 nan, get_or-drop (2 * i) ss 0 0, get_or-drop (2 * i) ss 1 0, add-zero (6 * i), add-zero (2 * i), f, s)

lines_many : (k i : ℕ) (fs : List Float) (ss : List ℕ) → length (lines_from k i fs ss) ≡ k
unfolding lines_from
lines_many zero i fs ss = refl
lines_many (suc k) i fs ss = ap length (lines_first k i fs ss) ∙ ap suc (lines_many k (suc i) fs ss)

-- what the lines from a place on put
abbrev put_from : ℕ → ℕ → List Float → List ℕ → List Command
put_from k i fs ss = downward (above i ss) (lines_from k i fs ss)

put_few : (k i : ℕ) (fs : List Float) (ss : List ℕ) → length (put_from k i fs ss) ≤ 2 * k
put_few k i fs ss = omega (arith, downward_few (above i ss) (lines_from k i fs ss), lines_many k i fs ss)

-- ---- one line

-- a line puts no Stack where none stands above it, or one that is indented no more
pub first_line_law : (i own : ℕ) (ss : List ℕ) (l : Laid) → i ≡ 0 → l ≡ puts (outdent (above i ss) own) l
unfolding puts outdent above
first_line_law i own ss l e = sym (ap (λ (j : ℕ). puts (outdent (above j ss) own) l) e)

pub inner_line : (i own : ℕ) (ss : List ℕ) (l : Laid) → 0 < i → get_or ss (2 * (i - 1)) 0 ≤ own → l ≡ puts (outdent (above i ss) own) l
unfolding puts above outdent
inner_line i own ss l h k =
    let e : suc (i - 1) ≡ i = omega arith in
    let o : outdent (some (get_or ss (2 * (i - 1)) 0)) own ≡ [] = rw (le-ltb own (get_or ss (2 * (i - 1)) 0) k, outdent) in
    sym (ap (λ (cs : List Command). puts cs l) o) ∙ ap (λ (j : ℕ). puts (outdent (above j ss) own) l) e

pub outdented_line : (i own : ℕ) (ss : List ℕ) (l : Laid) → 0 < i → own < get_or ss (2 * (i - 1)) 0
    → put (Command.Stack (get_or ss (2 * (i - 1)) 0 - own)) l ≡ puts (outdent (above i ss) own) l
unfolding puts above outdent
outdented_line i own ss l h k =
    let e : suc (i - 1) ≡ i = omega arith in
    let o : outdent (some (get_or ss (2 * (i - 1)) 0)) own ≡ Command.Stack (get_or ss (2 * (i - 1)) 0 - own) ∷ [] =
    rw (lt-ltb own (get_or ss (2 * (i - 1)) 0) k, outdent) in
    sym (ap (λ (cs : List Command). puts cs l) o) ∙ ap (λ (j : ℕ). puts (outdent (above j ss) own) l) e

-- ---- the loops

line_more : (k i : ℕ) (fs : List Float) (ss : List ℕ) → k < 32
    → puts (outdent (above i ss) (get_or ss (2 * i) 0)) (put (Command.Operator (operator_at i fs ss)) (laid (put_from k (suc i) fs ss))) ≡ laid (put_from (suc k) i fs ss)
unfolding downward above
line_more k i fs ss h =
    let own = get_or ss (2 * i) 0 in
    let cs = Command.Operator (operator_at i fs ss) ∷ put_from k (suc i) fs ss in
    ap (puts (outdent (above i ss) own)) (put_laid (Command.Operator (operator_at i fs ss)) (put_from k (suc i) fs ss) (omega (arith, put_few k (suc i) fs ss)))
    ∙ puts_laid (outdent (above i ss) own) cs (omega (arith, put_few k (suc i) fs ss, outdent_few (above i ss) own))
    ∙ ap (λ (ls : List Line). laid (downward (above i ss) ls)) (sym (lines_first k i fs ss))

module _ (most : ℕ) (fs : List Float) (ss : List ℕ) where
  -- the commands of the lines from `left` on are laid down
  pub record Laying (left : ℕ) (all : Laid) : Type 0 where
    pub within : left ≤ most
    pub lies : all ≡ laid (put_from (most - left) left fs ss)

  pub laying_start : (all : Laid) → all ≡ laid [] → Laying most all
  unfolding downward lines_from lines_in
  laying_start all e =
      let z : 0 ≡ most - most = omega arith in
      record { within = omega arith; lies = e ∙ ap (λ (k : ℕ). laid (put_from k most fs ss)) z }

  pub laying_room : (left : ℕ) (all : Laid) → Laying left all → most ≤ 32 → 0 < left → all.count + 2 ≤ 64
  laying_room left all g h k = omega (arith, ap (λ (l : Laid). l.count) g.lies, put_few (most - left) left fs ss, g.within)

  pub laying_more : (left : ℕ) (all next : Laid) → Laying left all → most ≤ 32 → 0 < left
      → next ≡ puts (outdent (above (left - 1) ss) (get_or ss (2 * (left - 1)) 0)) (put (Command.Operator (operator_at (left - 1) fs ss)) all) → Laying (left - 1) next
  laying_more left all next g h k e =
      let i = left - 1 in
      let w : left ≤ most = g.within in
      let l : left ≡ suc i = omega arith in
      let m : suc (most - left) ≡ most - i = omega arith in
      record {
        within = omega arith;
        lies =
            e
            ∙ ap (λ (a : Laid). puts (outdent (above i ss) (get_or ss (2 * i) 0)) (put (Command.Operator (operator_at i fs ss)) a))
            (g.lies ∙ ap (λ (j : ℕ). laid (put_from (most - left) j fs ss)) l)
            ∙ line_more (most - left) i fs ss (omega arith)
            ∙ ap (λ (j : ℕ). laid (put_from j i fs ss)) m;
      }

  pub laying_end : (left : ℕ) (all : Laid) → Laying left all → left ≡ 0 → all ≡ laid (downward none (lines_from most 0 fs ss))
  unfolding above
  laying_end left all g e =
      let z : most - left ≡ most = omega arith in
      g.lies ∙ ap₂ (λ (k j : ℕ). laid (put_from k j fs ss)) z e

-- ---- releases

pub release_start : (n : ℕ) (fs : List Float) (ss : List ℕ) → release_from (of_bits binary32 0) (lines_from (n - 0) 0 fs ss) ≡ release_of (lines_from n 0 fs ss)
unfolding release_of of_bits
release_start n fs ss = let z : n - 0 ≡ n = omega arith in ap (λ (k : ℕ). release_of (lines_from k 0 fs ss)) z

pub release_more : (n i : ℕ) (fs : List Float) (ss : List ℕ) (most next : Float) → i < n → next ≡ larger most (get_or fs (6 * i + 5) nan)
    → release_from next (lines_from (n - (i + 1)) (i + 1) fs ss) ≡ release_from most (lines_from (n - i) i fs ss)
unfolding release_from
release_more n i fs ss most next h e =
    let k = n - (i + 1) in
    let m : suc k ≡ n - i = omega arith in
    ap₂ (λ (x : Float) (j : ℕ). release_from x (lines_from k j fs ss)) e (add-one i)
    ∙ sym (ap (release_from most) (lines_first k i fs ss))
    ∙ ap (λ (j : ℕ). release_from most (lines_from j i fs ss)) m

pub release_end : (n i : ℕ) (fs : List Float) (ss : List ℕ) (most : Float) → n ≤ i → most ≡ release_from most (lines_from (n - i) i fs ss)
unfolding release_from lines_from lines_in
release_end n i fs ss most h = let z : 0 ≡ n - i = omega arith in ap (λ (j : ℕ). release_from most (lines_from j i fs ss)) z

-- ---- the instrument

pub most_fits : (count most a b : ℕ) → most ≡ min (min count 32) (min (a / 6) (b / 2)) → (most ≤ 32) × ((6 * most ≤ a) × (2 * most ≤ b))
most_fits count most a b e = (omega arith, (omega (arith, mul-div-le a 6), omega (arith, mul-div-le b 2)))

-- the release of the lines that the columns hold
pub release_is : (count most : ℕ) (fs : List Float) (ss : List ℕ) → most ≡ min (min count 32) (min (length fs / 6) (length ss / 2))
    → release_of (lines_from most 0 fs ss) ≡ release_of (lines_held count fs ss)
unfolding lines_held lines_from
release_is count most fs ss m = ap (λ (k : ℕ). release_of (lines_from k 0 fs ss)) m

pub instrument_is : (count most : ℕ) (fs : List Float) (ss : List ℕ) (release : Float) (all : Laid)
    → most ≡ min (min count 32) (min (length fs / 6) (length ss / 2)) → all ≡ laid (downward none (lines_from most 0 fs ss))
    → release ≡ release_of (lines_from most 0 fs ss)
    → ◌≡◌ {A = Instrument} (record { release = release; commands = all.commands; count = all.count }) (instrument_of (lines_held count fs ss))
unfolding instrument_of commands_of lines_held lines_from
instrument_is count most fs ss release all m a r =
    let ls = lines_from most 0 fs ss in
    ap₂ {C = Instrument} (λ (x : Float) (l : Laid). record { release = x; commands = l.commands; count = l.count }) r a
    ∙ ap {B = Instrument} (λ (n : ℕ). record { release = release_of ls; commands = (laid (downward none ls)).commands; count = n }) (sym (length-reverse (downward none ls)))
    ∙ ap (λ (k : ℕ). instrument_of (lines_from k 0 fs ss)) m
