-- Demand 3 for sheets, in either mode: every instrument of an accepted sheet in whose operator lines no two neighbours have equal indent has the value of the tree that
-- those lines describe, at any frequency, duration and time; and where each pair of equal indent is followed by no line of smaller indent, the value of the tree with chains. The lines are
-- those that the definition finds in the text; that their indents are accepted and that their commands fit an instrument follows from the refusals. Assumes nothing.
use mathlib.Core.Path.{◌≡◌, refl, ap, ◌∙◌}
use mathlib.Core.List.{List, [], ◌∷◌, ◌++◌, map}
use mathlib.Core.Option.{Option, none}
use Prim.Native.Nat.{ℕ, ◌+◌, ◌-◌, ◌≤◌}
use native.Mathlib.Omega.{arith}
use lib.Dec.{T}
use lib.ListN.{length, replicate, length-map}
use lib.Seq.{take_at}
use lib.Ieee.{Float, binary32, add}
use Rattle.ieee.specs.Constants.{plus_zero}
use Rattle.lines.specs.Tokens.{Named}
use Rattle.instrument.specs.declared.machine.Command.{Command}
use Rattle.instrument.specs.declared.machine.Slot.{Slot}
use Rattle.operator.specs.Evaluation.{operator_at}
use Rattle.instrument.specs.Evaluation.{list_of, instrument_at}
use Rattle.tree.specs.Lines.{Line, accepted, commands_of}
use Rattle.tree.specs.Tree.{sum, tree_of, stepped}
use Rattle.tree.specs.Chains.{chained, chains_last}
use Rattle.tree.proofs.CommandCount.{commands_few}
use Rattle.tree.proofs.Demand3.{demand3_instrument, demand3_with_chains_instrument}
use Rattle.sheet.specs.Capacities.{commands_most, instruments_most}
use Rattle.sheet.specs.Refusals.{Outcome, going}
use Rattle.sheet.proofs.Holds.{Holds, holds_going, holds_then, holds_after}
use Rattle.operators.specs.OperatorLines.{operator_lines, operators_read}
use Rattle.operators.proofs.Indents.{AllFit, all_fit}
use Rattle.meaning.proofs.Throughout.{KeptByLines, of_accepted}
use Rattle.commands.specs.Commands.{no_command, instrument_of}
use Rattle.sheet.specs.Padding.{padded}
use Rattle.meaning.specs.Layout.{sheet_of, laid_out, reading_of}
use Rattle.strict.specs.declared.mode.Mode.{Mode}
use Rattle.meaning.specs.Sheets.{Read, read_of, plain, header_read, directive_read, macro_read, part_read, nothing_read, sheet_read}

-- ---- a fact of every instrument, or of whatever a list has

abbrev pub Every : {A : Type 0} → (A → Type 0) → List A → Type 0
Every P [] = Unit
Every P (x ∷ xs) = P x × Every P xs

every_last : (P : List Line → Type 0) (is : List (List Line)) (ls : List Line) → Every P is → P ls → Every P (is ++ (ls ∷ []))
every_last P [] ls e p = (p, tt)
every_last P (x ∷ is) ls e p = (e.0, every_last P is ls e.1 p)

every_maps : (P Q : List Line → Type 0) → ((ls : List Line) → P ls → Q ls) → (is : List (List Line)) → Every P is → Every Q is
every_maps P Q f [] e = tt
every_maps P Q f (x ∷ is) e = (f x e.0, every_maps P Q f is e.1)

-- ---- the instruments of a reading

-- the lines of each are accepted, and at most 32
abbrev Kept : Read → Type 0
Kept r = Every (AllFit none 0) r.instruments

plain_fits : AllFit none 0 plain
unfolding accepted
plain_fits = record { indents = tt; few = omega arith }

header_kept : (mode : Mode) (line : ℕ) (name : List ℕ) (below : List (List ℕ)) (r : Read) → Kept r → Holds Kept (header_read mode line name below r)
unfolding header_read
header_kept mode line name below r g =
    holds_after _ _ _
    (λ n. holds_then (AllFit none 0) Kept (operators_read mode none (line + 1) 0 (operator_lines below))
    (λ os. going (read_of r.start r.parts r.macros (r.names ++ (n ∷ [])) (r.instruments ++ (os ∷ [])) r.steps))
    (all_fit mode none (line + 1) 0 (operator_lines below) (omega arith))
    (λ os k. holds_going Kept _ (every_last (AllFit none 0) r.instruments os g k)))

directive_kept : (mode : Mode) (line : ℕ) (l : List ℕ) (r : Read) → Kept r → Holds Kept (directive_read mode line l r)
unfolding directive_read
directive_kept mode line l r g = holds_after _ _ _ (λ f. holds_going Kept _ g)

macro_kept : (line : ℕ) (l : List ℕ) (r : Read) → Kept r → Holds Kept (macro_read line l r)
unfolding macro_read
macro_kept line l r g = holds_after _ _ _ (λ m. holds_going Kept _ g)

part_kept : (rate line : ℕ) (n : Option Named) (r : Read) → Kept r → Holds Kept (part_read rate line n r)
unfolding part_read
part_kept rate line n r g = holds_after _ _ _ (λ q. holds_going Kept _ g)

kept : (mode : Mode) (rate : ℕ) → KeptByLines Kept mode rate
unfolding nothing_read
kept mode rate = record { start = (plain_fits, tt); header = header_kept mode; directive = directive_kept mode; macro = macro_kept; part = part_kept rate }

-- so it is with every accepted sheet
lines_fit : (mode : Mode) (rate : ℕ) (source : List ℕ) (r : Read) → sheet_read mode rate source ≡ going r → Kept r
lines_fit mode rate source r e = of_accepted Kept mode rate (kept mode rate) source r e

-- ---- an instrument's commands are those of its lines

slots : List Command → List Slot
slots cs = map (λ (c : Command). record { command = c }) cs

commands_back : (cs : List Command) → map (λ (s : Slot). s.command) (slots cs) ≡ cs
unfolding slots
commands_back [] = refl
commands_back (c ∷ cs) = ap (λ (l : List Command). c ∷ l) (commands_back cs)

pub list_of_lines : (ls : List Line) → list_of (instrument_of ls) ≡ commands_of ls
unfolding list_of instrument_of padded slots
list_of_lines ls =
    ap (map (λ (s : Slot). s.command))
    (take_at (slots (commands_of ls)) (replicate (commands_most - length (slots (commands_of ls))) no_command) (length (commands_of ls))
    (length-map (commands_of ls) (λ (c : Command). record { command = c })))
    ∙ commands_back (commands_of ls)

-- ---- demand 3

-- the value of an instrument of these lines is that of their tree
abbrev pub TreesValue : List Line → Type 0
TreesValue ls =
    T (stepped ls) → (f d t : Float) → instrument_at f d t (instrument_of ls) ≡ sum Float (operator_at f d t) (add binary32) plus_zero (tree_of ls)

trees_value : (ls : List Line) → AllFit none 0 ls → TreesValue ls
trees_value ls g s f d t = demand3_instrument f d t (instrument_of ls) ls (list_of_lines ls) g.indents s

pub demand3_sheet : (mode : Mode) (rate : ℕ) (source : List ℕ) (r : Read) → sheet_read mode rate source ≡ going r → Every TreesValue r.instruments
demand3_sheet mode rate source r e =
    every_maps (AllFit none 0) TreesValue trees_value r.instruments (lines_fit mode rate source r e)

-- the sheet that a source is read as has these instruments in its table, and then empty ones
pub table_of_reading : (mode : Mode) (rate : ℕ) (source : List ℕ) (r : Read) → sheet_read mode rate source ≡ going r
    → (reading_of mode rate source).sheet.table ≡ padded instruments_most (instrument_of []) (map instrument_of r.instruments)
unfolding reading_of laid_out sheet_of
table_of_reading mode rate source r e = ap (λ (o : Outcome Read). (laid_out o).sheet.table) e

pub demand3_reading : (mode : Mode) (rate : ℕ) (source : List ℕ) (r : Read) → sheet_read mode rate source ≡ going r
    → ((reading_of mode rate source).sheet.table ≡ padded instruments_most (instrument_of []) (map instrument_of r.instruments)) × Every TreesValue r.instruments
demand3_reading mode rate source r e = (table_of_reading mode rate source r e, demand3_sheet mode rate source r e)

-- ---- demand 3 with chains

-- the value of an instrument of these lines is that of their tree with chains
abbrev pub ChainsValue : List Line → Type 0
ChainsValue ls =
    T (chains_last ls) → (f d t : Float)
    → instrument_at f d t (instrument_of ls) ≡ sum Float (operator_at f d t) (add binary32) plus_zero (chained (tree_of ls))

chains_value : (ls : List Line) → AllFit none 0 ls → ChainsValue ls
chains_value ls g c f d t = demand3_with_chains_instrument f d t (instrument_of ls) ls (list_of_lines ls) g.indents c

pub demand3_with_chains_sheet : (mode : Mode) (rate : ℕ) (source : List ℕ) (r : Read) → sheet_read mode rate source ≡ going r → Every ChainsValue r.instruments
demand3_with_chains_sheet mode rate source r e =
    every_maps (AllFit none 0) ChainsValue chains_value r.instruments (lines_fit mode rate source r e)

pub demand3_with_chains_reading : (mode : Mode) (rate : ℕ) (source : List ℕ) (r : Read) → sheet_read mode rate source ≡ going r
    → ((reading_of mode rate source).sheet.table ≡ padded instruments_most (instrument_of []) (map instrument_of r.instruments)) × Every ChainsValue r.instruments
demand3_with_chains_reading mode rate source r e = (table_of_reading mode rate source r e, demand3_with_chains_sheet mode rate source r e)

-- ---- room

-- every instrument of an accepted sheet fits its array of 64 commands
pub commands_fit : (mode : Mode) (rate : ℕ) (source : List ℕ) (r : Read) → sheet_read mode rate source ≡ going r
    → Every (λ (ls : List Line). length (commands_of ls) ≤ commands_most) r.instruments
commands_fit mode rate source r e =
    every_maps (AllFit none 0) (λ (ls : List Line). length (commands_of ls) ≤ commands_most) (λ ls g. omega (arith, commands_few ls, g.few)) r.instruments
    (lines_fit mode rate source r e)
