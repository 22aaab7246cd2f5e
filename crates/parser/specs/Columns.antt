-- What the code keeps while a sheet is read, in the terms of `Parts.antt` and `Sheets.antt`: each part has its regions of the columns of notes and of open
-- loops and its place in the arrays of a `Sofar`; names are places in the source. What stands past a count says nothing. Private contracts of the functions
-- that read lines cite this, and no public one. Assumes nothing.
use Rattle.std.specs.Prelude.{◌≡◌, Result, Ok, Err, None, length, take, drop, set, replicate, Float}
use mathlib.Core.List.{List, [], ◌∷◌, map}
use Rattle.std.proofs.Math.Option.{none}
use Prim.Native.Nat.{ℕ, zero, suc, ◌+◌, ◌*◌, ◌≤◌, ◌<◌}
use Rattle.std.proofs.Math.ListN.{get_or}
use Rattle.lines.specs.Lines.{lines_of, line_at}
use Rattle.lines.specs.Names.{between, names_in}
use Rattle.tree.specs.Lines.{release_of}
use Rattle.sheet.specs.Capacities.{source_most, parts_most, notes_most, loops_most, macros_most, instruments_most, operators_most}
use Rattle.sheet.specs.declared.refusal.Refusal.{Refusal}
use Rattle.sheet.specs.Numbers.{number_of}
use Rattle.sheet.specs.Refusals.{Outcome, going, refused}
use Rattle.environment.specs.declared.environment.Environment.{Environment}
use Rattle.environment.specs.Environment.{at_the_start}
use Rattle.blocks.specs.declared.block.Block.{Block}
use Rattle.operators.specs.OperatorLines.{operator_lines, operators_read}
use Rattle.blocks.specs.Blocks.{block_outcome}
use Rattle.commands.specs.Commands.{lines_held}
use Rattle.tables.specs.Named.{macros_in}
use Rattle.part.specs.Columns.{loops_in}
use Rattle.layout.specs.Regions.{region}
use Rattle.bank.specs.Bank.{lines_from}
use Rattle.layout.specs.Layout.{notes_at, notes_from}
use Rattle.strict.specs.declared.mode.Mode.{Mode}
use Rattle.parser.specs.declared.sofar.Sofar.{Sofar}
use Rattle.meaning.specs.Parts.{NamedPart}
use Rattle.meaning.specs.Sheets.{Read, read_of}

-- ---- parts

module _ (s places : List ℕ) (r : Sofar) (fs : List Float) (is ls : List ℕ) where
  -- the part k: its name stands at two places of the source
  unfoldable pub part_at : ℕ → NamedPart
  unfolding notes_at loops_in region at_the_start
  part_at k =
      record {
        name = between s (get_or places (2 * k) 0) (get_or places (2 * k + 1) 0);
        part =
            record {
              env = get_or r.envs k at_the_start;
              notes = notes_at r.counts fs is k;
              loops = loops_in (get_or r.depths k 0) (region (2 * loops_most) k ls);
            };
      }

  -- the n parts from k on
  unfoldable pub parts_from : ℕ → ℕ → List NamedPart
  unfolding part_at
  parts_from k zero = []
  parts_from k (suc n) = part_at k ∷ parts_from (k + 1) n

-- the counts are in range, and the columns have the room for all parts
pub record Fits (places : List ℕ) (r : Sofar) (fs : List Float) (is ls : List ℕ) : Type 0 where
  pub few : r.parts ≤ parts_most
  pub start : r.start.octave ≤ 8
  pub octaves : (k : ℕ) → k < r.parts → (get_or r.envs k at_the_start).octave ≤ 8
  pub counts : (k : ℕ) → k < r.parts → get_or r.counts k 0 ≤ notes_most
  pub depths : (k : ℕ) → k < r.parts → get_or r.depths k 0 ≤ loops_most
  pub all : r.all ≡ length (notes_from r.counts fs is 0 r.parts)
  pub notes : r.all ≤ notes_most
  pub envs_length : length r.envs ≡ parts_most
  pub counts_length : length r.counts ≡ parts_most
  pub depths_length : length r.depths ≡ parts_most
  pub places_length : length places ≡ 2 * parts_most
  pub floats_length : length fs ≡ 3 * notes_most * parts_most
  pub bytes_length : length is ≡ notes_most * parts_most
  pub loops_length : length ls ≡ 2 * loops_most * parts_most + 2 * parts_most

-- ---- the whole

-- the tables of names, and the columns of operator lines
pub record Tables : Type 0 where
  pub macros : List ℕ
  pub bodies : List ℕ
  pub names : List ℕ
  pub sizes : List ℕ
  pub numbers : List Float
  pub shape : List ℕ
  pub releases : List Float

abbrev pub tables_of : List ℕ → List ℕ → List ℕ → List ℕ → List Float → List ℕ → List Float → Tables
tables_of ms bs ns zs fs ss rs =
    record { macros = ms; bodies = bs; names = ns; sizes = zs; numbers = fs; shape = ss; releases = rs }

-- Few columns are lent, so some hold more than one thing, each as a region: behind the shapes of all operator lines stand the macros' names, the
-- instruments' names and their sizes, behind the numbers of all operator lines the releases, and behind the open loops of all parts the places of the parts' names.
abbrev pub macro_column : List ℕ → List ℕ
macro_column = region (2 * macros_most) 16

abbrev pub name_column : List ℕ → List ℕ
name_column = region (2 * instruments_most) 34

abbrev pub size_column : List ℕ → List ℕ
size_column = region instruments_most 70

abbrev pub release_column : List Float → List Float
release_column = region instruments_most 192

abbrev pub place_column : List ℕ → List ℕ
place_column = region (2 * parts_most) 8

-- the tables in the columns
abbrev pub tables_in : List ℕ → List Float → List ℕ → Tables
tables_in bs fs ss = tables_of (macro_column ss) bs (name_column ss) (size_column ss) fs ss (release_column fs)

module _ (s places : List ℕ) (r : Sofar) (fs : List Float) (is ls : List ℕ) (t : Tables) where
  -- what has been read so far
  unfoldable pub read_in : Read
  unfolding parts_from macros_in names_in lines_from
  read_in =
      read_of
      r.start
      (parts_from s places r fs is ls 0 r.parts)
      (macros_in s (take (2 * r.macros) t.macros) (take (2 * r.macros) t.bodies))
      (names_in s (take (2 * r.instruments) t.names))
      (lines_from t.sizes t.numbers t.shape 0 (r.instruments + 1))
      r.steps

  -- what has come of it
  unfoldable pub read_outcome : Outcome Read
  unfolding read_in
  read_outcome = elim r.refusal [ zero ↦ going read_in | suc n ↦ refused (suc n) r.line ]

-- the tables have the room for all macros and instruments, and the releases are those of the instruments
pub record Tabled (r : Sofar) (t : Tables) : Type 0 where
  pub macros_few : r.macros ≤ macros_most
  pub instruments_few : r.instruments + 1 ≤ instruments_most
  pub macros_length : length t.macros ≡ 2 * macros_most
  pub bodies_length : length t.bodies ≡ 2 * macros_most
  pub names_length : length t.names ≡ 2 * instruments_most
  pub sizes_length : length t.sizes ≡ instruments_most
  pub numbers_length : length t.numbers ≡ 6 * operators_most * instruments_most + instruments_most
  pub shape_length : length t.shape ≡ 2 * operators_most * instruments_most + 2 * macros_most + 2 * instruments_most + instruments_most
  pub releases_length : length t.releases ≡ instruments_most
  pub releases : take (r.instruments + 1) t.releases ≡ map release_of (lines_from t.sizes t.numbers t.shape 0 (r.instruments + 1))

-- ---- one line

-- the reading goes on, and at its place a line begins, which ends at one place and is followed at another; a line has at most 32 lines of its own below it
pub record Begins (s : List ℕ) (r : Sofar) (end next : ℕ) : Type 0 where
  pub goes : r.refusal ≡ 0
  pub inside : r.at < length s
  pub here : record { end = end; next = next } ≡ line_at s r.at
  pub small : length s ≤ source_most
  pub lines : r.line ≤ 33 * r.at + 1

-- what a line makes of a reading: this has come of it, and the reading goes on behind it and those that it has taken, n together
pub record Goes (o : Outcome Read) (n : ℕ) (s places : List ℕ) (r q : Sofar) (fs : List Float) (is ls : List ℕ) (t : Tables) : Type 0 where
  pub means : read_outcome s places q fs is ls t ≡ o
  pub fits : q.refusal ≡ 0 → Fits places q fs is ls
  pub tabled : q.refusal ≡ 0 → Tabled q t
  pub lines : q.refusal ≡ 0 → lines_of (drop q.at s) ≡ drop n (lines_of (drop r.at s))
  pub line : q.refusal ≡ 0 → q.line ≡ r.line + n
  pub few : q.refusal ≡ 0 → n ≤ 33
  pub onward : q.refusal ≡ 0 → (r.at < q.at) × (q.at ≤ length s)

-- the operator lines below a header, from a place on, read into the regions of the instrument i: the other regions stay
pub record Blocked (mode : Mode) (s : List ℕ) (at i : ℕ) (b : Block) (fs : List Float) (ss : List ℕ) (fs' : List Float) (ss' : List ℕ) : Type 0 where
  pub read : (line : ℕ)
      → block_outcome line b (region (6 * operators_most) i fs') (region (2 * operators_most) i ss') ≡ operators_read mode none line 0 (operator_lines (lines_of (drop at s)))
  pub lines : b.refusal ≡ None → lines_of (drop b.next s) ≡ drop b.count (lines_of (drop at s))
  pub few : b.count ≤ operators_most
  pub onward : at ≤ b.next
  pub inside : at ≤ length s → b.next ≤ length s
  pub numbers : (j : ℕ) → j < instruments_most → (j ≡ i → ⊥) → region (6 * operators_most) j fs' ≡ region (6 * operators_most) j fs
  pub shape : (j : ℕ) → j < instruments_most → (j ≡ i → ⊥) → region (2 * operators_most) j ss' ≡ region (2 * operators_most) j ss

-- what stands beside operator lines in their columns is as before
abbrev pub Aside : List ℕ → List ℕ → List Float → List Float → Type 0
Aside ss ss' fs fs' =
    (macro_column ss' ≡ macro_column ss) × ((name_column ss' ≡ name_column ss) × ((size_column ss' ≡ size_column ss) × (release_column fs' ≡ release_column fs)))

-- the same kept as the instrument i: with their number among the sizes and their release among the releases, and the names as before
pub record Kept (mode : Mode) (s : List ℕ) (at i : ℕ) (b : Block) (fs : List Float) (ss : List ℕ) (fs' : List Float) (ss' : List ℕ) : Type 0 where
  pub block : Blocked mode s at i b fs ss fs' ss'
  pub macros : macro_column ss' ≡ macro_column ss
  pub names : name_column ss' ≡ name_column ss
  pub sizes : b.refusal ≡ None → size_column ss' ≡ set (size_column ss) i b.count
  pub releases : b.refusal ≡ None
      → release_column fs' ≡ set (release_column fs) i (release_of (lines_held b.count (region (6 * operators_most) i fs') (region (2 * operators_most) i ss')))

-- ---- changes of a reading

abbrev pub refused_at : Sofar → ℕ → ℕ → Sofar
refused_at r n l =
    record {
      start = r.start;
      parts = r.parts;
      envs = r.envs;
      counts = r.counts;
      depths = r.depths;
      all = r.all;
      macros = r.macros;
      instruments = r.instruments;
      steps = r.steps;
      refusal = n;
      line = l;
      at = r.at;
    }

-- behind so many lines, at a place, with these macros and instruments
abbrev pub passed_to : Sofar → ℕ → ℕ → ℕ → ℕ → Sofar
passed_to r macros instruments line at =
    record {
      start = r.start;
      parts = r.parts;
      envs = r.envs;
      counts = r.counts;
      depths = r.depths;
      all = r.all;
      macros = macros;
      instruments = instruments;
      steps = r.steps;
      refusal = r.refusal;
      line = line;
      at = at;
    }

-- with other environments
abbrev pub with_envs : Sofar → Environment → List Environment → Sofar
with_envs r start envs =
    record {
      start = start;
      parts = r.parts;
      envs = envs;
      counts = r.counts;
      depths = r.depths;
      all = r.all;
      macros = r.macros;
      instruments = r.instruments;
      steps = r.steps;
      refusal = r.refusal;
      line = r.line;
      at = r.at;
    }

-- nothing is read yet
unfoldable pub nothing_sofar : Sofar
unfolding at_the_start
nothing_sofar =
    record {
      start = at_the_start;
      parts = 0;
      envs = replicate parts_most at_the_start;
      counts = replicate parts_most 0;
      depths = replicate parts_most 0;
      all = 0;
      macros = 0;
      instruments = 0;
      steps = 0;
      refusal = 0;
      line = 1;
      at = 0;
    }

-- ---- the end

-- what a test of the whole makes of a reading: it stands, or it is refused on no line
abbrev pub ending : Result (Unit {0}) Refusal → Read → Outcome Read
ending (Ok x) r = going r
ending (Err why) r = refused (number_of why) 0
