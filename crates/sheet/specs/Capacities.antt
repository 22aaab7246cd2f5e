-- The capacities of document 01, each by name: how much of each thing a sheet may have. Assumes nothing.
use Rattle.std.specs.Prelude.{ℕ}

-- "Source 32,768 bytes."
abbrev pub source_most : ℕ
source_most = 32768

-- "Parts 16."
abbrev pub parts_most : ℕ
parts_most = 16

-- "Macros 64."
abbrev pub macros_most : ℕ
macros_most = 64

-- "Instruments 32 with the default one."
abbrev pub instruments_most : ℕ
instruments_most = 32

-- "Operators 32 per instrument"
abbrev pub operators_most : ℕ
operators_most = 32

-- "commands 64 in a sheet handed in"
abbrev pub commands_most : ℕ
commands_most = 64

-- "Open loops 8 per part."
abbrev pub loops_most : ℕ
loops_most = 8

-- "Notes 2,048 (finished plus those in open loops"
abbrev pub notes_most : ℕ
notes_most = 2048

-- "Macro calls nested 8 deep."
abbrev pub nesting_most : ℕ
nesting_most = 8

-- "Reading steps 100,000."
abbrev pub steps_most : ℕ
steps_most = 100000

-- "Feedback 255."
abbrev pub feedback_most : ℕ
feedback_most = 255

-- "a sheet 2,000,000,000"
abbrev pub sheet_most : ℕ
sheet_most = 2000000000
