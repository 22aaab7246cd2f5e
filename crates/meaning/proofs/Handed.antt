-- A sheet that the reader accepts passes the check of a sheet that is handed in, 28: each line keeps the instruments, the parts, the notes and the room, as the
-- files beside this one show of each, the arrays hold them, and 27 has looked at the length. Assumes nothing.
use mathlib.Core.Path.{◌≡◌, refl, ap, subst, ◌∙◌}
use mathlib.Core.Bool.{true}
use mathlib.Core.List.{List, [], ◌∷◌, ◌++◌, map}
use mathlib.Core.Option.{Option, none}
use Prim.Native.Nat.{ℕ, ◌+◌, ◌≤◌, ◌<◌}
use native.Mathlib.Omega.{arith}
use lib.ListN.{length, take, get_or, length-append}
use lib.Ieee.{Float, nan}
use borrow.Author.Tests.{ltb-true, leb-true}
use Rattle.lines.specs.Tokens.{Named}
use Rattle.lines.specs.Lines.{lines_of}
use Rattle.instrument.specs.declared.machine.Instrument.{Instrument}
use Rattle.tree.specs.Lines.{Line}
use Rattle.commands.specs.Commands.{instrument_of}
use Rattle.sheet.specs.Capacities.{instruments_most, sheet_most}
use Rattle.sheet.specs.Lengths.{sounding_of, is_counted}
use Rattle.sheet.specs.Padding.{padded}
use Rattle.sheet.specs.Parts.{counts_of, total, length_of}
use Rattle.sheet.specs.Refusals.{Outcome, going}
use Rattle.sheet.specs.declared.note.Note.{Note}
use Rattle.sheet.proofs.Holds.{Holds, holds_going, holds_of, holds_unless, holds_if, holds_then, holds_after}
use Rattle.operators.specs.OperatorLines.{operator_lines, operators_read}
use Rattle.notes.specs.Notes.{note_of}
use Rattle.tables.specs.Tables.{header_of}
use Rattle.handed.specs.Check.{all, instrument_passes, note_passes, is_sheet}
use Rattle.handed.proofs.Passing.{Passing, passes}
use Rattle.meaning.proofs.Durations.{note_passes_law, passes_more}
use Rattle.meaning.proofs.NotesKept.{all_both, all_one, all_weaker, Lets}
use Rattle.meaning.proofs.PartsKept.{every_notes, every_length, Filled, line_kept}
use Rattle.meaning.proofs.InstrumentsKept.{operators_pass, plain_passes}
use Rattle.meaning.proofs.Laid.{laid_instruments, laid_total, laid_notes, releases_laid, laid_length}
use Rattle.meaning.proofs.Throughout.{KeptByLines, of_accepted}
use Rattle.meaning.specs.Parts.{Played, notes_of, line_played}
use Rattle.strict.specs.declared.mode.Mode.{Mode}
use Rattle.meaning.specs.Sheets.{Read, read_of, plain, book_of, header_read, directive_read, macro_read, part_read, nothing_read, lines_read, length_read, ended, sheet_read}
use Rattle.meaning.specs.Layout.{sheet_of, laid_out, reading_of}

-- ---- what each line keeps

-- the instruments of operator lines
abbrev made : List (List Line) → List Instrument
made is = map instrument_of is

record Whole (rate : ℕ) (r : Read) : Type 0 where
  named : length r.instruments ≡ length r.names + 1
  few : length r.instruments ≤ instruments_most
  players : all instrument_passes (made r.instruments) ≡ true
  parts : Filled (note_passes rate (made r.instruments)) r.parts

module _ (mode : Mode) (rate : ℕ) where
  abbrev Good : Read → Type 0
  Good = Whole rate

  begins : Good nothing_read
  unfolding nothing_read all notes_of
  begins =
      record {
        named = refl;
        few = omega arith;
        players = all_one instrument_passes (instrument_of plain) plain_passes;
        parts = record { few = omega arith; notes = refl; room = omega arith };
      }

  made_last : (is : List (List Line)) (os : List Line) → made (is ++ (os ∷ [])) ≡ made is ++ (instrument_of os ∷ [])
  made_last [] os = refl
  made_last (l ∷ is) os = ap {B = List Instrument} (λ js. instrument_of l ∷ js) (made_last is os)

  header_room : (line : ℕ) (name : List ℕ) (names : List (List ℕ)) → Holds (λ (n : List ℕ). length names + 1 < instruments_most) (header_of line name names)
  unfolding header_of
  header_room line name names =
      holds_unless _ _ _ _ _
      (λ e. holds_unless _ _ _ _ _ (λ f. holds_going (λ (n : List ℕ). length names + 1 < instruments_most) name (ltb-true (length names + 1) instruments_most f)))

  header_kept : (line : ℕ) (name : List ℕ) (below : List (List ℕ)) (r : Read) → Good r → Holds Good (header_read mode line name below r)
  unfolding header_read
  header_kept line name below r g =
      holds_then (λ (n : List ℕ). length r.names + 1 < instruments_most) Good (header_of line name r.names) _ (header_room line name r.names)
      (λ n h. holds_then (λ (os : List Line). instrument_passes (instrument_of os) ≡ true) Good (operators_read mode none (line + 1) 0 (operator_lines below))
      (λ os. going (read_of r.start r.parts r.macros (r.names ++ (n ∷ [])) (r.instruments ++ (os ∷ [])) r.steps))
      (operators_pass mode (line + 1) (operator_lines below))
      (λ os k. holds_going Good _
      (record {
        named = omega (arith, g.named, length-append r.instruments (os ∷ []), length-append r.names (n ∷ []));
        few = omega (arith, g.named, h, length-append r.instruments (os ∷ []));
        players =
            ap (all instrument_passes) (made_last r.instruments os)
            ∙ all_both instrument_passes (made r.instruments) (instrument_of os ∷ []) g.players (all_one instrument_passes (instrument_of os) k);
        parts =
            record {
              few = g.parts.few;
              notes =
                  ap (λ (js : List Instrument). all (note_passes rate js) (notes_of r.parts)) (made_last r.instruments os)
                  ∙ all_weaker (note_passes rate (made r.instruments)) (note_passes rate (made r.instruments ++ (instrument_of os ∷ [])))
                  (passes_more rate (made r.instruments) (instrument_of os ∷ [])) (notes_of r.parts) g.parts.notes;
              room = g.parts.room;
            };
      })))

  directive_kept : (line : ℕ) (l : List ℕ) (r : Read) → Good r → Holds Good (directive_read mode line l r)
  unfolding directive_read
  directive_kept line l r g =
      holds_after _ _ _
      (λ f. holds_going Good _
      (record {
        named = g.named;
        few = g.few;
        players = g.players;
        parts =
            record {
              few = omega (arith, g.parts.few, every_length f r.parts);
              notes = ap (all (note_passes rate (made r.instruments))) (every_notes f r.parts) ∙ g.parts.notes;
              room = omega (arith, g.parts.room, ap (length {A = Note}) (every_notes f r.parts));
            };
      }))

  macro_kept : (line : ℕ) (l : List ℕ) (r : Read) → Good r → Holds Good (macro_read line l r)
  unfolding macro_read
  macro_kept line l r g =
      holds_after _ _ _ (λ m. holds_going Good _ (record { named = g.named; few = g.few; players = g.players; parts = g.parts }))

  -- a note that 24 lets pass, with the book of what is read so far, passes with its instruments
  book_lets : (r : Read) → Lets (note_passes rate (made r.instruments)) (book_of rate r)
  unfolding book_of
  book_lets r e letter a v dot h =
      let n = note_of e letter a v dot in
      note_passes_law rate (made r.instruments) e letter a v dot
      (ap (λ (rs : List Float). is_counted (sounding_of rate (get_or rs n.instrument nan) n)) (releases_laid r.instruments) ∙ h)

  part_kept : (line : ℕ) (n : Option Named) (r : Read) → Good r → Holds Good (part_read rate line n r)
  unfolding part_read
  part_kept line n r g =
      let test = note_passes rate (made r.instruments) in
      holds_then (λ (q : Played). Filled test q.parts) Good (line_played (book_of rate r) r.start line n (record { parts = r.parts; steps = r.steps }))
      (λ q. going (read_of r.start q.parts r.macros r.names r.instruments q.steps))
      (line_kept test (book_of rate r) (book_lets r) r.start line n (record { parts = r.parts; steps = r.steps }) g.parts)
      (λ q h. holds_going Good _ (record { named = g.named; few = g.few; players = g.players; parts = h }))

  kept : KeptByLines Good mode rate
  kept = record { start = begins; header = header_kept; directive = directive_kept; macro = macro_kept; part = part_kept }

  -- ---- the end

  abbrev Short : Read → Type 0
  Short r = length_read rate r ≤ sheet_most

  ended_short : (r : Read) → Holds Short (ended rate r)
  unfolding ended
  ended_short r =
      holds_if _ _ _ _ _ (holds_if _ _ _ _ _ (holds_unless _ _ _ _ _ (λ e. holds_going Short r (leb-true (length_read rate r) sheet_most e))))

  sheet_short : (source : List ℕ) → Holds Short (sheet_read mode rate source)
  unfolding sheet_read
  sheet_short source =
      holds_unless _ _ _ _ _ (λ e. holds_unless _ _ _ _ _ (λ f. holds_after Short (lines_read mode rate 0 1 (lines_of source) nothing_read) _ (λ r. ended_short r)))

  -- ---- what is accepted passes

  whole_passes : (r : Read) → Good r → Short r → Passing rate (sheet_of r.parts r.instruments)
  unfolding sheet_of
  whole_passes r g s =
      let ps = r.parts in
      let is = r.instruments in
      record {
        parts = g.parts.few;
        instruments = g.few;
        notes = omega (arith, laid_total ps is, g.parts.room);
        players = ap (all instrument_passes) (laid_instruments ps is) ∙ g.players;
        played =
            ap (λ (js : List Instrument). all (note_passes rate js) (take (total (counts_of (sheet_of ps is))) (sheet_of ps is).notes)) (laid_instruments ps is)
            ∙ ap (all (note_passes rate (made is))) (laid_notes ps is)
            ∙ g.parts.notes;
        length = omega (arith, laid_length rate r, s);
      }

  module _ (source : List ℕ) (r : Read) (e : sheet_read mode rate source ≡ going r) where
    pub accepted_passes : is_sheet rate (sheet_of r.parts r.instruments) ≡ true
    accepted_passes =
        passes rate (sheet_of r.parts r.instruments)
        (whole_passes r (of_accepted Good mode rate kept source r e) (holds_of Short r (subst (Holds Short) e (sheet_short source))))

    reading_sheet : (reading_of mode rate source).sheet ≡ sheet_of r.parts r.instruments
    unfolding reading_of laid_out
    reading_sheet = ap (λ (o : Outcome Read). (laid_out o).sheet) e

    -- the sheet that a source is read as
    pub reading_passes : is_sheet rate (reading_of mode rate source).sheet ≡ true
    reading_passes = ap (is_sheet rate) reading_sheet ∙ accepted_passes

    -- has the length that 27 looks at
    pub reading_length : length_of rate (reading_of mode rate source).sheet ≡ length_read rate r
    reading_length = ap (length_of rate) reading_sheet ∙ laid_length rate r

  -- the empty sheet of a refusal passes too
  pub empty_passes : is_sheet rate (sheet_of [] []) ≡ true
  unfolding is_sheet sheet_of padded total all length_of
  empty_passes = refl
