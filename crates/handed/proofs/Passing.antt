-- What a sheet that passes has, each thing by name, and what one of its notes has: the test is a chain of tests, taken apart once. Assumes nothing.
use mathlib.Core.Path.{◌≡◌, sym, subst}
use mathlib.Core.Bool.{Bool, true}
use mathlib.Core.List.{List, []}
use Prim.Native.Nat.{ℕ, ◌≤◌, ◌<◌}
use lib.Dec.{T, leb, ltb}
use lib.ListN.{length, take, get_or}
use lib.Ieee.{Float, nan}
use borrow.Author.Tests.{le-leb, leb-true, ltb-true}
use Rattle.ieee.specs.Times.{is_time}
use Rattle.instrument.specs.declared.machine.Instrument.{Instrument}
use Rattle.sheet.specs.declared.note.Note.{Note}
use Rattle.sheet.specs.declared.sheet.Sheet.{Sheet}
use Rattle.sheet.specs.Capacities.{parts_most, instruments_most, commands_most, notes_most, sheet_most}
use Rattle.sheet.specs.Lengths.{sounding_of, is_counted}
use Rattle.sheet.specs.Parts.{counts_of, total, instruments_of, releases_of, length_of}
use Rattle.sheet.proofs.Basics.{both}
use Rattle.handed.specs.Check.{all, instrument_passes, note_passes, is_sheet}
use Rattle.handed.proofs.Alls.{all_at}
use Rattle.handed.proofs.Releases.{releases_at}

-- a test that passes holds
holds : (b : Bool) → b ≡ true → T b
holds b e = subst T (sym e) tt

-- ---- a sheet

pub record Passing (rate : ℕ) (s : Sheet) : Type 0 where
  pub parts : s.parts ≤ parts_most
  pub instruments : s.instruments ≤ instruments_most
  pub notes : total (counts_of s) ≤ notes_most
  pub players : all instrument_passes (instruments_of s) ≡ true
  pub played : all (note_passes rate (instruments_of s)) (take (total (counts_of s)) s.notes) ≡ true
  pub length : length_of rate s ≤ sheet_most

pub passing : (rate : ℕ) (s : Sheet) → is_sheet rate s ≡ true → Passing rate s
unfolding is_sheet
passing rate s e =
    let a = both (leb s.parts parts_most) _ e in
    let b = both (leb s.instruments instruments_most) _ a.1 in
    let c = both (leb (total (counts_of s)) notes_most) _ b.1 in
    let d = both (all instrument_passes (instruments_of s)) _ c.1 in
    let f = both (all (note_passes rate (instruments_of s)) (take (total (counts_of s)) s.notes)) _ d.1 in
    record {
      parts = leb-true s.parts parts_most a.0;
      instruments = leb-true s.instruments instruments_most b.0;
      notes = leb-true (total (counts_of s)) notes_most c.0;
      players = d.0;
      played = f.0;
      length = leb-true (length_of rate s) sheet_most f.1;
    }

pub passes : (rate : ℕ) (s : Sheet) → Passing rate s → is_sheet rate s ≡ true
unfolding is_sheet
passes rate s p =
    rw (
      le-leb s.parts parts_most p.parts,
      le-leb s.instruments instruments_most p.instruments,
      le-leb (total (counts_of s)) notes_most p.notes,
      p.players,
      p.played,
      le-leb (length_of rate s) sheet_most p.length,
    )

-- ---- a note

pub record Plays (rate : ℕ) (is : List Instrument) (n : Note) : Type 0 where
  pub known : n.instrument < length is
  pub lasts : T (is_time n.duration)
  pub ends : T (is_time (get_or (releases_of is) n.instrument nan))
  pub counted : is_counted (sounding_of rate (get_or (releases_of is) n.instrument nan) n) ≡ true

-- the release of an instrument that passes is a time
release_time : (i : Instrument) → instrument_passes i ≡ true → T (is_time i.release)
unfolding instrument_passes
release_time i e = holds _ (both (is_time i.release) _ (both (leb i.count commands_most) _ e).1).0

-- what a place past the instruments would read as
abbrev nobody : Instrument
nobody = record { release = nan; commands = []; count = 0 }

pub plays : (rate : ℕ) (is : List Instrument) (n : Note) → all instrument_passes is ≡ true → note_passes rate is n ≡ true → Plays rate is n
unfolding note_passes
plays rate is n p e =
    let a = both (ltb n.instrument (length is)) _ e in
    let b = both (is_time n.duration) _ a.1 in
    let k = ltb-true n.instrument (length is) a.0 in
    record {
      known = k;
      lasts = holds _ b.0;
      ends = subst (λ (x : Float). T (is_time x)) (sym (releases_at is n.instrument nobody k))
          (release_time (get_or is n.instrument nobody) (all_at instrument_passes is n.instrument nobody p k));
      counted = b.1;
    }
