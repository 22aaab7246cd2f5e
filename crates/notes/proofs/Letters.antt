-- The semitone within the octaves, and past them. Assumes nothing.
use mathlib.Core.Path.{◌≡◌}
use mathlib.Core.Option.{Option}
use Prim.Native.Nat.{ℕ, ◌≤◌, ◌<◌}
use borrow.Author.Tests.{le-leb, lt-leb}
use Rattle.environment.specs.declared.environment.Environment.{Environment}
use Rattle.keys.specs.declared.key.Accidental.{Accidental}
use Rattle.notes.specs.Notes.{semitone_of, semitone_within}

pub within_low : (e : Environment) (letter : ℕ) (a : Option Accidental) → e.octave ≤ 8 → semitone_within e letter a ≡ semitone_of e letter a
unfolding semitone_within
within_low e letter a h = rw (le-leb e.octave 8 h, semitone_within)

pub within_high : (e : Environment) (letter : ℕ) (a : Option Accidental) → 8 < e.octave → 0 ≡ semitone_within e letter a
unfolding semitone_within
within_high e letter a h = rw (lt-leb e.octave 8 h, semitone_within)
