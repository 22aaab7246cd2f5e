-- `walk` goes through the notes of each part: those still to come decide whether all pass, and the largest end so far, and the largest of what is
-- still to come, is the sheet's length. Assumes nothing.
use Rattle.std.proofs.Common.{◌≡◌, ◌*◌, ◌≤◌, max}
use Rattle.sheet.specs.Parts.{instruments_of, releases_of, length_of}
use Rattle.handed.specs.Check.{note_passes}
use Rattle.handed.proofs.Checks.{played}
use Rattle.handed.proofs.Ends.{from_part, from_note}
use Rattle.handed.proofs.Played.{played_from, played_in}
use Rattle.handed.proofs.check.walk.Given as goal

abbrev pub invariant-loop-k : goal.invariant-loop-k
invariant-loop-k l =
    (l.k ≤ l.stop) × (l.start ≤ l.k * 16777216)
    × (max l.end (from_note l.rate (releases_of (instruments_of l.sheet)) l.sheet.counts l.parts l.sheet.notes l.p l.k l.stop l.start) ≡ length_of l.rate l.sheet)
    × (played_in (note_passes l.rate (instruments_of l.sheet)) l.sheet.counts l.parts l.sheet.notes l.p l.k l.stop ≡ played l.rate l.sheet)

abbrev pub invariant-loop-p : goal.invariant-loop-p
invariant-loop-p l =
    (l.n ≤ 2048)
    × (max l.end (from_part l.rate (releases_of (instruments_of l.sheet)) l.sheet.counts l.parts l.sheet.notes l.p l.n) ≡ length_of l.rate l.sheet)
    × (played_from (note_passes l.rate (instruments_of l.sheet)) l.sheet.counts l.parts l.sheet.notes l.p l.n ≡ played l.rate l.sheet)
