-- A note by what is looked at first: its instrument, its duration, then whether its length with the release was counted. Assumes nothing.
use mathlib.Core.Path.{◌≡◌, ap, ◌∙◌}
use mathlib.Core.Bool.{Bool, true, false, ◌&&◌}
use mathlib.Core.List.{List}
use Prim.Native.Nat.{ℕ, ◌≤◌, ◌<◌}
use lib.Dec.{ltb}
use lib.ListN.{length, get_or}
use lib.Ieee.{Float, nan, binary32, add, le}
use borrow.Author.Tests.{lt-ltb, le-ltb}
use Rattle.ieee.specs.Constants.{plus_zero}
use Rattle.ieee.specs.Times.{is_time}
use Rattle.ieee.proofs.Times.{time_is}
use Rattle.tone.specs.Time.{length_of}
use Rattle.instrument.specs.declared.machine.Instrument.{Instrument}
use Rattle.sheet.specs.declared.note.Note.{Note}
use Rattle.sheet.specs.Lengths.{sounding_of, is_counted}
use Rattle.sheet.specs.Parts.{releases_of}
use Rattle.handed.specs.Check.{note_passes}

module _ (n : Note) (instruments : ℕ) (w : Bool) where
  pub unknown : instruments ≤ n.instrument → false ≡ (ltb n.instrument instruments && (is_time n.duration && w))
  unknown h = rw (le-ltb n.instrument instruments h)

  module _ (h : n.instrument < instruments) where
    pub endless : le plus_zero n.duration ≡ false → false ≡ (ltb n.instrument instruments && (is_time n.duration && w))
    endless e = rw (lt-ltb n.instrument instruments h, time_is n.duration, e)

    pub lasting : le plus_zero n.duration ≡ true → w ≡ (ltb n.instrument instruments && (is_time n.duration && w))
    lasting e = rw (lt-ltb n.instrument instruments h, time_is n.duration, e)

-- with the number of the instruments and the release of its own it is the test of the note
pub note_is : (rate : ℕ) (n : Note) (is : List Instrument) (most : ℕ) (r : Float) (w b : Bool) → most ≡ length is
    → r ≡ get_or (releases_of is) n.instrument nan → w ≡ is_counted (length_of rate (add binary32 n.duration r))
    → b ≡ (ltb n.instrument most && (is_time n.duration && w)) → b ≡ note_passes rate is n
unfolding note_passes sounding_of
note_is rate n is most r w b e f v g =
    g
    ∙ ap (λ (x : Bool). ltb n.instrument most && (is_time n.duration && x)) v
    ∙ ap (λ (k : ℕ). ltb n.instrument k && (is_time n.duration && is_counted (sounding_of rate r n))) e
    ∙ ap (λ (x : Float). ltb n.instrument (length is) && (is_time n.duration && is_counted (sounding_of rate x n))) f
