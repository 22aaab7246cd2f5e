-- What comes of a window of bytes, case by case, in 01's order of refusals. Assumes nothing.
use mathlib.Core.Path.{◌≡◌}
use mathlib.Core.Bool.{true, false, and-false}
use mathlib.Core.List.{List}
use Prim.Native.Nat.{ℕ, ◌-◌, ◌≤◌, ◌<◌, min}
use lib.Dec.{ltb}
use lib.ListN.{length}
use borrow.Author.Tests.{le-leb, lt-leb, lt-ltb, le-ltb}
use Rattle.form.specs.Sample.{bytes_of}
use Rattle.wave.specs.File.{put, room_at}
use Rattle.sheet.specs.declared.sheet.Sheet.{Sheet}
use Rattle.sheet.specs.Parts.{length_of}
use Rattle.sheet.specs.Refusals.{going, refused, ◌>>◌, refuse◌on◌unless◌, refuse◌on◌if◌}
use Rattle.handed.specs.Check.{is_sheet}
use Rattle.evaluator.specs.Samples.{samples_from}
use Rattle.mixing.specs.Placing.{placed}
use Rattle.windows.specs.Written.{written_of, written_by, written_in}

module _ (rate : ℕ) (s : Sheet) (buffer : List ℕ) where
  abbrev room : ℕ
  room = length buffer

  module _ (start at : ℕ) where
    pub written_28 : is_sheet rate s ≡ false → written_of rate s start room at ≡ refused 28 0
    unfolding written_of ◌>>◌ refuse◌on◌unless◌
    written_28 e = rw e

    pub written_refused : (n l : ℕ) → written_of rate s start room at ≡ refused n l → written_in rate s start buffer at ≡ buffer
    unfolding written_in written_by
    written_refused n l e = rw e

    pub written_put : (n : ℕ) → written_of rate s start room at ≡ going n → written_in rate s start buffer at ≡ put buffer at (bytes_of (samples_from (placed rate s) start n))
    unfolding written_in written_by
    written_put n e = rw e

    module _ (e : is_sheet rate s ≡ true) where
      pub written_29 : length_of rate s < start → written_of rate s start room at ≡ refused 29 0
      unfolding written_of ◌>>◌ refuse◌on◌unless◌
      written_29 l = rw (e, lt-leb start (length_of rate s) l)

      module _ (l : start ≤ length_of rate s) where
        pub written_past : room < at → written_of rate s start room at ≡ refused 30 0
        unfolding written_of ◌>>◌ refuse◌on◌unless◌
        written_past p = rw (e, le-leb start (length_of rate s) l, lt-leb at room p)

        module _ (p : at ≤ room) where
          -- a sample exists and under two bytes are left
          pub written_short : start < length_of rate s → room - at < 2 → written_of rate s start room at ≡ refused 30 0
          unfolding written_of ◌>>◌ refuse◌on◌unless◌ refuse◌on◌if◌
          written_short m f = rw (e, le-leb start (length_of rate s) l, le-leb at room p, lt-ltb start (length_of rate s) m, lt-ltb (room - at) 2 f)

          -- there is room for one, or none exists
          pub written_room : 2 ≤ room - at → written_of rate s start room at ≡ going (min (room_at room at) (length_of rate s - start))
          unfolding written_of ◌>>◌ refuse◌on◌unless◌ refuse◌on◌if◌
          written_room f = rw (e, le-leb start (length_of rate s) l, le-leb at room p, le-ltb (room - at) 2 f, and-false (ltb start (length_of rate s)))

          pub written_none : length_of rate s ≤ start → written_of rate s start room at ≡ going (min (room_at room at) (length_of rate s - start))
          unfolding written_of ◌>>◌ refuse◌on◌unless◌ refuse◌on◌if◌
          written_none m = rw (e, le-leb start (length_of rate s) l, le-leb at room p, le-ltb start (length_of rate s) m)
