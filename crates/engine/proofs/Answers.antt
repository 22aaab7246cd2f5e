-- What comes of a header, case by case, in 01's order of refusals. Assumes nothing.
use mathlib.Core.Path.{◌≡◌}
use mathlib.Core.Bool.{true, false}
use mathlib.Core.List.{List}
use Prim.Native.Nat.{ℕ, ◌≤◌, ◌<◌}
use lib.ListN.{length}
use borrow.Author.Tests.{le-leb, lt-leb}
use Rattle.form.specs.declared.size.Size.{Size}
use Rattle.form.specs.Form.{header}
use Rattle.wave.specs.File.{put}
use Rattle.sheet.specs.declared.sheet.Sheet.{Sheet}
use Rattle.sheet.specs.Parts.{length_of}
use Rattle.sheet.specs.Refusals.{going, refused, ◌>>◌, refuse◌on◌unless◌}
use Rattle.handed.specs.Check.{is_sheet}
use Rattle.engine.specs.Files.{header_of, headed_by, header_in}

module _ (rate : ℕ) (s : Sheet) (buffer : List ℕ) where
  pub header_28 : is_sheet rate s ≡ false → header_of rate s (length buffer) ≡ refused 28 0
  unfolding header_of ◌>>◌ refuse◌on◌unless◌
  header_28 e = rw e

  pub header_30 : is_sheet rate s ≡ true → length buffer < 44 → header_of rate s (length buffer) ≡ refused 30 0
  unfolding header_of ◌>>◌ refuse◌on◌unless◌
  header_30 e l = rw (e, lt-leb 44 (length buffer) l)

  pub header_taken : is_sheet rate s ≡ true → 44 ≤ length buffer → header_of rate s (length buffer) ≡ going 44
  unfolding header_of ◌>>◌ refuse◌on◌unless◌
  header_taken e l = rw (e, le-leb 44 (length buffer) l)

  pub header_refused : (size : Size) (n l : ℕ) → header_of rate s (length buffer) ≡ refused n l → header_in size rate s buffer ≡ buffer
  unfolding header_in headed_by
  header_refused size n l e = rw e

  pub header_written_law : (size : Size) (n : ℕ) → header_of rate s (length buffer) ≡ going n → header_in size rate s buffer ≡ put buffer 0 (header size rate (length_of rate s))
  unfolding header_in headed_by
  header_written_law size n e = rw e
