-- A buffer with room for the file of given samples holds the published form in front, or under the old name the form's file whose RIFF size says 32 + 2n.
-- Assumes nothing.
use mathlib.Core.Path.{◌≡◌, ap}
use mathlib.Core.Bool.{true}
use mathlib.Core.List.{List}
use Prim.Native.Nat.{ℕ, ◌+◌, ◌*◌}
use lib.ListN.{length}
use lib.Ieee.{Float}
use Rattle.form.specs.declared.size.Size.TheVariants.{Published, Old}
use Rattle.form.specs.Form.{wave_file, published}
use Rattle.form.specs.Sample.{bytes_of}
use Rattle.form.proofs.Published.{file_published, file_old}
use Rattle.wave.specs.File.{put, fits_file, file_in}

module _ (rate : ℕ) (xs : List Float) (buffer : List ℕ) (h : fits_file (length xs) (length buffer) ≡ true) where
  -- the published file
  pub file_written : file_in Published rate xs buffer ≡ put buffer 0 (published rate (bytes_of xs))
  unfolding file_in
  file_written = rw (h, file_in) (ap (put buffer 0) (file_published rate xs))

  -- the file whose RIFF size says 32 + 2n
  pub old_written : file_in Old rate xs buffer ≡ put buffer 0 (wave_file (32 + 2 * length xs) rate (bytes_of xs))
  unfolding file_in
  old_written = rw (h, file_in) (ap (put buffer 0) (file_old rate xs))
