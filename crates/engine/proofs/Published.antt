-- The file of a sheet is the published form, byte for byte; under the old name it differs in the four bytes of the RIFF size alone. Assumes nothing.
use mathlib.Core.Path.{◌≡◌, refl, sym, ap, ◌∙◌}
use mathlib.Core.Bool.{Bool, true, false}
use mathlib.Core.List.{List, ◌++◌}
use Prim.Native.Nat.{ℕ, ◌+◌, ◌*◌}
use lib.ListN.{length, take, drop}
use lib.Ieee.{Float}
use Rattle.form.specs.declared.size.Size.{Size}
use Rattle.form.specs.declared.size.Size.TheVariants.{Published, Old}
use Rattle.form.specs.Form.{wave_file, published, header}
use Rattle.form.specs.Sample.{bytes_of}
use Rattle.form.proofs.Published.{file_published, header_published, file_old, beside_the_size}
use Rattle.sheet.specs.declared.sheet.Sheet.{Sheet}
use Rattle.sheet.specs.Parts.{length_of}
use Rattle.handed.specs.Check.{is_sheet}
use Rattle.evaluator.specs.Samples.{samples_from}
use Rattle.mixing.specs.Placing.{placed}
use Rattle.evaluator.proofs.Samples.{samples_length}
use Rattle.engine.specs.Stream.{file_of}
use Rattle.engine.proofs.HandedOn.{file_passing}

module _ (rate : ℕ) (s : Sheet) where
  -- all samples of the sheet, and how many they are
  abbrev sound : List Float
  sound = samples_from (placed rate s) 0 (length_of rate s)

  counted : length sound ≡ length_of rate s
  counted = samples_length (placed rate s) 0 (length_of rate s)

  module _ (e : is_sheet rate s ≡ true) where
    headed : (size : Size) → file_of size rate s ≡ header size rate (length sound) ++ bytes_of sound
    headed size = file_passing size rate s e ∙ ap (λ (n : ℕ). header size rate n ++ bytes_of sound) (sym counted)

    -- a sheet that passes the check has the published file of its samples
    pub sheet_published : file_of Published rate s ≡ published rate (bytes_of sound)
    sheet_published = headed Published ∙ file_published rate sound

    -- under the old name, the form's file whose RIFF size says 32 + 2n
    pub sheet_old : file_of Old rate s ≡ wave_file (32 + 2 * length_of rate s) rate (bytes_of sound)
    sheet_old = headed Old ∙ file_old rate sound ∙ ap (λ (n : ℕ). wave_file (32 + 2 * n) rate (bytes_of sound)) counted

  -- its header is that file's front
  pub sheet_header_published : header Published rate (length_of rate s) ≡ take 44 (published rate (bytes_of sound))
  sheet_header_published = ap (header Published rate) (sym counted) ∙ header_published rate sound

  -- before and behind the size's four bytes the two files agree, and so do those of a sheet that does not pass, which are empty
  pub sheet_beside_the_size : (take 4 (file_of Old rate s) ≡ take 4 (file_of Published rate s)) × (drop 8 (file_of Old rate s) ≡ drop 8 (file_of Published rate s))
  unfolding file_of
  sheet_beside_the_size = go (is_sheet rate s) refl
    where
      go : (b : Bool) → is_sheet rate s ≡ b → (take 4 (file_of Old rate s) ≡ take 4 (file_of Published rate s)) × (drop 8 (file_of Old rate s) ≡ drop 8 (file_of Published rate s))
      go true e = rw (e, file_of) (beside_the_size Old Published rate (length_of rate s) (bytes_of sound))
      go false e = rw (e, file_of) (refl, refl)
