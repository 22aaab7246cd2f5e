-- What is told of a text that is refused, and of one that is a sheet: then each answer and each buffer is that of the engine to who hands in the sheet.
-- Assumes nothing.
use mathlib.Core.Path.{◌≡◌, refl, sym, ap, ap₂, ◌∙◌}
use mathlib.Core.List.{List, ◌++◌}
use Prim.Native.Nat.{ℕ, ◌+◌, ◌-◌, ◌*◌, ◌≤◌, ◌<◌}
use native.Mathlib.Omega.{arith}
use lib.ListN.{length}
use borrow.Author.Tests.{le-leb, lt-leb}
use Rattle.form.specs.declared.size.Size.{Size}
use Rattle.form.specs.Form.{header}
use Rattle.form.specs.Sample.{bytes_of}
use Rattle.wave.specs.File.{put, fits_file, file_in}
use Rattle.sheet.specs.declared.sheet.Sheet.{Sheet}
use Rattle.sheet.specs.Parts.{length_of}
use Rattle.sheet.specs.Refusals.{Outcome, going, refused, ◌>>=◌, ◌>>◌, refuse◌on◌unless◌}
use Rattle.sheet.proofs.Outcomes.{then_going, then_refused}
use Rattle.handed.proofs.Passing.{passing}
use Rattle.evaluator.specs.Samples.{samples_from}
use Rattle.mixing.specs.Placing.{placed}
use Rattle.evaluator.proofs.Samples.{samples_length}
use Rattle.windows.specs.Written.{written_of, written_by, written_in}
use Rattle.engine.specs.Files.{header_of, headed_by, header_in}
use Rattle.engine.proofs.Files.{whole_file}
use Rattle.strict.specs.declared.mode.Mode.{Mode}
use Rattle.station.specs.declared.told.Told.{Told}
use Rattle.station.specs.Calls.{told, written, rate, sheet_in, samples_asked, header_asked, header_bytes, header_written, window_asked, sample_bytes, window_written, size_asked, wav_asked, wav_told, wav_written}
use Rattle.station.proofs.Texts.{sheet_passes}

-- nothing is written after a refusal
written_refused : (buffer : List ℕ) (at n l : ℕ) (o : Outcome ℕ) (f : ℕ → Outcome (List ℕ)) → o ≡ refused n l → written buffer at (o >>= f) ≡ buffer
unfolding written
written_refused buffer at n l o f e = ap (written buffer at) (then_refused n l o f e)

-- what is told of a file, by the outcome that has its size and the one that has its refusal
abbrev both_told : Outcome ℕ → Outcome ℕ → Told
both_told size o = record { count = (told size).count; refusal = (told o).refusal; line = (told o).line }

-- ---- a text that is refused

module _ (mode : Mode) (source : List ℕ) (n l : ℕ) (e : sheet_in mode source ≡ refused n l) where
  pub samples_refused : samples_asked mode source ≡ refused n l
  unfolding samples_asked
  samples_refused = then_refused n l (sheet_in mode source) _ e

  pub header_refused : (room : ℕ) → header_asked mode source room ≡ refused n l
  unfolding header_asked
  header_refused room = then_refused n l (sheet_in mode source) _ e

  pub header_kept : (riff : Size) (buffer : List ℕ) → header_written mode riff source buffer ≡ buffer
  unfolding header_written
  header_kept riff buffer = written_refused buffer 0 n l _ _ (header_refused (length buffer))

  pub window_refused : (start room at : ℕ) → window_asked mode source start room at ≡ refused n l
  unfolding window_asked
  window_refused start room at = then_refused n l (sheet_in mode source) _ e

  pub window_kept : (start : ℕ) (buffer : List ℕ) (at : ℕ) → window_written mode source start buffer at ≡ buffer
  unfolding window_written
  window_kept start buffer at = written_refused buffer at n l _ _ (window_refused start (length buffer) at)

  size_refused : size_asked mode source ≡ refused n l
  unfolding size_asked
  size_refused = then_refused n l (samples_asked mode source) _ samples_refused

  wav_refused : (room : ℕ) → wav_asked mode source room ≡ refused n l
  unfolding wav_asked
  wav_refused room = then_refused n l (size_asked mode source) _ size_refused

  pub wav_told_refused : (room : ℕ) → wav_told mode source room ≡ told (refused n l)
  unfolding wav_told told
  wav_told_refused room = ap₂ both_told size_refused (wav_refused room)

  pub wav_kept : (riff : Size) (buffer : List ℕ) → wav_written mode riff source buffer ≡ buffer
  unfolding wav_written
  wav_kept riff buffer = written_refused buffer 0 n l _ _ (wav_refused (length buffer))

-- ---- a text that is a sheet

module _ (mode : Mode) (source : List ℕ) (s : Sheet) (e : sheet_in mode source ≡ going s) where
  abbrev samples : ℕ
  samples = length_of rate s

  pub samples_going : samples_asked mode source ≡ going samples
  unfolding samples_asked
  samples_going = then_going s (sheet_in mode source) _ e

  -- the engine asks 28 first, and the sheet passes
  pub header_going : (room : ℕ) → header_asked mode source room ≡ header_of rate s room
  unfolding header_asked header_of ◌>>◌ refuse◌on◌unless◌
  header_going room = then_going s (sheet_in mode source) _ e ∙ sym (rw (sheet_passes mode source s e))

  pub window_going : (start room at : ℕ) → window_asked mode source start room at ≡ written_of rate s start room at
  unfolding window_asked written_of ◌>>◌ refuse◌on◌unless◌
  window_going start room at = then_going s (sheet_in mode source) _ e ∙ sym (rw (sheet_passes mode source s e))

  -- ---- the buffer afterwards

  headed : (riff : Size) (buffer : List ℕ) (o : Outcome ℕ) → written buffer 0 (o >>= (λ (n : ℕ). going s >>= (λ (t : Sheet). going (header_bytes riff t)))) ≡ headed_by riff rate s buffer o
  unfolding written headed_by ◌>>=◌
  headed riff buffer (going n) = refl
  headed riff buffer (refused k l) = refl

  pub header_written_law : (riff : Size) (buffer : List ℕ) → header_written mode riff source buffer ≡ header_in riff rate s buffer
  unfolding header_written header_in
  header_written_law riff buffer =
      ap₂ (λ (o : Outcome ℕ) (i : Outcome Sheet). written buffer 0 (o >>= (λ (n : ℕ). i >>= (λ (t : Sheet). going (header_bytes riff t))))) (header_going (length buffer)) e
      ∙ headed riff buffer (header_of rate s (length buffer))

  windowed : (start : ℕ) (buffer : List ℕ) (at : ℕ) (o : Outcome ℕ)
      → written buffer at (o >>= (λ (n : ℕ). going s >>= (λ (t : Sheet). going (sample_bytes t start n)))) ≡ written_by rate s start buffer at o
  unfolding written written_by ◌>>=◌
  windowed start buffer at (going n) = refl
  windowed start buffer at (refused k l) = refl

  pub window_written_law : (start : ℕ) (buffer : List ℕ) (at : ℕ) → window_written mode source start buffer at ≡ written_in rate s start buffer at
  unfolding window_written written_in
  window_written_law start buffer at =
      ap₂ (λ (o : Outcome ℕ) (i : Outcome Sheet). written buffer at (o >>= (λ (n : ℕ). i >>= (λ (t : Sheet). going (sample_bytes t start n)))))
      (window_going start (length buffer) at) e
      ∙ windowed start buffer at (written_of rate s start (length buffer) at)

  -- ---- the file

  abbrev size : ℕ
  size = 44 + 2 * samples

  size_going : size_asked mode source ≡ going size
  unfolding size_asked
  size_going = then_going samples (samples_asked mode source) _ samples_going

  wav_short : (room : ℕ) → room < size → wav_asked mode source room ≡ refused 30 0
  unfolding wav_asked ◌>>◌ refuse◌on◌unless◌
  wav_short room h = then_going size (size_asked mode source) _ size_going ∙ rw (lt-leb size room h)

  wav_room : (room : ℕ) → size ≤ room → wav_asked mode source room ≡ going size
  unfolding wav_asked ◌>>◌ refuse◌on◌unless◌
  wav_room room h = then_going size (size_asked mode source) _ size_going ∙ rw (le-leb size room h)

  pub wav_told_short : (room : ℕ) → room < size → wav_told mode source room ≡ record { count = size; refusal = 30; line = 0 }
  unfolding wav_told told
  wav_told_short room h = ap₂ both_told size_going (wav_short room h)

  pub wav_told_room : (room : ℕ) → size ≤ room → wav_told mode source room ≡ told (going size)
  unfolding wav_told told
  wav_told_room room h = ap₂ both_told size_going (wav_room room h)

  pub wav_short_kept : (riff : Size) (buffer : List ℕ) → length buffer < size → wav_written mode riff source buffer ≡ buffer
  unfolding wav_written
  wav_short_kept riff buffer h = written_refused buffer 0 30 0 _ _ (wav_short (length buffer) h)

  pub wav_is : (riff : Size) (buffer : List ℕ) → size ≤ length buffer → wav_written mode riff source buffer ≡ put buffer 0 (header_bytes riff s ++ sample_bytes s 0 samples)
  unfolding wav_written written ◌>>=◌
  wav_is riff buffer h =
      ap₂ (λ (o : Outcome ℕ) (i : Outcome Sheet). written buffer 0 (o >>= (λ (n : ℕ). i >>= (λ (t : Sheet). going (header_bytes riff t ++ sample_bytes t 0 (length_of rate t))))))
      (wav_room (length buffer) h) e

  -- the file of the sheet's samples, as 01 has the file of given samples
  pub wav_file : (riff : Size) (buffer : List ℕ) → size ≤ length buffer → wav_written mode riff source buffer ≡ file_in riff rate (samples_from (placed rate s) 0 samples) buffer
  unfolding file_in fits_file
  wav_file riff buffer h =
      let xs = samples_from (placed rate s) 0 samples in
      let n : length xs ≡ samples = samples_length (placed rate s) 0 samples in
      let few : samples ≤ 2000000000 = (passing rate s (sheet_passes mode source s e)).length in
      wav_is riff buffer h
      ∙ ap (λ (k : ℕ). put buffer 0 (header riff rate k ++ bytes_of xs)) (sym n)
      ∙ sym (rw (le-leb (length xs) 2000000000 (omega (arith, n, few)), le-leb (44 + 2 * length xs) (length buffer) (omega (arith, n, h)), file_in) refl)

  -- and so the header with a window of all samples behind it
  pub wav_pieces : (riff : Size) (buffer : List ℕ) → size ≤ length buffer → written_in rate s 0 (header_in riff rate s buffer) 44 ≡ wav_written mode riff source buffer
  wav_pieces riff buffer h = whole_file riff rate s buffer (sheet_passes mode source s e) h ∙ sym (wav_file riff buffer h)
