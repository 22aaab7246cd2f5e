-- What a caller may rely on beside the contracts: what is told is which outcome it is, and a number of 0 is none; the samples are those of the reading; the
-- file is the one that the program hands on; and a header with windows one after the other behind it gives the bytes of the whole file. Assumes nothing.
use mathlib.Core.Path.{◌≡◌, refl, sym, ap, ap₂, ◌∙◌}
use mathlib.Core.List.{List, ◌++◌}
use Prim.Native.Nat.{ℕ, ◌+◌, ◌-◌, ◌*◌, ◌/◌, ◌≤◌, min}
use native.Mathlib.Omega.{arith}
use lib.ListN.{length, length-append}
use Rattle.form.specs.declared.size.Size.{Size}
use Rattle.form.specs.declared.size.Size.TheVariants.{Published}
use Rattle.form.specs.Form.{published}
use Rattle.wave.specs.File.{put, room_at}
use Rattle.form.proofs.Published.{header_length}
use Rattle.sheet.specs.declared.sheet.Sheet.{Sheet}
use Rattle.sheet.specs.Parts.{length_of}
use Rattle.sheet.specs.Refusals.{Outcome, going, refused, ◌>>=◌, ◌>>◌}
use Rattle.sheet.proofs.Outcomes.{Numbered, numbered_going, numbered_unless, numbered_if, numbered_then}
use Rattle.engine.specs.Stream.{file_of}
use Rattle.engine.proofs.Answers.{header_taken, header_written_law as header_put}
use Rattle.windows.proofs.Windows.{written_is, written_cut, both_put}
use Rattle.engine.proofs.HandedOn.{file_passing}
use Rattle.engine.proofs.Published.{sheet_published}
use Rattle.meaning.specs.Sheets.{Read, sheet_read, length_read}
use Rattle.meaning.specs.Layout.{sheet_of}
use Rattle.meaning.proofs.Laid.{laid_length}
use Rattle.strict.specs.declared.mode.Mode.{Mode}
use Rattle.station.specs.declared.told.Told.{Told}
use Rattle.station.specs.Calls.{told, rate, sheet_in, samples_asked, header_asked, header_bytes, header_written, window_asked, sample_bytes, window_written, size_asked, wav_asked, wav_written}
use Rattle.station.proofs.Numbers.{sheet_numbered}
use Rattle.station.proofs.Texts.{sheet_passes}
use Rattle.station.proofs.Asked.{header_written_law, window_kept, window_written_law, wav_is}

-- ---- what is told

-- what is told of two outcomes is the same only where they are, so two answers to the same bytes say the same
pub told_same : (o p : Outcome ℕ) → Numbered o → Numbered p → told o ≡ told p → o ≡ p
unfolding told Numbered
told_same (going m) (going n) h k e = ap going (ap (λ (t : Told). t.count) e)
told_same (going m) (refused n l) h k e = let z : 0 ≡ n = ap (λ (t : Told). t.refusal) e in absurd (omega arith)
told_same (refused m l) (going n) h k e = let z : m ≡ 0 = ap (λ (t : Told). t.refusal) e in absurd (omega arith)
told_same (refused m l) (refused n j) h k e = ap₂ refused (ap (λ (t : Told). t.refusal) e) (ap (λ (t : Told). t.line) e)

-- where the number is 0, nothing was refused
pub told_going : (o : Outcome ℕ) → Numbered o → (told o).refusal ≡ 0 → o ≡ going (told o).count
unfolding told Numbered
told_going (going n) h z = refl
told_going (refused n l) h z = absurd (omega (arith, h, z))

-- no refusal of a call has the number 0
text_numbered : (mode : Mode) (source : List ℕ) → Numbered (sheet_in mode source)
unfolding sheet_in
text_numbered mode source = numbered_then _ _ (sheet_numbered mode rate source) (λ r. numbered_going _)

pub samples_numbered : (mode : Mode) (source : List ℕ) → Numbered (samples_asked mode source)
unfolding samples_asked
samples_numbered mode source = numbered_then _ _ (text_numbered mode source) (λ s. numbered_going _)

pub header_numbered : (mode : Mode) (source : List ℕ) (room : ℕ) → Numbered (header_asked mode source room)
unfolding header_asked
header_numbered mode source room = numbered_then _ _ (text_numbered mode source) (λ s. numbered_unless _ _ _ _ (omega arith) (numbered_going _))

pub window_numbered : (mode : Mode) (source : List ℕ) (start room at : ℕ) → Numbered (window_asked mode source start room at)
unfolding window_asked
window_numbered mode source start room at =
    numbered_then _ _ (text_numbered mode source)
    (λ s. numbered_unless _ _ _ _ (omega arith)
    (numbered_unless _ _ _ _ (omega arith) (numbered_if _ _ _ _ (omega arith) (numbered_going _))))

pub wav_numbered : (mode : Mode) (source : List ℕ) (room : ℕ) → Numbered (wav_asked mode source room)
unfolding wav_asked size_asked
wav_numbered mode source room =
    numbered_then _ _ (numbered_then _ _ (samples_numbered mode source) (λ n. numbered_going _)) (λ n. numbered_unless _ _ _ _ (omega arith) (numbered_going n))

-- ---- the samples

-- the samples are counted as the reading counts them for 27
pub samples_read : (mode : Mode) (source : List ℕ) → samples_asked mode source ≡ (sheet_read mode rate source >>= (λ (r : Read). going (length_read rate r)))
unfolding samples_asked sheet_in ◌>>=◌
samples_read mode source = go (sheet_read mode rate source)
  where
    go : (o : Outcome Read) → ((o >>= (λ (r : Read). going (sheet_of r.parts r.instruments))) >>= (λ (s : Sheet). going (length_of rate s))) ≡ (o >>= (λ (r : Read). going (length_read rate r)))
    go (going r) = ap going (laid_length rate r)
    go (refused n l) = refl

-- ---- the file

-- the file that the program `cue` hands on
pub wav_handed : (mode : Mode) (riff : Size) (source : List ℕ) (s : Sheet) (buffer : List ℕ) → sheet_in mode source ≡ going s → 44 + 2 * length_of rate s ≤ length buffer
    → wav_written mode riff source buffer ≡ put buffer 0 (file_of riff rate s)
wav_handed mode riff source s buffer e h = wav_is mode source s e riff buffer h ∙ ap (put buffer 0) (sym (file_passing riff rate s (sheet_passes mode source s e)))

-- which is the published form of its samples
pub wav_published : (mode : Mode) (source : List ℕ) (s : Sheet) (buffer : List ℕ) → sheet_in mode source ≡ going s → 44 + 2 * length_of rate s ≤ length buffer
    → wav_written mode Published source buffer ≡ put buffer 0 (published rate (sample_bytes s 0 (length_of rate s)))
wav_published mode source s buffer e h =
    wav_handed mode Published source s buffer e h ∙ ap (put buffer 0) (sheet_published rate s (sheet_passes mode source s e))

-- the header in the first 44 bytes, and a window in the bytes behind them
pub wav_cut : (mode : Mode) (riff : Size) (source : List ℕ) (s : Sheet) (h b : List ℕ) → sheet_in mode source ≡ going s → length h ≡ 44 → 2 * length_of rate s ≤ length b
    → wav_written mode riff source (h ++ b) ≡ header_written mode riff source h ++ window_written mode source 0 b 0
unfolding room_at
wav_cut mode riff source s h b e l m =
    let p = sheet_passes mode source s e in
    let n = length_of rate s in
    let room : 44 + 2 * n ≤ length (h ++ b) = omega (arith, length-append h b) in
    let all : min ((length b - 0) / 2) (n - 0) ≡ n = omega arith in
    wav_is mode source s e riff (h ++ b) room
    ∙ both_put h b (header_bytes riff s) (sample_bytes s 0 n) (header_length riff rate n ∙ sym l)
    ∙ sym
    (ap₂ (λ (x y : List ℕ). x ++ y)
    (header_written_law mode source s e riff h ∙ header_put rate s h riff 44 (header_taken rate s h p (omega arith)))
    (window_written_law mode source s e 0 b 0 ∙ written_is rate s p 0 b 0 ∙ ap (λ (k : ℕ). put b 0 (sample_bytes s 0 k)) all))

-- windows one after the other give the bytes of one large window, refusals and all
pub windows_cut : (mode : Mode) (source : List ℕ) (start a : ℕ) (xs ys : List ℕ) → length xs ≡ 2 * a
    → window_written mode source start (xs ++ ys) 0 ≡ window_written mode source start xs 0 ++ window_written mode source (start + a) ys 0
windows_cut mode source start a xs ys h = go (sheet_in mode source) refl
  where
    go : (o : Outcome Sheet) → sheet_in mode source ≡ o → window_written mode source start (xs ++ ys) 0 ≡ window_written mode source start xs 0 ++ window_written mode source (start + a) ys 0
    go (going s) e =
        window_written_law mode source s e start (xs ++ ys) 0
        ∙ written_cut rate s start a xs ys h
        ∙ sym (ap₂ (λ (x y : List ℕ). x ++ y) (window_written_law mode source s e start xs 0) (window_written_law mode source s e (start + a) ys 0))
    go (refused n l) e =
        window_kept mode source n l e start (xs ++ ys) 0
        ∙ sym (ap₂ (λ (x y : List ℕ). x ++ y) (window_kept mode source n l e start xs 0) (window_kept mode source n l e (start + a) ys 0))
