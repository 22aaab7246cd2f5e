-- Mixing the notes of a sheet that passes the check writes its samples. Each note that passes takes no more samples than it sounds, since its duration
-- and release are times and its duration is an f32; so the front law holds of the sheet. Assumes nothing.
use mathlib.Core.Path.{◌≡◌, sym, ap, subst, ◌∙◌}
use mathlib.Core.Bool.{true}
use mathlib.Core.List.{List}
use Prim.Native.Nat.{ℕ, ◌^◌, ◌≤◌, ◌<◌}
use native.Mathlib.Omega.{arith}
use lib.Dec.{T}
use lib.ListN.{length, take, get_or, length-take}
use lib.Seq.{get_or-take}
use lib.Ieee.{Float, nan, binary32, fits}
use Rattle.instrument.specs.declared.machine.Instrument.{Instrument}
use Rattle.sheet.specs.declared.note.Note.{Note}
use Rattle.sheet.specs.declared.sheet.Sheet.{Sheet}
use Rattle.sheet.specs.Lengths.{sounding_of}
use Rattle.sheet.specs.Parts.{counts_of, total, instruments_of, releases_of, length_of}
use Rattle.sheet.proofs.Lengths.{takes_within}
use Rattle.handed.specs.Check.{note_passes, is_sheet}
use Rattle.handed.proofs.Alls.{all_at}
use Rattle.handed.proofs.Passing.{passing, Plays, plays}
use Rattle.mixing.specs.Placing.{takes_of, placed}
use Rattle.mixing.specs.Mixing.{mix_all}
use Rattle.evaluator.proofs.Fronts.{Joined, mix_window}
use Rattle.evaluator.proofs.Places.{Longer, sounds_same, sheet_end, sheet_joined}
use Rattle.evaluator.proofs.Windows.{windowed}

-- each duration of a sheet is an f32
abbrev pub Fitting : Sheet → Type 0
Fitting s = (i : ℕ) (d : Note) → i < length s.notes → T (fits binary32 (get_or s.notes i d).duration)

-- a note that plays takes no more samples than it sounds
longer_of : (rate : ℕ) (is : List Instrument) (n : Note) → rate < 2 ^ 32 → T (fits binary32 n.duration) → Plays rate is n → Longer rate is n
unfolding sounding_of
longer_of rate is n h f p =
    subst (λ (k : ℕ). takes_of rate n ≤ k) (sym (sounds_same rate is n))
    (takes_within rate h n.duration (get_or (releases_of is) n.instrument nan) f p.lasts p.ends p.counted)

module _ (rate : ℕ) (s : Sheet) (h : rate < 2 ^ 32) (e : is_sheet rate s ≡ true) (f : Fitting s) where
  -- each note of the parts is looked at by the check
  note_plays : (i : ℕ) (d : Note) → i < total (counts_of s) → i < length s.notes → Plays rate (instruments_of s) (get_or s.notes i d)
  note_plays i d l m =
      let p = passing rate s e in
      let k = total (counts_of s) in
      plays rate (instruments_of s) (get_or s.notes i d) p.players
      (subst (λ (n : Note). note_passes rate (instruments_of s) n ≡ true) (get_or-take k s.notes i d l)
      (all_at (note_passes rate (instruments_of s)) (take k s.notes) i d p.played (omega (arith, length-take k s.notes))))

  joined : Joined 0 (placed rate s)
  joined = sheet_joined rate s (λ (i : ℕ) (d : Note) (l : i < total (counts_of s)) (m : i < length s.notes).
      longer_of rate (instruments_of s) (get_or s.notes i d) h (f i d m) (note_plays i d l m))

  -- so mixing writes the samples that exist and fit
  pub mixed_is : (k : ℕ) (xs : List Float) → mix_all 0 (placed rate s) k xs ≡ windowed (placed rate s) (length_of rate s) k xs
  mixed_is k xs = mix_window (placed rate s) k xs joined ∙ ap (λ (end : ℕ). windowed (placed rate s) end k xs) (sheet_end rate s)
