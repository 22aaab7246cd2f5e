-- The instrument of a note and how long it makes the note sound: an index past the instruments of a sheet has one whose release is no number, so such a
-- note does not sound. Assumes nothing.
use mathlib.Core.Path.{◌≡◌, refl, sym, ap, ◌∙◌}
use mathlib.Core.Bool.{Bool, true, false}
use mathlib.Core.List.{List, [], ◌∷◌}
use Prim.Native.Nat.{ℕ, zero, suc, ◌≤◌, ◌<◌, ◌-◌, min}
use native.Mathlib.Omega.{arith}
use lib.Dec.{ltb}
use lib.ListN.{length, take, get_or, length-take, get_or-eq_default}
use lib.Seq.{get_or-take}
use lib.IntN.{pos}
use lib.Ieee.{Float, nan, inf, fin, binary32, add, mul, of_int}
use borrow.Author.Tests.{ltb-true, ltb-false}
use Rattle.tone.specs.Time.{note_most, count_of, length_of}
use Rattle.instrument.specs.declared.machine.Instrument.{Instrument}
use Rattle.sheet.specs.declared.note.Note.{Note}
use Rattle.sheet.specs.Lengths.{sounding_of, samples_of}
use Rattle.sheet.proofs.Lengths.{samples_most}
use Rattle.mixing.specs.Placing.{nobody, player_of, sounds_of}

-- no note sounds longer than one note may
pub sounds_most : (rate : ℕ) (by : Instrument) (n : Note) → sounds_of rate by n ≤ note_most
unfolding sounding_of
sounds_most rate by n = samples_most rate (add binary32 n.duration by.release)

add_nan : (d : Float) → add binary32 d nan ≡ nan
unfolding add
add_nan nan = refl
add_nan (inf s) = refl
add_nan (fin s m e) = refl

-- with a release that is no number a note has no samples
pub release_nan : (rate : ℕ) (d : Float) → samples_of (length_of rate (add binary32 d nan)) ≡ 0
unfolding length_of count_of samples_of mul
release_nan rate d = ap (λ (x : Float). samples_of (count_of (mul binary32 x (of_int binary32 (pos rate))))) (add_nan d)

get_d_any : {A : Type 0} (l : List A) (i : ℕ) (d e : A) → i < length l → get_or l i d ≡ get_or l i e
get_d_any [] i d e h = absurd (omega arith)
get_d_any (x ∷ xs) zero d e h = refl
get_d_any (x ∷ xs) (suc i) d e h = get_d_any xs i d e (omega arith)

module _ (rate : ℕ) (table : List Instrument) (counted instruments : ℕ) (n : Note) (noby : Instrument) (k : ℕ) (release : Float) (sounds : ℕ)
    (ei : instruments ≡ min counted (length table))
    (er : release ≡ elim (ltb n.instrument instruments) as (λ b. Float) [ true ↦ (get_or table k noby).release | false ↦ nan ])
    (ek : k ≡ min n.instrument (length table - 1))
    (es : sounds ≡ samples_of (length_of rate (add binary32 n.duration release))) where
  player_known : n.instrument < instruments → get_or table k noby ≡ player_of (take counted table) n
  player_known h =
      let e : k ≡ n.instrument = omega arith in
      ap (λ (j : ℕ). get_or table j noby) e ∙ get_d_any table n.instrument noby nobody (omega arith) ∙ sym (get_or-take counted table n.instrument nobody (omega arith))

  player_none : instruments ≤ n.instrument → player_of (take counted table) n ≡ nobody
  player_none h = get_or-eq_default (take counted table) nobody (omega (arith, length-take counted table))

  -- it sounds as long as its instrument makes it
  pub player_sounds : sounds ≡ sounds_of rate (player_of (take counted table) n) n
  unfolding sounding_of
  player_sounds = go (ltb n.instrument instruments) refl
    where
      go : (b : Bool) → ltb n.instrument instruments ≡ b → sounds ≡ sounds_of rate (player_of (take counted table) n) n
      go true t = es ∙ ap (λ (x : Float). samples_of (length_of rate (add binary32 n.duration x))) (er ∙ rw t (ap (λ (i : Instrument). i.release) (player_known (omega (arith, ltb-true)))))
      go false t = es ∙ ap (λ (x : Float). samples_of (length_of rate (add binary32 n.duration x))) (er ∙ rw t (ap (λ (i : Instrument). i.release) (sym (player_none (omega (arith, ltb-false))))))

  -- and where it sounds, its instrument is the one of the table
  pub player_is : 0 < sounds → get_or table k noby ≡ player_of (take counted table) n
  player_is h = go (ltb n.instrument instruments) refl
    where
      go : (b : Bool) → ltb n.instrument instruments ≡ b → get_or table k noby ≡ player_of (take counted table) n
      go true t = player_known (omega (arith, ltb-true))
      go false t =
          let e : release ≡ nan = er ∙ rw t refl in
          let z : sounds ≡ 0 = es ∙ ap (λ (x : Float). samples_of (length_of rate (add binary32 n.duration x))) e ∙ release_nan rate n.duration in
          absurd (omega arith)
