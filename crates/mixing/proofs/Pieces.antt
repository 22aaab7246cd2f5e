-- A note mixed into the piece of a slice where it sounds is the note mixed into the slice: outside that piece no sample changes. Assumes nothing.
use mathlib.Core.Path.{◌≡◌, refl, sym, ap, ap₂, subst, ◌∙◌}
use mathlib.Core.Bool.{Bool, true, false}
use mathlib.Core.List.{List, [], ◌∷◌, ◌++◌, append-nil}
use Prim.Native.Nat.{ℕ, suc, ◌+◌, ◌-◌, ◌≤◌, ◌<◌, min}
use native.Mathlib.Nat.{le_of_lt, add-zero, add-suc, suc-add}
use native.Mathlib.Omega.{arith}
use lib.Dec.{ltb}
use lib.ListN.{length, take, drop, length-drop, take-append-drop}
use lib.Seq.{length-take-le, take-length, drop-length}
use lib.Ieee.{Float, binary32, add}
use borrow.Author.Tests.{lt-ltb, le-ltb, ltb-true, ltb-false}
use borrow.Rule.Slice.PartMut.{put_mid, mid_of, post_of, Post-is}
use Rattle.tone.specs.Time.{note_most}
use Rattle.instrument.specs.declared.machine.Instrument.{Instrument}
use Rattle.instrument.specs.Fill.{mixed, mixed_from, count_from, filled, sound_from}
use Rattle.sheet.specs.declared.note.Note.{Note}
use Rattle.mixing.specs.Sounding.{Placed, end_of, sounds_at}
use Rattle.mixing.specs.Placing.{sounds_of, placed_note}
use Rattle.mixing.specs.Mixing.{mix_at, mix_one}
use Rattle.mixing.proofs.Players.{sounds_most}
use Rattle.mixing.proofs.Sounding.{mix_true, mix_false, sounds_in, sounds_before, sounds_after}

module _ (covered : ℕ) (p : Placed) where
  mix_append : (k : ℕ) (xs ys : List Float) → mix_one covered p k (xs ++ ys) ≡ mix_one covered p k xs ++ mix_one covered p (k + length xs) ys
  unfolding mix_one
  mix_append k [] ys = ap (λ (n : ℕ). mix_one covered p n ys) (sym (add-zero k))
  mix_append k (x ∷ xs) ys =
      ap (λ (l : List Float). mix_at covered p k x ∷ l)
      (mix_append (suc k) xs ys ∙ ap (λ (n : ℕ). mix_one covered p (suc k) xs ++ mix_one covered p n ys) (suc-add k (length xs) ∙ sym (add-suc k (length xs))))

  -- where the note does not sound nothing changes
  pub mix_quiet : (k : ℕ) (xs : List Float) → ((j : ℕ) → k ≤ j → j < k + length xs → sounds_at j p ≡ false) → mix_one covered p k xs ≡ xs
  unfolding mix_one
  mix_quiet k [] q = refl
  mix_quiet k (x ∷ xs) q =
      ap₂ (λ (y : Float) (l : List Float). y ∷ l) (mix_false covered p k x (q k (omega arith) (omega arith)))
      (mix_quiet (suc k) xs (λ (j : ℕ) (a : suc k ≤ j) (b : j < suc k + length xs). q j (omega arith) (omega arith)))

  -- the same sides of `covered`
  same_side : (k i : ℕ) → ltb i (covered - k) ≡ ltb (k + i) covered
  same_side k i = go (ltb (k + i) covered) refl
    where
      go : (b : Bool) → ltb (k + i) covered ≡ b → ltb i (covered - k) ≡ ltb (k + i) covered
      go true e = lt-ltb i (covered - k) (omega (arith, ltb-true)) ∙ sym e
      go false e = le-ltb i (covered - k) (omega (arith, ltb-false)) ∙ sym e

  mixed_shift : (k i : ℕ) (x v w : Float) → v ≡ w → mixed (covered - k) i x v ≡ mixed covered (k + i) x w
  unfolding mixed
  mixed_shift k i x v w e = ap (λ (b : Bool). elim b as (λ c. Float) [ true ↦ add binary32 x v | false ↦ v ]) (same_side k i) ∙ ap (mixed covered (k + i) x) e

  module _ (k first : ℕ) (v : ℕ → Float) (b : p.start ≤ k) (e : first ≡ k - p.start) (s : (j : ℕ) → v j ≡ p.sound (first + j)) where
    -- where it sounds throughout, mixing by its own places is mixing
    mix_sounding : (i : ℕ) (xs : List Float) → k + i + length xs ≤ end_of p → mixed_from v (covered - k) i xs ≡ mix_one covered p (k + i) xs
    unfolding mixed_from mix_one
    mix_sounding i [] h = refl
    mix_sounding i (x ∷ xs) h =
        ap₂ (λ (y : Float) (l : List Float). y ∷ l)
        (mixed_shift k i x (v i) (p.sound (k + i - p.start)) (s i ∙ ap p.sound (omega arith)) ∙ sym (mix_true covered p (k + i) x (sounds_in (k + i) p (omega arith) (omega arith))))
        (mix_sounding (suc i) xs (omega arith) ∙ ap (λ (n : ℕ). mix_one covered p n xs) (add-suc k i))

  -- a slice's piece from a to e, mixed, and put back
  module _ (from a e : ℕ) (out piece : List Float) (ha : a ≡ p.start - from) (he : e ≡ min (end_of p - from) (length out)) (less : a < e)
      (mixes : piece ≡ mix_one covered p (from + a) (mid_of a (e - a) out)) where
    whole : out ≡ take a out ++ (mid_of a (e - a) out ++ post_of a (e - a) out)
    whole = sym (take-append-drop a out) ∙ ap (λ (l : List Float). take a out ++ l) (sym (take-append-drop (e - a) (drop a out)))

    head : length (take a out) ≡ a
    head = length-take-le a out (omega arith)

    middle : length (mid_of a (e - a) out) ≡ e - a
    middle = length-take-le (e - a) (drop a out) (omega (arith, length-drop a out))

    tail : length (post_of a (e - a) out) ≡ length out - e
    tail = ap length (Post-is a e out (le_of_lt less)) ∙ length-drop e out

    pub mix_piece : put_mid a (e - a) out piece ≡ mix_one covered p from out
    mix_piece =
        sym
        (ap (mix_one covered p from) whole
        ∙ mix_append from (take a out) (mid_of a (e - a) out ++ post_of a (e - a) out)
        ∙ ap₂ (λ (x y : List Float). x ++ y)
        (mix_quiet from (take a out) (λ (j : ℕ) (l : from ≤ j) (m : j < from + length (take a out)). sounds_before j p (omega (arith, head))))
        (mix_append (from + length (take a out)) (mid_of a (e - a) out) (post_of a (e - a) out)
        ∙ ap₂ (λ (x y : List Float). x ++ y) (ap (λ (n : ℕ). mix_one covered p (from + n) (mid_of a (e - a) out)) head ∙ sym mixes)
        (mix_quiet (from + length (take a out) + length (mid_of a (e - a) out)) (post_of a (e - a) out)
        (λ (j : ℕ) (l : from + length (take a out) + length (mid_of a (e - a) out) ≤ j) (m : j < from + length (take a out) + length (mid_of a (e - a) out) + length (post_of a (e - a) out)).
        sounds_after j p (omega (arith, head, middle, tail))))))

  -- a slice that has no such piece
  pub mix_none : (from : ℕ) (out : List Float) → min (end_of p - from) (length out) ≤ p.start - from → mix_one covered p from out ≡ out
  mix_none from out h = mix_quiet from out (λ (j : ℕ) (l : from ≤ j) (m : j < from + length out). go j l m (ltb j p.start) refl)
    where
      go : (j : ℕ) → from ≤ j → j < from + length out → (b : Bool) → ltb j p.start ≡ b → sounds_at j p ≡ false
      go j l m true t = sounds_before j p (omega (arith, ltb-true))
      go j l m false t = sounds_after j p (omega (arith, ltb-false))

-- `fill` on a piece in which the note sounds throughout
pub fill_mixes : (covered rate : ℕ) (by : Instrument) (n : Note) (start k first added : ℕ) (xs : List Float) → start ≤ k → k + length xs ≤ start + sounds_of rate by n
    → first ≡ k - start → added ≡ covered - k
    → filled by n.amplitude n.frequency n.duration rate first added xs ≡ mix_one covered (placed_note rate by n start) k xs
unfolding filled count_from sound_from placed_note
fill_mixes covered rate by n start k first added xs b h e g =
    let m = sounds_most rate by n in
    let all : min (length xs) (note_most - first) ≡ length xs = omega arith in
    let v = sound_from by n.amplitude n.frequency n.duration rate first in
    ap₂ (λ (c d : ℕ). mixed_from v d 0 (take c xs) ++ drop c xs) all g
    ∙ ap₂ (λ (x y : List Float). mixed_from v (covered - k) 0 x ++ y) (take-length xs) (drop-length xs)
    ∙ append-nil (mixed_from v (covered - k) 0 xs)
    ∙ mix_sounding covered (placed_note rate by n start) k first v b e (λ (j : ℕ). refl) 0 xs (omega arith)
    ∙ ap (λ (c : ℕ). mix_one covered (placed_note rate by n start) c xs) (add-zero k)

piece_starts : (start from lo : ℕ) → lo ≡ start - from → start ≤ from + lo
piece_starts start from lo h = omega arith

module _ (covered rate : ℕ) (by : Instrument) (n : Note) (start sounds from lo hi : ℕ) (out : List Float) (es : sounds ≡ sounds_of rate by n) (hl : lo ≡ start - from)
    (hh : hi ≡ min (start + sounds - from) (length out)) where
  ends : hi ≡ min (start + sounds_of rate by n - from) (length out)
  ends = hh ∙ ap (λ (m : ℕ). min (start + m - from) (length out)) es

  -- so `fill` on the piece that a slice has of a note is the note mixed into the slice
  module _ (less : lo < hi) where
    piece_length : length (mid_of lo (hi - lo) out) ≡ hi - lo
    piece_length = length-take-le (hi - lo) (drop lo out) (omega (arith, length-drop lo out))

    piece_end : from + lo + length (mid_of lo (hi - lo) out) ≤ start + sounds_of rate by n
    piece_end = omega (arith, piece_length)

    pub note_mixes : (first added : ℕ) (piece : List Float) → first ≡ from + lo - start → added ≡ covered - (from + lo)
        → piece ≡ filled by n.amplitude n.frequency n.duration rate first added (mid_of lo (hi - lo) out)
        → put_mid lo (hi - lo) out piece ≡ mix_one covered (placed_note rate by n start) from out
    unfolding placed_note
    note_mixes first added piece e g f =
        mix_piece covered (placed_note rate by n start) from lo hi out piece hl ends less
        (f ∙ fill_mixes covered rate by n start (from + lo) first added (mid_of lo (hi - lo) out) (piece_starts start from lo hl) piece_end e g)

  -- and a note that has no piece in a slice leaves it as it was
  pub note_none : hi ≤ lo → out ≡ mix_one covered (placed_note rate by n start) from out
  unfolding placed_note
  note_none h = sym (mix_none covered (placed_note rate by n start) from out (subst (λ (m : ℕ). m ≤ start - from) ends (subst (λ (m : ℕ). hi ≤ m) hl h)))

-- a note that has a piece in a slice sounds
pub note_sounds : (start sounds from lo to hi room : ℕ) → lo ≡ start - from → to ≡ start + sounds - from → hi ≡ min to room → lo < hi → 0 < sounds
note_sounds start sounds from lo to hi room a b c h = omega arith

-- where a note ends in a slice, with its samples counted or by definition
pub note_reach : (start sounds counted from to room : ℕ) → to ≡ start + sounds - from → sounds ≡ counted → min to room ≡ min (start + counted - from) room
note_reach start sounds counted from to room a b = omega arith
