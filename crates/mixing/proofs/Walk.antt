-- Walking the parts and notes of a sheet in order: what is still to come, mixed into what stands, is the whole mixed into what stood at first.
-- Assumes nothing.
use mathlib.Core.Path.{◌≡◌, refl, sym, ap, ap₂, subst, ◌∙◌}
use mathlib.Core.List.{List, [], ◌∷◌, ◌++◌}
use Prim.Native.Nat.{ℕ, suc, ◌+◌, ◌-◌, ◌≤◌, ◌<◌, min, max}
use native.Mathlib.Numerals.{add-one}
use native.Mathlib.Omega.{arith}
use lib.ListN.{length, take, drop, get_or}
use lib.Seq.{slice, slice-cons, slice_empty}
use lib.Ieee.{Float}
use Rattle.instrument.specs.declared.machine.Instrument.{Instrument}
use Rattle.sheet.specs.declared.note.Note.{Note}
use Rattle.sheet.specs.declared.sheet.Sheet.{Sheet}
use Rattle.sheet.specs.Parts.{cut, parts_of, instruments_of}
use Rattle.sheet.proofs.Basics.{take_least}
use Rattle.handed.proofs.Cuts.{part_taken, part_left}
use Rattle.mixing.specs.Sounding.{Placed, end_of}
use Rattle.mixing.specs.Placing.{player_of, sounds_of, takes_of, placed_note, placed_from, placed_parts, placed}
use Rattle.mixing.specs.Mixing.{mix_one, mix_all}

-- ---- what is mixed so far

pub mix_length : (covered : ℕ) (p : Placed) (k : ℕ) (xs : List Float) → length (mix_one covered p k xs) ≡ length xs
unfolding mix_one
mix_length covered p k [] = refl
mix_length covered p k (x ∷ xs) = ap suc (mix_length covered p (suc k) xs)

-- mixing keeps a slice's length
pub mix_all_length : (covered : ℕ) (ps : List Placed) (k : ℕ) (xs : List Float) → length (mix_all covered ps k xs) ≡ length xs
unfolding mix_all
mix_all_length covered [] k xs = refl
mix_all_length covered (p ∷ ps) k xs = mix_all_length (max covered (end_of p)) ps k (mix_one covered p k xs) ∙ mix_length covered p k xs

-- mixing `rest` into out, with `covered`, is mixing `all` into out₀, with covered₀
pub record Going (from : ℕ) (all : List Placed) (covered₀ : ℕ) (out₀ : List Float) (rest : List Placed) (covered : ℕ) (out : List Float) : Type 0 where
  pub values : mix_all covered rest from out ≡ mix_all covered₀ all from out₀
  pub same : length out ≡ length out₀

module _ {from : ℕ} {all : List Placed} {covered₀ : ℕ} {out₀ : List Float} where
  pub going_start : Going from all covered₀ out₀ all covered₀ out₀
  going_start = record { values = refl; same = refl }

  module _ {covered : ℕ} {out : List Float} where
    pub going_same : {rest rest' : List Placed} → rest ≡ rest' → Going from all covered₀ out₀ rest covered out → Going from all covered₀ out₀ rest' covered out
    going_same e g = subst (λ (r : List Placed). Going from all covered₀ out₀ r covered out) e g

    pub going_on : {rest rest' : List Placed} {covered' : ℕ} {out' : List Float} → Going from all covered₀ out₀ rest covered out → Going from rest covered out rest' covered' out'
        → Going from all covered₀ out₀ rest' covered' out'
    going_on g h = record { values = h.values ∙ g.values; same = h.same ∙ g.same }

    pub going_more : {p : Placed} {rest : List Placed} → Going from all covered₀ out₀ (p ∷ rest) covered out
        → Going from all covered₀ out₀ rest (max covered (end_of p)) (mix_one covered p from out)
    unfolding mix_all
    going_more {p} {rest} g = record { values = g.values; same = mix_length covered p from out ∙ g.same }

    pub going_end : Going from all covered₀ out₀ [] covered out → out ≡ mix_all covered₀ all from out₀
    unfolding mix_all
    going_end g = g.values

-- ---- what is still to come

module _ (rate : ℕ) (is : List Instrument) (counts : List ℕ) (parts : ℕ) (notes : List Note) where
  -- from part p on, whose first note is note n
  abbrev pub at_part : ℕ → ℕ → List Placed
  at_part p n = placed_parts rate is (cut (slice p parts counts) (drop n notes))

  -- from note n on, at sample `at` of part p, whose last note is before `stop`
  abbrev pub at_note : ℕ → ℕ → ℕ → ℕ → List Placed
  at_note p n stop at = placed_from rate is at (slice n stop notes) ++ at_part (p + 1) stop

  -- a part begins: it has as many notes as it counts, or all that are left
  pub part_begins : (p n stop : ℕ) → p < parts → parts ≤ length counts → n ≤ length notes → stop ≡ n + min (get_or counts p 0) (length notes - n)
      → at_part p n ≡ at_note p n stop 0
  unfolding placed_parts cut
  part_begins p n stop h l m e =
      let c = get_or counts p 0 in
      let d = min c (length notes - n) in
      ap (λ (cs : List ℕ). placed_parts rate is (cut cs (drop n notes))) (slice-cons p parts counts 0 h l)
      ∙ ap₂ (λ (x y : List Note). placed_from rate is 0 x ++ placed_parts rate is (cut (slice (suc p) parts counts) y)) (part_taken notes n c d stop m refl e)
      (part_left notes n c d stop m refl e)
      ∙ ap (λ (q : ℕ). placed_from rate is 0 (slice n stop notes) ++ placed_parts rate is (cut (slice q parts counts) (drop stop notes))) (sym (add-one p))

  -- and ends
  pub part_ends : (p n stop at : ℕ) → n ≡ stop → at_note p n stop at ≡ at_part (p + 1) n
  unfolding placed_from
  part_ends p n stop at e =
      ap (λ (s : ℕ). at_note p n s at) (sym e)
      ∙ ap (λ (l : List Note). placed_from rate is at l ++ at_part (p + 1) n) (slice_empty n notes)

  -- a part whose notes are mixed, of an array of `room` counts and one of `most` notes
  pub part_done : {from covered₀ : ℕ} {all : List Placed} {out₀ : List Float} (room most counted : ℕ) → length counts ≡ room → length notes ≡ most → parts ≡ min counted room
      → (p n d m at covered covered' : ℕ) (out out' : List Float) → p < parts → n ≤ most → d ≡ min (get_or counts p 0) (most - n) → m ≡ n + d
      → Going from all covered₀ out₀ (at_part p n) covered out
      → Going from (at_note p n (n + d) 0) covered out (at_note p m (n + d) at) covered' out'
      → Going from all covered₀ out₀ (at_part (p + 1) m) covered' out'
  part_done room most counted lc ln lp p n d m at covered covered' out out' h b ed em g i =
      going_on
      (going_same
      (part_begins p n (n + d) h (omega arith) (omega arith) (ap (λ (k : ℕ). n + k) (ed ∙ ap (λ (k : ℕ). min (get_or counts p 0) (k - n)) (sym ln))))
      g)
      (going_same (part_ends p m (n + d) at em) i)

  -- after the last part nothing comes
  pub parts_end : (p n : ℕ) → p ≡ parts → at_part p n ≡ []
  unfolding placed_parts cut
  parts_end p n e =
      ap (λ (q : ℕ). at_part q n) e ∙ ap (λ (cs : List ℕ). placed_parts rate is (cut cs (drop n notes))) (slice_empty parts counts)

  -- a note
  pub note_next : (p n stop at : ℕ) (d : Note) → n < stop → stop ≤ length notes
      → at_note p n stop at
      ≡ placed_note rate (player_of is (get_or notes n d)) (get_or notes n d) at ∷ at_note p (n + 1) stop (at + takes_of rate (get_or notes n d))
  unfolding placed_from
  note_next p n stop at d h l =
      ap (λ (x : List Note). placed_from rate is at x ++ at_part (p + 1) stop) (slice-cons n stop notes d h l)
      ∙ ap
      (λ (k : ℕ).
      placed_note rate (player_of is (get_or notes n d)) (get_or notes n d) at
      ∷ (placed_from rate is (at + takes_of rate (get_or notes n d)) (slice k stop notes) ++ at_part (p + 1) stop))
      (sym (add-one n))

  -- one note of the walk
  pub note_step : {from covered₀ : ℕ} {all : List Placed} {out₀ : List Float} (p n stop at : ℕ) (note none : Note) (covered : ℕ) (out : List Float) (sounds took covered' : ℕ)
      (out' : List Float) → note ≡ get_or notes n none → n < stop → stop ≤ length notes
      → took ≡ takes_of rate note → sounds ≡ sounds_of rate (player_of is note) note → covered' ≡ max covered (at + sounds)
      → out' ≡ mix_one covered (placed_note rate (player_of is note) note at) from out
      → Going from all covered₀ out₀ (at_note p n stop at) covered out
      → Going from all covered₀ out₀ (at_note p (n + 1) stop (at + took)) covered' out'
  unfolding placed_note
  note_step p n stop at note none covered out sounds took covered' out' en h l et es ec eo g =
      rw (eo, ec, et, es, en) (going_more (going_same (note_next p n stop at none h l) g))

-- the walk begins at part 0: a count over the counts there are takes them all
pub sheet_begins : (rate parts : ℕ) (s : Sheet) → parts ≡ min s.parts (length s.counts)
    → placed rate s ≡ at_part rate (instruments_of s) s.counts parts s.notes 0 0
unfolding placed parts_of
sheet_begins rate parts s e =
    ap (λ (cs : List ℕ). placed_parts rate (instruments_of s) (cut cs s.notes)) (sym (take_least s.parts s.counts) ∙ ap (λ (k : ℕ). take k s.counts) (sym e))
