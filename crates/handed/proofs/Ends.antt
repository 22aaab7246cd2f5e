-- The sheet's length while its parts and their notes are gone through: the largest end so far, and the largest of what is still to come, is the whole.
-- A count past the notes takes those that there are. Assumes nothing.
use mathlib.Core.Path.{◌≡◌, sym, ap, ap₂, ◌∙◌}
use mathlib.Core.List.{List}
use Prim.Native.Nat.{ℕ, suc, ◌+◌, ◌-◌, ◌≤◌, ◌<◌, min, max}
use native.Mathlib.Numerals.{add-one}
use native.Mathlib.Omega.{arith}
use lib.ListN.{length, drop, get_or}
use lib.Seq.{slice, slice-cons, slice_empty}
use lib.Ieee.{Float, nan, binary32, add}
use Rattle.tone.specs.Time.{length_of}
use Rattle.sheet.specs.declared.note.Note.{Note}
use Rattle.sheet.specs.Lengths.{sounding_of, samples_of, end_of, longest_of}
use Rattle.sheet.specs.Parts.{cut}
use Rattle.handed.proofs.Cuts.{part_taken, part_left}

module _ (rate : ℕ) (releases : List Float) (counts : List ℕ) (parts : ℕ) (notes : List Note) where
  -- the largest end of the parts from p on, whose notes begin at n
  abbrev pub from_part : ℕ → ℕ → ℕ
  from_part p n = longest_of rate releases (cut (slice p parts counts) (drop n notes))

  -- and of the notes from n on of part p, which end at stop, and of the parts behind it
  abbrev pub from_note : ℕ → ℕ → ℕ → ℕ → ℕ
  from_note p n stop start = max (end_of rate releases start (slice n stop notes)) (from_part (p + 1) stop)

  pub part_begins : (p n m stop : ℕ) → p < parts → parts ≤ length counts → n ≤ length notes → m ≡ min (get_or counts p 0) (length notes - n) → stop ≡ n + m
      → from_part p n ≡ from_note p n stop 0
  unfolding cut longest_of
  part_begins p n m stop h l k f e =
      let c = get_or counts p 0 in
      ap (λ (cs : List ℕ). longest_of rate releases (cut cs (drop n notes))) (slice-cons p parts counts 0 h l)
      ∙ ap₂
      (λ (x y : List Note). max (end_of rate releases 0 x) (longest_of rate releases (cut (slice (suc p) parts counts) y)))
      (part_taken notes n c m stop k f e)
      (part_left notes n c m stop k f e)
      ∙ ap (λ (q : ℕ). max (end_of rate releases 0 (slice n stop notes)) (longest_of rate releases (cut (slice q parts counts) (drop stop notes)))) (sym (add-one p))

  pub part_ends : (p n stop start : ℕ) → n ≡ stop → from_note p n stop start ≡ from_part (p + 1) n
  unfolding end_of
  part_ends p n stop start e =
      let none : end_of rate releases start (slice n n notes) ≡ 0 = ap (end_of rate releases start) (slice_empty n notes) in
      ap (λ (s : ℕ). from_note p n s start) (sym e) ∙ omega (arith, none)

  -- behind the last part nothing comes
  pub parts_end : (p n : ℕ) → p ≡ parts → from_part p n ≡ 0
  unfolding cut longest_of
  parts_end p n e =
      ap (λ (q : ℕ). from_part q n) e ∙ ap (λ (cs : List ℕ). longest_of rate releases (cut cs (drop n notes))) (slice_empty parts counts)

  module _ (p n stop start : ℕ) (d : Note) (h : n < stop) (l : stop ≤ length notes) where
    next : end_of rate releases start (slice n stop notes)
        ≡ max
        (start + samples_of (length_of rate (add binary32 (get_or notes n d).duration (get_or releases (get_or notes n d).instrument nan))))
        (end_of rate releases (start + samples_of (length_of rate (get_or notes n d).duration)) (slice (n + 1) stop notes))
    unfolding end_of sounding_of
    next =
        ap (end_of rate releases start) (slice-cons n stop notes d h l)
        ∙ ap
        (λ (k : ℕ).
        max
        (start + samples_of (length_of rate (add binary32 (get_or notes n d).duration (get_or releases (get_or notes n d).instrument nan))))
        (end_of rate releases (start + samples_of (length_of rate (get_or notes n d).duration)) (slice k stop notes)))
        (sym (add-one n))

    pub note_ends : (whole end end' : ℕ) (r : Float) (a b : ℕ) → r ≡ get_or releases (get_or notes n d).instrument nan
        → a ≡ samples_of (length_of rate (add binary32 (get_or notes n d).duration r)) → b ≡ samples_of (length_of rate (get_or notes n d).duration)
        → end' ≡ max end (start + a) → max end (from_note p n stop start) ≡ whole → max end' (from_note p (n + 1) stop (start + b)) ≡ whole
    note_ends whole end end' r a b er ea eb ee g =
        let sounds : a ≡ samples_of (length_of rate (add binary32 (get_or notes n d).duration (get_or releases (get_or notes n d).instrument nan))) =
        ea ∙ ap (λ (x : Float). samples_of (length_of rate (add binary32 (get_or notes n d).duration x))) er in
        let rest = ap (λ (k : ℕ). end_of rate releases (start + k) (slice (n + 1) stop notes)) eb in
        omega (arith, next, sounds, rest, ee, g)
