-- The notes of a sheet in their places. Their largest end is the sheet's length; and where each takes no more samples than it sounds, each starts at or
-- before the largest end so far, since a part's next note starts within the one before it. Assumes nothing.
use mathlib.Core.Path.{◌≡◌, sym, ap, subst, ◌∙◌}
use mathlib.Core.List.{List, [], ◌∷◌, ◌++◌}
use Prim.Native.Nat.{ℕ, suc, ◌+◌, ◌≤◌, ◌<◌, max}
use native.Mathlib.Omega.{arith}
use lib.ListN.{length, take, drop, get_or, length-take, length-drop, get_or-map}
use lib.Seq.{get_or-take, get_or-drop}
use lib.Ieee.{Float, nan}
use Rattle.instrument.specs.declared.machine.Instrument.{Instrument}
use Rattle.sheet.specs.declared.note.Note.{Note}
use Rattle.sheet.specs.declared.sheet.Sheet.{Sheet}
use Rattle.sheet.specs.Lengths as lengths
use Rattle.sheet.specs.Lengths.{sounding_of, samples_of, longest_of}
use Rattle.sheet.specs.Parts.{cut, counts_of, parts_of, total, instruments_of, releases_of, length_of}
use Rattle.mixing.specs.Sounding.{Placed}
use Rattle.mixing.specs.Placing.{nobody, player_of, sounds_of, takes_of, placed_note, placed_from, placed_parts, placed}
use Rattle.evaluator.proofs.Fronts.{Joined, none, more, last_end}

module _ (rate : ℕ) (is : List Instrument) where
  pub sounds_same : (n : Note) → sounds_of rate (player_of is n) n ≡ samples_of (sounding_of rate (get_or (releases_of is) n.instrument nan) n)
  unfolding releases_of
  sounds_same n = ap (λ (r : Float). samples_of (sounding_of rate r n)) (sym (get_or-map (λ (i : Instrument). i.release) is n.instrument nobody))

  -- ---- the largest end

  end_from : (c start : ℕ) (ns : List Note) (rest : List Placed)
      → last_end c (placed_from rate is start ns ++ rest) ≡ last_end (max c (lengths.end_of rate (releases_of is) start ns)) rest
  unfolding placed_from placed_note last_end lengths.end_of
  end_from c start [] rest = ap (λ (k : ℕ). last_end k rest) (let z : c ≡ max c 0 = omega arith in z)
  end_from c start (n ∷ ns) rest =
      let a = start + sounds_of rate (player_of is n) n in
      let b = lengths.end_of rate (releases_of is) (start + takes_of rate n) ns in
      end_from (max c a) (start + takes_of rate n) ns rest
      ∙ ap (λ (k : ℕ). last_end k rest) (let z : max (max c a) b ≡ max c (max a b) = omega arith in z)
      ∙ ap (λ (k : ℕ). last_end (max c (max (start + k) b)) rest) (sounds_same n)

  end_parts : (c : ℕ) (parts : List (List Note)) → last_end c (placed_parts rate is parts) ≡ max c (longest_of rate (releases_of is) parts)
  unfolding placed_parts last_end longest_of
  end_parts c [] = omega arith
  end_parts c (ns ∷ parts) =
      end_from c 0 ns (placed_parts rate is parts)
      ∙ end_parts (max c (lengths.end_of rate (releases_of is) 0 ns)) parts
      ∙ (let z : max (max c (lengths.end_of rate (releases_of is) 0 ns)) (longest_of rate (releases_of is) parts) ≡ max c (max (lengths.end_of rate (releases_of is) 0 ns) (longest_of rate (releases_of is) parts)) = omega arith in z)

  -- ---- notes that sound at least as long as they take

  abbrev pub Longer : Note → Type 0
  Longer n = takes_of rate n ≤ sounds_of rate (player_of is n) n

  joined_from : (covered start : ℕ) (ns : List Note) (rest : List Placed) → start ≤ covered
      → ((i : ℕ) (d : Note) → i < length ns → Longer (get_or ns i d)) → ((c : ℕ) → Joined c rest)
      → Joined covered (placed_from rate is start ns ++ rest)
  unfolding placed_from placed_note
  joined_from covered start [] rest h s j = j covered
  joined_from covered start (n ∷ ns) rest h s j =
      let l = s 0 n (omega arith) in
      let e = start + sounds_of rate (player_of is n) n in
      more h (joined_from (max covered e) (start + takes_of rate n) ns rest (omega arith) (λ (i : ℕ) (d : Note) (k : i < length ns). s (suc i) d (omega arith)) j)

  joined_parts : (cs : List ℕ) (notes : List Note) → ((i : ℕ) (d : Note) → i < total cs → i < length notes → Longer (get_or notes i d)) → (covered : ℕ)
      → Joined covered (placed_parts rate is (cut cs notes))
  unfolding placed_parts cut total
  joined_parts [] notes s covered = none
  joined_parts (c ∷ cs) notes s covered =
      joined_from covered 0 (take c notes) (placed_parts rate is (cut cs (drop c notes))) (omega arith)
      (λ (i : ℕ) (d : Note) (k : i < length (take c notes)).
      let m : i < c = omega (arith, length-take c notes) in
      subst Longer (sym (get_or-take c notes i d m)) (s i d (omega arith) (omega (arith, length-take c notes))))
      (joined_parts cs (drop c notes) (λ (i : ℕ) (d : Note) (k : i < total cs) (l : i < length (drop c notes)).
      subst Longer (sym (get_or-drop c notes i d)) (s (c + i) d (omega arith) (omega (arith, length-drop c notes)))))

module _ (rate : ℕ) (s : Sheet) where
  -- the largest end of the notes is the sheet's length
  pub sheet_end : last_end 0 (placed rate s) ≡ length_of rate s
  unfolding placed length_of
  sheet_end = end_parts rate (instruments_of s) 0 (parts_of s) ∙ (let z : max 0 (longest_of rate (releases_of (instruments_of s)) (parts_of s)) ≡ longest_of rate (releases_of (instruments_of s)) (parts_of s) = omega arith in z)

  -- and each starts at or before the largest end so far
  pub sheet_joined : ((i : ℕ) (d : Note) → i < total (counts_of s) → i < length s.notes → Longer rate (instruments_of s) (get_or s.notes i d)) → Joined 0 (placed rate s)
  unfolding placed parts_of
  sheet_joined h = joined_parts rate (instruments_of s) (counts_of s) s.notes h 0
