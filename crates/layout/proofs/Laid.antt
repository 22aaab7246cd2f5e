-- The notes of the parts laid into one array: the part k is read up to its note i, and n notes stand in front. Assumes nothing.
use mathlib.Core.Path.{◌≡◌, refl, sym, ap, ◌∙◌}
use mathlib.Core.List.{List, [], ◌∷◌, ◌++◌}
use Prim.Native.Nat.{ℕ, zero, suc, ◌+◌, ◌-◌, ◌*◌, ◌≤◌, ◌<◌, min}
use native.Mathlib.Nat.{add-zero}
use native.Mathlib.Omega.{arith}
use lib.ListN.{length, take, drop, get_or, set, length-take, length-drop, length-append, get_or-append}
use lib.Seq.{take_all, drop-nil, drop_at, drop-drop, get_or-take, get_or-drop}
use lib.Ieee.{Float}
use Rattle.ieee.specs.Constants.{plus_zero}
use Rattle.sheet.specs.declared.note.Note.{Note}
use Rattle.sheet.specs.Padding.{padded, silence}
use Rattle.columns.specs.Columns.{notes_in}
use Rattle.columns.proofs.Columns.{notes_length}
use Rattle.layout.specs.Layout.{notes_at, notes_from}
use Rattle.layout.specs.Regions.{region}
use Rattle.layout.proofs.Cuts.{region_length, region_get}
use Rattle.layout.proofs.Fills.{filled_next}

-- ---- one note

-- the note of three numbers from the place k on
abbrev note_from_law : List Float → ℕ → ℕ → Note
note_from_law fs k j = record { amplitude = get_or fs k plus_zero; frequency = get_or fs (k + 1) plus_zero; duration = get_or fs (k + 2) plus_zero; instrument = j }

-- three numbers that stand k places behind others
note_moved : (fs gs : List Float) (k m j : ℕ) → ((a : ℕ) → a ≤ 2 → get_or gs (k + a) plus_zero ≡ get_or fs (m + a) plus_zero) → note_from_law gs k j ≡ note_from_law fs m j
note_moved fs gs k m j h =
    let first : get_or gs k plus_zero ≡ get_or fs m plus_zero =
    ap (λ (i : ℕ). get_or gs i plus_zero) (sym (add-zero k)) ∙ h 0 (omega arith) ∙ ap (λ (i : ℕ). get_or fs i plus_zero) (add-zero m) in
    rw (first, h 1 (omega arith), h 2 (omega arith))

note_get : (fs : List Float) (is : List ℕ) (i : ℕ) → i < length is → get_or (notes_in fs is) i silence ≡ note_from_law fs (3 * i) (get_or is i 0)
unfolding notes_in
note_get fs [] i h = absurd (omega (arith, h))
note_get fs (j ∷ is) zero h = refl
note_get fs (j ∷ is) (suc i) h =
    note_get (drop 3 fs) is i (omega (arith, h))
    ∙ note_moved fs (drop 3 fs) (3 * i) (3 * suc i) (get_or is i 0)
    (λ a l. get_or-drop 3 fs (3 * i + a) plus_zero ∙ ap (λ (k : ℕ). get_or fs k plus_zero) (let z : 3 + (3 * i + a) ≡ 3 * suc i + a = omega arith in z))

-- ---- the notes of one part

module _ (counts : List ℕ) (fs : List Float) (is : List ℕ) where
  pub notes_many : (k : ℕ) → length (notes_at counts fs is k) ≡ min (get_or counts k 0) (min 2048 (length is - 2048 * k))
  unfolding notes_at
  notes_many k =
      notes_length (region 6144 k fs) (take (get_or counts k 0) (region 2048 k is))
      ∙ length-take (get_or counts k 0) (region 2048 k is)
      ∙ ap (min (get_or counts k 0)) (region_length 2048 k is)

  notes_get : (k i : ℕ) → i < length (notes_at counts fs is k) → note_from_law fs (6144 * k + 3 * i) (get_or is (2048 * k + i) 0) ≡ get_or (notes_at counts fs is k) i silence
  unfolding notes_at
  notes_get k i h =
      let count = get_or counts k 0 in
      let gs = region 6144 k fs in
      let js = take count (region 2048 k is) in
      let m = notes_many k in
      let instrument : get_or js i 0 ≡ get_or is (2048 * k + i) 0 =
      get_or-take count (region 2048 k is) i 0 (omega (arith, h, m)) ∙ region_get 2048 k is i (2048 * k + i) 0 (omega (arith, h, m)) refl in
      sym
      (note_get gs js i (omega (arith, h, notes_length gs js))
      ∙ note_moved fs gs (3 * i) (6144 * k + 3 * i) (get_or js i 0)
      (λ a l. region_get 6144 k fs (3 * i + a) (6144 * k + 3 * i + a) plus_zero (omega (arith, h, m, l)) (omega arith))
      ∙ ap (note_from_law fs (6144 * k + 3 * i)) instrument)

-- ---- the notes of all parts

-- elements at which the same is left
same_next : (xs ys : List Note) (n i : ℕ) → drop n xs ≡ drop i ys → get_or xs n silence ≡ get_or ys i silence
same_next xs ys n i e =
    ap (λ (k : ℕ). get_or xs k silence) (sym (add-zero n))
    ∙ sym (get_or-drop n xs 0 silence)
    ∙ ap (λ (l : List Note). get_or l 0 silence) e
    ∙ get_or-drop i ys 0 silence
    ∙ ap (λ (k : ℕ). get_or ys k silence) (add-zero i)

-- the array of the first parts
abbrev pub all_of : List ℕ → List Float → List ℕ → ℕ → List Note
all_of counts fs is most = padded 2048 silence (take 2048 (notes_from counts fs is 0 most))

module _ (counts : List ℕ) (fs : List Float) (is : List ℕ) (most : ℕ) where
  abbrev all : List Note
  all = notes_from counts fs is 0 most

  -- n notes are laid, and those from the note i of the part k on are left
  pub record Laying (k i n : ℕ) (notes : List Note) : Type 0 where
    pub room : n ≤ 2048
    within : i ≤ length (notes_at counts fs is k)
    lies : notes ≡ padded 2048 silence (take n all)
    left : drop n all ≡ drop i (notes_from counts fs is k (most - k))

  from_part_law : (k : ℕ) → k < most → notes_from counts fs is k (most - k) ≡ notes_at counts fs is k ++ notes_from counts fs is (k + 1) (most - (k + 1))
  unfolding notes_from
  from_part_law k h = let m : most - k ≡ suc (most - (k + 1)) = omega arith in ap (notes_from counts fs is k) m

  pub laying_start : (notes : List Note) → notes ≡ padded 2048 silence [] → Laying 0 0 0 notes
  laying_start notes e =
      record { room = omega arith; within = omega arith; lies = e; left = ap (notes_from counts fs is 0) (let z : most ≡ most - 0 = omega arith in z) }

  module _ (k i n : ℕ) (notes : List Note) (g : Laying k i n notes) where
    pub laying_part : (many : ℕ) → k < most → many ≡ min (get_or counts k 0) (min 2048 (length is - 2048 * k)) → many ≤ i → Laying (k + 1) 0 n notes
    laying_part many h m l =
        let end : length (notes_at counts fs is k) ≡ i = omega (arith, notes_many counts fs is k, m, l, g.within) in
        record {
          room = g.room;
          within = omega arith;
          lies = g.lies;
          left = g.left ∙ ap (drop i) (from_part_law k h) ∙ drop_at (notes_at counts fs is k) (notes_from counts fs is (k + 1) (most - (k + 1))) i end;
        }

    pub laying_note : (many : ℕ) (x : Note) → k < most → many ≡ min (get_or counts k 0) (min 2048 (length is - 2048 * k)) → i < many → n < 2048
        → x ≡ note_from_law fs (6144 * k + 3 * i) (get_or is (2048 * k + i) 0) → Laying k (i + 1) (n + 1) (set notes n x)
    laying_note many x h m l r e =
        let here = notes_at counts fs is k in
        let rest = notes_from counts fs is (k + 1) (most - (k + 1)) in
        let more = notes_from counts fs is k (most - k) in
        let inside : i < length here = omega (arith, notes_many counts fs is k, m, l) in
        let long : length more ≡ length here + length rest = ap length (from_part_law k h) ∙ length-append here rest in
        let there : length all - n ≡ length more - i = sym (length-drop n all) ∙ ap length g.left ∙ length-drop i more in
        let next : x ≡ get_or all n silence =
        e
        ∙ notes_get counts fs is k i inside
        ∙ sym (get_or-append here rest silence i inside)
        ∙ ap (λ (l : List Note). get_or l i silence) (sym (from_part_law k h))
        ∙ sym (same_next all more n i g.left) in
        record {
          room = omega (arith, r);
          within = omega (arith, inside);
          lies = filled_next 2048 silence silence all notes n x (omega (arith, inside, long, there)) r next g.lies;
          left = sym (drop-drop 1 n all) ∙ ap (drop 1) g.left ∙ drop-drop 1 i more;
        }

    -- the array is full, or no part is left
    pub laying_full : 2048 ≤ n → notes ≡ all_of counts fs is most
    laying_full h = g.lies ∙ ap (λ (j : ℕ). padded 2048 silence (take j all)) (let z : n ≡ 2048 = omega (arith, h, g.room) in z)

    pub laying_end : most ≤ k → notes ≡ all_of counts fs is most
    unfolding notes_from
    laying_end h =
        let z : most - k ≡ 0 = omega arith in
        let none : drop n all ≡ [] = g.left ∙ ap (λ (j : ℕ). drop i (notes_from counts fs is k j)) z ∙ drop-nil i in
        let few : length all - n ≡ 0 = sym (length-drop n all) ∙ ap length none in
        g.lies ∙ ap (padded 2048 silence) (take_all n all (omega (arith, few)) ∙ sym (take_all 2048 all (omega (arith, few, g.room))))
