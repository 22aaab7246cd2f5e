-- Laws of a note as it is written and laid down: the definition's refusals, and the columns with one more note. Assumes nothing.
use mathlib.Core.Path.{◌≡◌, refl, sym, ap, ap₂, ◌∙◌}
use mathlib.Core.Bool.{Bool, true, false}
use mathlib.Core.List.{List, [], ◌∷◌, ◌++◌}
use mathlib.Core.Option.{Option}
use Prim.Native.Nat.{ℕ, ◌+◌, ◌*◌, ◌≤◌, ◌<◌}
use native.Mathlib.Nat.{add-zero}
use native.Mathlib.Numerals.{add-one}
use native.Mathlib.Omega.{arith}
use lib.ListN.{length, take, drop, set, get_or, length-set, get_or-eq_default}
use lib.Seq.{take-suc-set, take-set-le, length-take-le, get_or-drop, get_or-set_same, get_or-set_other}
use lib.Ieee.{Float, nan, inf, fin, binary32, add, mul}
use borrow.Author.Tests.{le-leb, lt-leb, le-ltb, lt-ltb}
use Rattle.ieee.specs.Constants.{plus_zero}
use Rattle.std.specs.Prelude.{Result}
use Rattle.tone.specs.declared.time.Uncounted.{Uncounted}
use Rattle.tone.specs.Power.{frequency_of}
use Rattle.tone.specs.Time.{duration_of, length_of}
use Rattle.sheet.specs.declared.note.Note.{Note}
use Rattle.sheet.specs.Capacities.{notes_most}
use Rattle.sheet.specs.Refusals.{going, refused, ◌>>◌, refuse◌on◌unless◌}
use Rattle.environment.specs.declared.environment.Environment.{Environment}
use Rattle.keys.specs.declared.key.Accidental.{Accidental}
use Rattle.part.specs.declared.state.State.{State}
use Rattle.part.specs.Body.{Progress, Book, noted, with_notes}
use Rattle.columns.specs.Columns.{notes_in}
use Rattle.part.specs.Columns.{loops_in, progress_of, Room, Deep, Becomes, laid, refused_at}
use Rattle.sheet.specs.Lengths.{sounding_of, is_counted}
use Rattle.notes.specs.Notes.{semitone_of, amplitude_of, note_of}
use Rattle.columns.proofs.Columns.{notes_append, notes_front}
use Rattle.part.proofs.Columns.{notes_count, refused_becomes, going_becomes, with_counts}

-- ---- a note at the end of its part

module _ (line : ℕ) (n : Note) (p : Progress) where
  laid_full : notes_most ≤ p.others + length p.part.notes → laid line n p ≡ refused 21 line
  unfolding laid ◌>>◌ refuse◌on◌unless◌
  laid_full h = rw (le-ltb (p.others + length p.part.notes) notes_most h)

  laid_room : p.others + length p.part.notes < notes_most → laid line n p ≡ going (with_notes (p.part.notes ++ (n ∷ [])) p.part.loops p)
  unfolding laid ◌>>◌ refuse◌on◌unless◌
  laid_room h = rw (lt-ltb (p.others + length p.part.notes) notes_most h)

abbrev note_from : Float → Float → Float → ℕ → Note
note_from a f d i = record { amplitude = a; frequency = f; duration = d; instrument = i }

-- a column of numbers with three at a place
abbrev with_three : List Float → ℕ → Float → Float → Float → List Float
with_three fs at a f d = set (set (set fs at a) (at + 1) f) (at + 2) d

module _ (fs : List Float) (at : ℕ) (a f d : Float) where
  three_front : take at (with_three fs at a f d) ≡ take at fs
  three_front =
      take-set-le at (set (set fs at a) (at + 1) f) (at + 2) d (omega arith)
      ∙ take-set-le at (set fs at a) (at + 1) f (omega arith)
      ∙ take-set-le at fs at a (omega arith)

  three_length : length (with_three fs at a f d) ≡ length fs
  three_length = length-set (set (set fs at a) (at + 1) f) (at + 2) d ∙ length-set (set fs at a) (at + 1) f ∙ length-set fs at a

  module _ (h : at + 2 < length fs) where
    three_first : get_or (drop at (with_three fs at a f d)) 0 plus_zero ≡ a
    three_first =
        get_or-drop at (with_three fs at a f d) 0 plus_zero
        ∙ ap (λ (k : ℕ). get_or (with_three fs at a f d) k plus_zero) (add-zero at)
        ∙ get_or-set_other (set (set fs at a) (at + 1) f) (at + 2) at d plus_zero (λ e. omega (arith, e))
        ∙ get_or-set_other (set fs at a) (at + 1) at f plus_zero (λ e. omega (arith, e))
        ∙ get_or-set_same fs at a plus_zero (omega arith)

    three_second : get_or (drop at (with_three fs at a f d)) 1 plus_zero ≡ f
    three_second =
        get_or-drop at (with_three fs at a f d) 1 plus_zero
        ∙ get_or-set_other (set (set fs at a) (at + 1) f) (at + 2) (at + 1) d plus_zero (λ e. omega (arith, e))
        ∙ get_or-set_same (set fs at a) (at + 1) f plus_zero (omega (arith, length-set fs at a))

    three_third : get_or (drop at (with_three fs at a f d)) 2 plus_zero ≡ d
    three_third =
        get_or-drop at (with_three fs at a f d) 2 plus_zero
        ∙ get_or-set_same (set (set fs at a) (at + 1) f) (at + 2) d plus_zero (omega (arith, length-set (set fs at a) (at + 1) f, length-set fs at a))

    -- the one note of these numbers
    three_note : (i : ℕ) → notes_in (drop at (with_three fs at a f d)) (i ∷ []) ≡ note_from a f d i ∷ []
    unfolding notes_in
    three_note i = rw (three_first, three_second, three_third)

-- where the second and the third are set, there is room
module _ (s : State) (fs : List Float) (is : List ℕ) (room : Room s fs is) (a : Float) where
  pub second_place : s.others + s.count < notes_most → 3 * s.count + 1 < length (set fs (3 * s.count) a)
  second_place h = omega (arith, room.floats, length-set fs (3 * s.count) a)

  pub third_place : (f : Float) → s.others + s.count < notes_most
      → 3 * s.count + 2 < length (set (set fs (3 * s.count) a) (3 * s.count + 1) f)
  third_place f h = omega (arith, room.floats, length-set fs (3 * s.count) a, length-set (set fs (3 * s.count) a) (3 * s.count + 1) f)

module _ (s : State) (fs : List Float) (is ls : List ℕ) (room : Room s fs is) (deep : Deep s ls) (line : ℕ) (a f d : Float) (i : ℕ) where
  pub push_full : notes_most ≤ s.others + s.count → Becomes (laid line (note_from a f d i) (progress_of s fs is ls)) (refused_at s 21 line) fs is ls
  unfolding progress_of
  push_full h =
      refused_becomes s fs is ls room deep 20 line _
      (laid_full line (note_from a f d i) (progress_of s fs is ls) (omega (arith, h, notes_count s fs is ls room)))

  more_notes : s.others + s.count < notes_most
      → notes_in (with_three fs (3 * s.count) a f d) (take (s.count + 1) (set is s.count i))
      ≡ notes_in fs (take s.count is) ++ (note_from a f d i ∷ [])
  more_notes h =
      let n = s.count in
      let gs = with_three fs (3 * n) a f d in
      let m : length (take n is) ≡ n = length-take-le n is (omega (arith, room.few, room.instruments)) in
      ap (λ (k : ℕ). notes_in gs (take k (set is n i))) (add-one n)
      ∙ ap (notes_in gs) (take-suc-set is n i (omega (arith, room.instruments, h)))
      ∙ notes_append gs (take n is) (i ∷ [])
      ∙ ap₂ (λ (xs ys : List Note). xs ++ ys)
      (notes_front gs fs (take n is) (3 * n) (omega (arith, m)) (three_front fs (3 * n) a f d))
      (ap (λ (k : ℕ). notes_in (drop (3 * k) gs) (i ∷ [])) m ∙ three_note fs (3 * n) a f d (omega (arith, room.floats, h)) i)

  pub push_room : s.refusal ≡ 0 → s.others + s.count < notes_most
      → Becomes (laid line (note_from a f d i) (progress_of s fs is ls)) (with_counts s (s.count + 1) s.depth)
      (with_three fs (3 * s.count) a f d) (set is s.count i) ls
  unfolding progress_of
  push_room z h =
      going_becomes (with_counts s (s.count + 1) s.depth) _ _ ls
      (record {
        octave = room.octave;
        few = omega arith;
        floats = three_length fs (3 * s.count) a f d ∙ room.floats;
        instruments = length-set is s.count i ∙ room.instruments;
      })
      (record { few = deep.few; places = deep.places }) z _
      (laid_room line (note_from a f d i) (progress_of s fs is ls) (omega (arith, h, notes_count s fs is ls room))
      ∙ ap (λ (ns : List Note). going (with_notes ns (loops_in s.depth ls) (progress_of s fs is ls))) (sym (more_notes h)))

-- ---- a note as it is written

-- how long a note sounds
abbrev sounds : Book → Environment → ℕ → Option Accidental → ℕ → Bool → Result ℕ Uncounted
sounds book env letter acc v dot = sounding_of book.rate (get_or book.releases env.instrument nan) (note_of env letter acc v dot)

-- the definition's refusals, and where it makes none the last of its steps
module _ (book : Book) (line letter : ℕ) (acc : Option Accidental) (v : ℕ) (dot : Bool) (p : Progress) where
  note_low : v < 1 → noted book line letter acc v dot p ≡ refused 8 line
  unfolding noted ◌>>◌ refuse◌on◌unless◌
  note_low h = rw (lt-leb 1 v h)

  note_high : 1 ≤ v → 128 < v → noted book line letter acc v dot p ≡ refused 8 line
  unfolding noted ◌>>◌ refuse◌on◌unless◌
  note_high g h = rw (le-leb 1 v g, lt-leb v 128 h)

  module _ (g : 1 ≤ v) (h : v ≤ 128) where
    note_long : is_counted (sounds book p.part.env letter acc v dot) ≡ false → noted book line letter acc v dot p ≡ refused 24 line
    unfolding noted ◌>>◌ refuse◌on◌unless◌
    note_long e = rw (le-leb 1 v g, le-leb v 128 h, e)

    note_laid : is_counted (sounds book p.part.env letter acc v dot) ≡ true
        → noted book line letter acc v dot p ≡ laid line (note_of p.part.env letter acc v dot) p
    unfolding noted laid ◌>>◌ refuse◌on◌unless◌
    note_laid e = rw (le-leb 1 v g, le-leb v 128 h, e)

-- a release that is none makes no length
length_nan : (rate : ℕ) (x : Float) → is_counted (length_of rate (add binary32 x nan)) ≡ false
unfolding add length_of is_counted mul
length_nan rate nan = refl
length_nan rate (inf s) = refl
length_nan rate (fin s m e) = refl

-- the same in the code's terms: w is the value that the note has, and v the number that the code reads for it
module _ (book : Book) (line letter : ℕ) (acc : Option Accidental) (w : ℕ) (dot : Bool) (s : State) (fs : List Float) (is ls : List ℕ) (v : ℕ)
    (e : v ≡ w) where
  module _ (room : Room s fs is) (deep : Deep s ls) where
    pub written_low : v < 1 → Becomes (noted book line letter acc w dot (progress_of s fs is ls)) (refused_at s 8 line) fs is ls
    written_low h = refused_becomes s fs is ls room deep 7 line _ (note_low book line letter acc w dot (progress_of s fs is ls) (omega (arith, e, h)))

    pub written_high : 1 ≤ v → 128 < v → Becomes (noted book line letter acc w dot (progress_of s fs is ls)) (refused_at s 8 line) fs is ls
    written_high g h =
        refused_becomes s fs is ls room deep 7 line _
        (note_high book line letter acc w dot (progress_of s fs is ls) (omega (arith, e, g)) (omega (arith, e, h)))

  -- d is its duration
  module _ (g : 1 ≤ v) (h : v ≤ 128) (d : Float) (t : d ≡ duration_of s.env.tempo s.env.denominator v dot) where
    duration_same : d ≡ duration_of s.env.tempo s.env.denominator w dot
    duration_same = t ∙ ap (λ (k : ℕ). duration_of s.env.tempo s.env.denominator k dot) e

    sounds_is : (x : Float) → x ≡ get_or book.releases s.env.instrument nan
        → is_counted (sounds book s.env letter acc w dot) ≡ is_counted (length_of book.rate (add binary32 d x))
    unfolding sounding_of note_of
    sounds_is x r = sym (ap₂ (λ (y z : Float). is_counted (length_of book.rate (add binary32 y z))) duration_same r)

    -- an instrument that has no release
    pub written_past : Room s fs is → Deep s ls → length book.releases ≤ s.env.instrument
        → Becomes (noted book line letter acc w dot (progress_of s fs is ls)) (refused_at s 24 line) fs is ls
    unfolding progress_of
    written_past room deep past =
        refused_becomes s fs is ls room deep 23 line _
        (note_long book line letter acc w dot (progress_of s fs is ls) (omega (arith, e, g)) (omega (arith, e, h))
        (sounds_is nan (sym (get_or-eq_default book.releases nan past)) ∙ length_nan book.rate d))

    -- too long
    pub written_long : Room s fs is → Deep s ls
        → is_counted (length_of book.rate (add binary32 d (get_or book.releases s.env.instrument nan))) ≡ false
        → Becomes (noted book line letter acc w dot (progress_of s fs is ls)) (refused_at s 24 line) fs is ls
    unfolding progress_of
    written_long room deep long =
        refused_becomes s fs is ls room deep 23 line _
        (note_long book line letter acc w dot (progress_of s fs is ls) (omega (arith, e, g)) (omega (arith, e, h)) (sounds_is _ refl ∙ long))

    -- else what has come of laying it down has come of the note
    pub written_laid : is_counted (length_of book.rate (add binary32 d (get_or book.releases s.env.instrument nan))) ≡ true
        → (a f : Float) (k : ℕ) → a ≡ amplitude_of s.env letter → f ≡ frequency_of k → k ≡ semitone_of s.env letter acc
        → (s' : State) (fs' : List Float) (is' : List ℕ)
        → Becomes (laid line (note_from a f d s.env.instrument) (progress_of s fs is ls)) s' fs' is' ls
        → Becomes (noted book line letter acc w dot (progress_of s fs is ls)) s' fs' is' ls
    unfolding progress_of note_of
    written_laid short a f k ea ef ek s' fs' is' b =
        let same : note_from a f d s.env.instrument ≡ note_of s.env letter acc w dot =
        rw (ea, ef, ek, duration_same) in
        let l : laid line (note_from a f d s.env.instrument) (progress_of s fs is ls) ≡ noted book line letter acc w dot (progress_of s fs is ls) =
        ap (λ (n : Note). laid line n (progress_of s fs is ls)) same
        ∙ sym (note_laid book line letter acc w dot (progress_of s fs is ls) (omega (arith, e, g)) (omega (arith, e, h)) (sounds_is _ refl ∙ short)) in
        record { room = b.room; deep = b.deep; means = b.means ∙ l }
