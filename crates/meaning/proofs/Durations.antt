-- A note that 24 lets pass is one that a sheet handed in may have: its length counts, so its duration is no NaN, and then it is a time, since it is made of
-- quotients and products of numbers without a sign; and its instrument is there, since past the releases there is only a NaN. Assumes nothing.
use mathlib.Core.Path.{◌≡◌, refl, ap, subst, ◌∙◌}
use mathlib.Core.Bool.{Bool, true, false, not, cond}
use mathlib.Core.List.{List, [], ◌∷◌, ◌++◌}
use mathlib.Core.Option.{Option}
use Prim.Native.Nat.{ℕ, ◌*◌, ◌≤◌, ◌<◌}
use native.Mathlib.Nat.{lt_of_not-le}
use native.Mathlib.Omega.{arith}
use lib.Dec.{T, eqb, ltb}
use lib.IntN.{pos}
use lib.ListN.{length, get_or, length-map, length-append, get_or-eq_default, get_or-append}
use lib.Ieee.{Float, nan, inf, fin, binary32, up, down, add, mul, div, round, of_int}
use borrow.Author.Tests.{lt-ltb, ltb-true}
use Rattle.ieee.specs.Constants.{minute, dot_factor}
use Rattle.ieee.specs.Times.{is_time}
use Rattle.ieee.proofs.Nonnegative.{nonnegative, round_nonnegative}
use Rattle.tone.specs.Time.{duration_of, dotted_time, length_of}
use Rattle.instrument.specs.declared.machine.Instrument.{Instrument}
use Rattle.sheet.specs.declared.note.Note.{Note}
use Rattle.sheet.specs.Lengths.{sounding_of, is_counted}
use Rattle.sheet.specs.Parts.{releases_of}
use Rattle.sheet.proofs.Basics.{false_true, both}
use Rattle.environment.specs.declared.environment.Environment.{Environment}
use Rattle.keys.specs.declared.key.Accidental.{Accidental}
use Rattle.notes.specs.Notes.{note_of}
use Rattle.handed.specs.Check.{note_passes}

-- ---- no sign, or a NaN

abbrev unsigned : Float → Bool
unsigned nan = true
unsigned (inf s) = not s
unsigned (fin s m e) = not s

round_unsigned : (n d : ℕ) → T (unsigned (round binary32 false n d))
round_unsigned n d = go (round binary32 false n d) (round_nonnegative binary32 n d)
  where
    go : (x : Float) → T (nonnegative x) → T (unsigned x)
    go nan h = tt
    go (inf s) h = h
    go (fin s m e) h = h

nan_or : (b : Bool) (x : Float) → T (unsigned x) → T (unsigned (cond b nan x))
nan_or true x h = tt
nan_or false x h = h

either_unsigned : (b : Bool) (x y : Float) → T (unsigned x) → T (unsigned y) → T (unsigned (cond b x y))
either_unsigned true x y h i = h
either_unsigned false x y h i = i

mul_unsigned : (x y : Float) → T (unsigned x) → T (unsigned y) → T (unsigned (mul binary32 x y))
unfolding mul
mul_unsigned nan y h i = tt
mul_unsigned (inf true) y h i = absurd h
mul_unsigned (inf false) nan h i = tt
mul_unsigned (inf false) (inf true) h i = absurd i
mul_unsigned (inf false) (inf false) h i = tt
mul_unsigned (inf false) (fin true n d) h i = absurd i
mul_unsigned (inf false) (fin false n d) h i = nan_or (eqb n 0) (inf false) tt
mul_unsigned (fin true m e) y h i = absurd h
mul_unsigned (fin false m e) nan h i = tt
mul_unsigned (fin false m e) (inf true) h i = absurd i
mul_unsigned (fin false m e) (inf false) h i = nan_or (eqb m 0) (inf false) tt
mul_unsigned (fin false m e) (fin true n d) h i = absurd i
mul_unsigned (fin false m e) (fin false n d) h i = round_unsigned (m * up e * (n * up d)) (down e * down d)

div_unsigned : (x y : Float) → T (unsigned x) → T (unsigned y) → T (unsigned (div binary32 x y))
unfolding div
div_unsigned nan y h i = tt
div_unsigned (inf true) y h i = absurd h
div_unsigned (inf false) nan h i = tt
div_unsigned (inf false) (inf t) h i = tt
div_unsigned (inf false) (fin true n d) h i = absurd i
div_unsigned (inf false) (fin false n d) h i = tt
div_unsigned (fin true m e) y h i = absurd h
div_unsigned (fin false m e) nan h i = tt
div_unsigned (fin false m e) (inf true) h i = absurd i
div_unsigned (fin false m e) (inf false) h i = tt
div_unsigned (fin false m e) (fin true n d) h i = absurd i
div_unsigned (fin false m e) (fin false n d) h i =
    either_unsigned (eqb n 0) (cond (eqb m 0) nan (inf false)) (round binary32 false (m * up e * down d) (n * up d * down e))
    (nan_or (eqb m 0) (inf false) tt) (round_unsigned (m * up e * down d) (n * up d * down e))

whole_unsigned : (n : ℕ) → T (unsigned (of_int binary32 (pos n)))
unfolding of_int
whole_unsigned n = round_unsigned n 1

dotted_unsigned : (dot : Bool) (x : Float) → T (unsigned x) → T (unsigned (dotted_time dot x))
unfolding dotted_time
dotted_unsigned true x h = mul_unsigned x dot_factor h tt
dotted_unsigned false x h = h

-- whatever the tempo, the denominator and the value
duration_unsigned : (tempo denom value : ℕ) (dot : Bool) → T (unsigned (duration_of tempo denom value dot))
unfolding duration_of
duration_unsigned tempo denom value dot =
    dotted_unsigned dot _
    (mul_unsigned _ _ (div_unsigned minute (of_int binary32 (pos tempo)) tt (whole_unsigned tempo))
    (div_unsigned (of_int binary32 (pos denom)) (of_int binary32 (pos value)) (whole_unsigned denom) (whole_unsigned value)))

-- ---- what counts

-- a sum with a NaN has no length
nan_uncounted : (rate : ℕ) (x : Float) {A : Type 0} → is_counted (length_of rate (add binary32 x nan)) ≡ true → A
unfolding is_counted length_of add mul
nan_uncounted rate nan e = false_true e
nan_uncounted rate (inf s) e = false_true e
nan_uncounted rate (fin s m d) e = false_true e

counted_time : (rate : ℕ) (x r : Float) → T (unsigned x) → is_counted (length_of rate (add binary32 x r)) ≡ true → is_time x ≡ true
unfolding is_counted length_of add mul
counted_time rate nan r h e = false_true e
counted_time rate (inf true) r h e = absurd h
counted_time rate (inf false) r h e = refl
counted_time rate (fin true m d) r h e = absurd h
counted_time rate (fin false m d) r h e = refl

releases_append : (is js : List Instrument) → releases_of (is ++ js) ≡ releases_of is ++ releases_of js
unfolding releases_of
releases_append [] js = refl
releases_append (i ∷ is) js = ap {B = List Float} (λ rs. i.release ∷ rs) (releases_append is js)

releases_length : (is : List Instrument) → length (releases_of is) ≡ length is
unfolding releases_of
releases_length is = length-map is (λ (i : Instrument). i.release)

module _ (rate : ℕ) (is : List Instrument) where
  abbrev Counts : Note → Type 0
  Counts n = is_counted (sounding_of rate (get_or (releases_of is) n.instrument nan) n) ≡ true

  counted_known : (n : Note) → Counts n → n.instrument < length is
  unfolding sounding_of
  counted_known n e =
      lt_of_not-le
      (λ (h : length is ≤ n.instrument). nan_uncounted rate n.duration
      (subst (λ (x : Float). is_counted (length_of rate (add binary32 n.duration x)) ≡ true)
      (get_or-eq_default (releases_of is) nan (omega (arith, h, releases_length is))) e))

  -- a note that counts and has no sign passes
  counted_passes : (n : Note) → T (unsigned n.duration) → Counts n → note_passes rate is n ≡ true
  unfolding note_passes sounding_of
  counted_passes n u e =
      rw (lt-ltb n.instrument (length is) (counted_known n e), counted_time rate n.duration (get_or (releases_of is) n.instrument nan) u e) e

  pub note_passes_law : (v : Environment) (letter : ℕ) (a : Option Accidental) (value : ℕ) (dot : Bool) → Counts (note_of v letter a value dot)
      → note_passes rate is (note_of v letter a value dot) ≡ true
  unfolding note_of
  note_passes_law v letter a value dot e = counted_passes (note_of v letter a value dot) (duration_unsigned v.tempo v.denominator value dot) e

  -- and it does so still where there are more instruments behind these
  pub passes_more : (js : List Instrument) (n : Note) → note_passes rate is n ≡ true → note_passes rate (is ++ js) n ≡ true
  unfolding note_passes
  passes_more js n e =
      let a = both (ltb n.instrument (length is)) _ e in
      let b = both (is_time n.duration) _ a.1 in
      let k = ltb-true n.instrument (length is) a.0 in
      let same : get_or (releases_of (is ++ js)) n.instrument nan ≡ get_or (releases_of is) n.instrument nan =
      ap (λ (rs : List Float). get_or rs n.instrument nan) (releases_append is js)
      ∙ get_or-append (releases_of is) (releases_of js) nan n.instrument (omega (arith, k, releases_length is)) in
      rw (lt-ltb n.instrument (length (is ++ js)) (omega (arith, k, length-append is js)), b.0, same) b.1
