-- What was read into columns, laid out in the arrays of a sheet: its parts, how many notes each has, the notes and the instruments; and the empty sheet.
-- Assumes nothing.
use mathlib.Core.Path.{◌≡◌, refl, sym, ap, ap₂, ◌∙◌}
use mathlib.Core.List.{List, [], ◌∷◌, ◌++◌, map}
use Prim.Native.Nat.{ℕ, zero, suc, ◌+◌, ◌≤◌, max, min}
use native.Mathlib.Nat.{zero-min}
use native.Mathlib.Numerals.{add-one}
use native.Mathlib.Omega.{arith}
use lib.ListN.{length, take, drop, get_or, length-map}
use lib.Seq.{take_all, take-nil, drop-cons}
use lib.Ieee.{Float}
use Rattle.instrument.specs.declared.machine.Instrument.{Instrument}
use Rattle.sheet.specs.declared.note.Note.{Note}
use Rattle.sheet.specs.declared.sheet.Sheet.{Sheet}
use Rattle.sheet.specs.Padding.{padded, silence}
use Rattle.sheet.specs.Refusals.{going}
use Rattle.sheet.specs.Lengths.{end_of}
use Rattle.commands.specs.Commands.{instrument_of}
use Rattle.bank.specs.Bank.{lines_from}
use Rattle.layout.specs.Layout.{notes_at, notes_from, longest_from}
use Rattle.layout.proofs.Laid.{notes_many}
use Rattle.bank.proofs.Tables.{instruments_many}
use Rattle.meaning.specs.declared.reading.Reading.{Reading}
use Rattle.parser.specs.declared.sofar.Sofar.{Sofar}
use Rattle.meaning.specs.Parts.{NamedPart, notes_of}
use Rattle.meaning.specs.Sheets.{length_from}
use Rattle.parser.specs.Columns.{part_at, parts_from, Tables, read_in, Fits, Tabled}
use Rattle.meaning.specs.Layout.{sheet_of, laid_out}

-- ---- parts

module _ (s places : List ℕ) (q : Sofar) (fs : List Float) (is ls : List ℕ) where
  pub parts_many : (k n : ℕ) → length (parts_from s places q fs is ls k n) ≡ n
  unfolding parts_from
  parts_many k zero = refl
  parts_many k (suc n) = ap suc (parts_many (k + 1) n)

  parts_notes : (k n : ℕ) → notes_of (parts_from s places q fs is ls k n) ≡ notes_from q.counts fs is k n
  unfolding parts_from part_at notes_of notes_from
  parts_notes k zero = refl
  parts_notes k (suc n) = ap (λ (ns : List Note). notes_at q.counts fs is k ++ ns) (parts_notes (k + 1) n)

  pub parts_longest : (rate : ℕ) (rs : List Float) (k n : ℕ) → length_from rate rs (parts_from s places q fs is ls k n) ≡ longest_from q.counts fs is rate rs k n
  unfolding parts_from part_at length_from longest_from
  parts_longest rate rs k zero = refl
  parts_longest rate rs k (suc n) = ap (max (end_of rate rs 0 (notes_at q.counts fs is k))) (parts_longest rate rs (k + 1) n)

  module _ (w : Fits places q fs is ls) where
    -- a part has as many notes as its count says
    part_count : (k : ℕ) → k + 1 ≤ q.parts → length (notes_at q.counts fs is k) ≡ get_or q.counts k 0
    part_count k h =
        omega (arith, notes_many q.counts fs is k, w.counts k (omega (arith, h)), w.few, w.bytes_length, h)

    parts_counts : (k n : ℕ) → k + n ≤ q.parts
        → map (λ (p : NamedPart). length p.part.notes) (parts_from s places q fs is ls k n) ≡ take n (drop k q.counts)
    unfolding parts_from part_at
    parts_counts k zero h = refl
    parts_counts k (suc n) h =
        let next : k + 1 ≡ suc k = add-one k in
        ap₂ (λ (c : ℕ) (cs : List ℕ). c ∷ cs)
        (part_count k (omega (arith, h)))
        (parts_counts (k + 1) n (omega (arith, h)) ∙ ap (λ (j : ℕ). take n (drop j q.counts)) next)
        ∙ ap (take (suc n)) (sym (drop-cons q.counts k 0 (omega (arith, h, w.few, w.counts_length))))

    notes_few : take 2048 (notes_from q.counts fs is 0 q.parts) ≡ notes_from q.counts fs is 0 q.parts
    notes_few = take_all 2048 (notes_from q.counts fs is 0 q.parts) (omega (arith, w.all, w.notes))

-- ---- the sheet

abbrev sheet_of_law : ℕ → List ℕ → List Note → ℕ → List Instrument → Sheet
sheet_of_law parts counts notes instruments table = record { parts = parts; counts = counts; notes = notes; instruments = instruments; table = table }

-- field by field
sheet_same : (a a' : ℕ) (cs cs' : List ℕ) (ns ns' : List Note) (b b' : ℕ) (ts ts' : List Instrument) → a ≡ a' → cs ≡ cs' → ns ≡ ns' → b ≡ b' → ts ≡ ts'
    → sheet_of_law a cs ns b ts ≡ sheet_of_law a' cs' ns' b' ts'
sheet_same a a' cs cs' ns ns' b b' ts ts' e f g h i =
    ap (λ (x : ℕ). sheet_of_law x cs ns b ts) e
    ∙ ap (λ (x : List ℕ). sheet_of_law a' x ns b ts) f
    ∙ ap (λ (x : List Note). sheet_of_law a' cs' x b ts) g
    ∙ ap (λ (x : ℕ). sheet_of_law a' cs' ns' x ts) h
    ∙ ap (λ (x : List Instrument). sheet_of_law a' cs' ns' b' x) i

module _ (s places : List ℕ) (q : Sofar) (fs : List Float) (is ls : List ℕ) (t : Tables) (w : Fits places q fs is ls) (g : Tabled q t) (many : ℕ) (m : many ≡ q.instruments + 1) where
  pub sheet_laid : (cs : List ℕ) (ns : List Note) (ts : List Instrument) → cs ≡ padded 16 0 (take q.parts q.counts)
      → ns ≡ padded 2048 silence (take 2048 (notes_from q.counts fs is 0 (min q.parts 16)))
      → ts ≡ padded 32 (instrument_of []) (map instrument_of (lines_from t.sizes t.numbers t.shape 0 (min many 32)))
      → ◌≡◌ {A = Reading} (record { refusal = 0; line = 0; steps = q.steps; sheet = sheet_of_law q.parts cs ns many ts }) (laid_out (going (read_in s places q fs is ls t)))
  unfolding laid_out sheet_of read_in
  sheet_laid cs ns ts e f h =
      let parts : min q.parts 16 ≡ q.parts = omega (arith, w.few) in
      let few : min many 32 ≡ q.instruments + 1 = omega (arith, m, g.instruments_few) in
      let lines = lines_from t.sizes t.numbers t.shape 0 in
      ap (λ (x : Sheet). record { refusal = 0; line = 0; steps = q.steps; sheet = x })
      (sheet_same _ _ _ _ _ _ _ _ _ _
      (sym (parts_many s places q fs is ls 0 q.parts))
      (e ∙ ap (padded 16 0) (sym (parts_counts s places q fs is ls w 0 q.parts (omega arith))))
      (f
      ∙ ap (λ (n : ℕ). padded 2048 silence (take 2048 (notes_from q.counts fs is 0 n))) parts
      ∙ ap (padded 2048 silence) (notes_few s places q fs is ls w ∙ sym (parts_notes s places q fs is ls 0 q.parts)))
      (m ∙ sym (sym (length-map (lines (q.instruments + 1)) instrument_of) ∙ instruments_many t.sizes t.numbers t.shape (q.instruments + 1)))
      (h ∙ ap (λ (n : ℕ). padded 32 (instrument_of []) (map instrument_of (lines n))) few))

-- nothing is laid out
pub sheet_empty : (counts : List ℕ) (fs xs : List Float) (is zs ss : List ℕ) (cs : List ℕ) (ns : List Note) (ts : List Instrument) → cs ≡ padded 16 0 (take 0 counts)
    → ns ≡ padded 2048 silence (take 2048 (notes_from counts fs is 0 (min 0 16)))
    → ts ≡ padded 32 (instrument_of []) (map instrument_of (lines_from zs xs ss 0 (min 0 32)))
    → sheet_of_law 0 cs ns 0 ts ≡ sheet_of [] []
unfolding sheet_of notes_of notes_from lines_from
sheet_empty counts fs xs is zs ss cs ns ts e f h =
    sheet_same _ _ _ _ _ _ _ _ _ _ refl e
    (f ∙ ap (λ (n : ℕ). padded 2048 silence (take 2048 (notes_from counts fs is 0 n))) (zero-min 16) ∙ ap (padded 2048 silence) (take-nil 2048))
    refl
    (h ∙ ap (λ (n : ℕ). padded 32 (instrument_of []) (map instrument_of (lines_from zs xs ss 0 n))) (zero-min 32))
