-- The arrays of a sheet that is laid out, as lists again: the first so many counts, notes and instruments are what was laid down, since what says nothing
-- stands behind. So the length of the sheet is the one that 27 looks at. Assumes nothing.
use mathlib.Core.Path.{◌≡◌, refl, sym, ap, ap₂, ◌∙◌}
use mathlib.Core.List.{List, [], ◌∷◌, ◌++◌, map, append_assoc}
use Prim.Native.Nat.{ℕ, ◌+◌, ◌-◌, max}
use lib.ListN.{length, take, drop, replicate, length-append, length-map}
use lib.Seq.{take_at, drop_at}
use lib.Ieee.{Float}
use Rattle.tree.specs.Lines.{Line, release_of}
use Rattle.commands.specs.Commands.{instrument_of}
use Rattle.sheet.specs.declared.note.Note.{Note}
use Rattle.sheet.specs.Capacities.{parts_most, notes_most, instruments_most}
use Rattle.sheet.specs.Padding.{padded, silence}
use Rattle.sheet.specs.Lengths.{end_of, longest_of}
use Rattle.sheet.specs.Parts.{cut, counts_of, parts_of, total, instruments_of, releases_of, length_of}
use Rattle.meaning.specs.Parts.{NamedPart, notes_of}
use Rattle.meaning.specs.Sheets.{Read, length_from, length_read}
use Rattle.meaning.specs.Layout.{sheet_of}

-- what was laid down stands first
front : {A : Type 0} (n k : ℕ) (z : A) (xs : List A) → length xs ≡ k → take k (padded n z xs) ≡ xs
unfolding padded
front n k z xs e = take_at xs (replicate (n - length xs) z) k e

-- how many notes each part has
pub counted : List NamedPart → List ℕ
counted ps = map (λ (p : NamedPart). length p.part.notes) ps

module _ (ps : List NamedPart) (is : List (List Line)) where
  pub laid_counts : counts_of (sheet_of ps is) ≡ counted ps
  unfolding sheet_of counted
  laid_counts = front parts_most (length ps) 0 (counted ps) (length-map ps (λ (p : NamedPart). length p.part.notes))

  pub laid_instruments : instruments_of (sheet_of ps is) ≡ map instrument_of is
  unfolding sheet_of
  laid_instruments = front instruments_most (length is) (instrument_of []) (map instrument_of is) (length-map is instrument_of)

pub total_counted : (ps : List NamedPart) → total (counted ps) ≡ length (notes_of ps)
unfolding total counted notes_of
total_counted [] = refl
total_counted (p ∷ ps) =
    ap (λ (k : ℕ). length p.part.notes + k) (total_counted ps) ∙ sym (length-append p.part.notes (notes_of ps))

pub laid_total : (ps : List NamedPart) (is : List (List Line)) → total (counts_of (sheet_of ps is)) ≡ length (notes_of ps)
laid_total ps is = ap total (laid_counts ps is) ∙ total_counted ps

pub laid_notes : (ps : List NamedPart) (is : List (List Line)) → take (total (counts_of (sheet_of ps is))) (sheet_of ps is).notes ≡ notes_of ps
unfolding sheet_of
laid_notes ps is = front notes_most (total (counts_of (sheet_of ps is))) silence (notes_of ps) (sym (laid_total ps is))

-- ---- parts

cut_laid : (ps : List NamedPart) (rest : List Note) → cut (counted ps) (notes_of ps ++ rest) ≡ map (λ (p : NamedPart). p.part.notes) ps
unfolding cut counted notes_of
cut_laid [] rest = refl
cut_laid (p ∷ ps) rest =
    let ns = p.part.notes in
    let e = append_assoc ns (notes_of ps) rest in
    ap₂ (λ (a : List Note) (b : List Note). a ∷ cut (counted ps) b)
    (ap (take (length ns)) e ∙ take_at ns (notes_of ps ++ rest) (length ns) refl)
    (ap (drop (length ns)) e ∙ drop_at ns (notes_of ps ++ rest) (length ns) refl)
    ∙ ap {B = List (List Note)} (λ parts. ns ∷ parts) (cut_laid ps rest)

pub laid_parts : (ps : List NamedPart) (is : List (List Line)) → parts_of (sheet_of ps is) ≡ map (λ (p : NamedPart). p.part.notes) ps
unfolding parts_of sheet_of padded
laid_parts ps is =
    ap (λ (cs : List ℕ). cut cs (sheet_of ps is).notes) (laid_counts ps is)
    ∙ cut_laid ps (replicate (notes_most - length (notes_of ps)) silence)

-- ---- the length

pub releases_laid : (is : List (List Line)) → releases_of (map instrument_of is) ≡ map release_of is
unfolding releases_of instrument_of
releases_laid [] = refl
releases_laid (l ∷ is) = ap {B = List Float} (λ rs. release_of l ∷ rs) (releases_laid is)

longest_from_law : (rate : ℕ) (rs : List Float) (ps : List NamedPart) → longest_of rate rs (map (λ (p : NamedPart). p.part.notes) ps) ≡ length_from rate rs ps
unfolding longest_of length_from
longest_from_law rate rs [] = refl
longest_from_law rate rs (p ∷ ps) = ap (λ (k : ℕ). max (end_of rate rs 0 p.part.notes) k) (longest_from_law rate rs ps)

pub laid_length : (rate : ℕ) (r : Read) → length_of rate (sheet_of r.parts r.instruments) ≡ length_read rate r
unfolding length_of length_read
laid_length rate r =
    ap₂ (longest_of rate) (ap releases_of (laid_instruments r.parts r.instruments) ∙ releases_laid r.instruments) (laid_parts r.parts r.instruments)
    ∙ longest_from_law rate (map release_of r.instruments) r.parts
