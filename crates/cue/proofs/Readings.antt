-- The answer to what a source is read as. The sheet of every reading passes the check, so that each file is whole. Assumes nothing.
use mathlib.Core.Path.{◌≡◌, refl, sym, ap, ◌∙◌}
use mathlib.Core.Bool.{true}
use mathlib.Core.List.{List}
use Prim.Native.Nat.{ℕ}
use borrow.Author.Tests.{eq-eqb, ne_eqb}
use Rattle.sheet.specs.Refusals.{Outcome, going, refused}
use Rattle.form.specs.declared.size.Size.{Size}
use Rattle.strict.specs.declared.mode.Mode.{Mode}
use Rattle.handed.specs.Check.{is_sheet}
use Rattle.meaning.specs.declared.reading.Reading.{Reading}
use Rattle.meaning.specs.Sheets.{Read, sheet_read}
use Rattle.meaning.specs.Layout.{sheet_of, laid_out, reading_of}
use Rattle.meaning.proofs.Handed.{reading_passes, empty_passes}
use Rattle.engine.specs.Stream.{file_of}
use Rattle.refusal.specs.Line.{refused_line}
use Rattle.cue.specs.Answer.{answer_to, answer_of}

module _ (mode : Mode) (source : List ℕ) where
  sheet_passes : is_sheet 44100 (reading_of mode 44100 source).sheet ≡ true
  unfolding reading_of laid_out
  sheet_passes = go (sheet_read mode 44100 source) refl
    where
      go : (o : Outcome Read) → sheet_read mode 44100 source ≡ o → is_sheet 44100 (reading_of mode 44100 source).sheet ≡ true
      go (going r) e = reading_passes mode 44100 source r e
      go (refused n l) e = ap (λ (o : Outcome Read). is_sheet 44100 (laid_out o).sheet) e ∙ empty_passes mode 44100

  module _ (r : Reading) (e : r ≡ reading_of mode 44100 source) where
    pub read_passes : is_sheet 44100 r.sheet ≡ true
    read_passes = ap (λ (q : Reading). is_sheet 44100 q.sheet) e ∙ sheet_passes

    module _ (size : Size) where
      answered : answer_of mode size source ≡ answer_to size r
      unfolding answer_of
      answered = ap (answer_to size) (sym e)

      pub answer_line : (r.refusal ≡ 0 → ⊥) → answer_of mode size source ≡ refused_line r.refusal r.line
      unfolding answer_to
      answer_line h = answered ∙ rw (ne_eqb r.refusal 0 h, answer_to)

      pub answer_file : r.refusal ≡ 0 → answer_of mode size source ≡ file_of size 44100 r.sheet
      unfolding answer_to
      answer_file h = answered ∙ rw (eq-eqb r.refusal 0 h, answer_to)

  -- ---- the answer by what has come of the reading

  pub accepted_answer : (size : Size) (r : Read) → sheet_read mode 44100 source ≡ going r → answer_of mode size source ≡ file_of size 44100 (sheet_of r.parts r.instruments)
  unfolding answer_of answer_to reading_of laid_out
  accepted_answer size r e = ap (λ (o : Outcome Read). answer_to size (laid_out o)) e

  pub refused_answer : (size : Size) (n l : ℕ) → sheet_read mode 44100 source ≡ refused n l → (n ≡ 0 → ⊥) → answer_of mode size source ≡ refused_line n l
  unfolding answer_of answer_to reading_of laid_out
  refused_answer size n l e h = ap (λ (o : Outcome Read). answer_to size (laid_out o)) e ∙ rw (ne_eqb n 0 h, answer_to)
