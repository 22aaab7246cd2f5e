-- What the RIFF size makes of an answer: that of an accepted sheet is the published form of its samples, under the old name it differs in the four bytes of the size
-- alone, and the line of a refusal is the same. Assumes nothing.
use mathlib.Core.Path.{◌≡◌, refl, sym, ap, ◌∙◌}
use mathlib.Core.Bool.{Bool, true, false}
use mathlib.Core.List.{List}
use Prim.Native.Nat.{ℕ}
use lib.Dec.{eqb}
use lib.ListN.{take, drop}
use borrow.Author.Tests.{eqb-true, eqb-false}
use Rattle.form.specs.declared.size.Size.{Size}
use Rattle.form.specs.declared.size.Size.TheVariants.{Published, Old}
use Rattle.form.specs.Form.{published}
use Rattle.form.specs.Sample.{bytes_of}
use Rattle.sheet.specs.Parts.{length_of}
use Rattle.sheet.specs.Refusals.{going}
use Rattle.strict.specs.declared.mode.Mode.{Mode}
use Rattle.evaluator.specs.Samples.{samples_from}
use Rattle.mixing.specs.Placing.{placed}
use Rattle.meaning.specs.Sheets.{Read, sheet_read}
use Rattle.meaning.specs.Layout.{sheet_of, reading_of}
use Rattle.meaning.proofs.Handed.{accepted_passes}
use Rattle.engine.proofs.Published.{sheet_published, sheet_beside_the_size}
use Rattle.cue.specs.Answer.{answer_of}
use Rattle.cue.proofs.Readings.{answer_line, answer_file, accepted_answer}

module _ (mode : Mode) (source : List ℕ) where
  -- the file of an accepted sheet, as published
  pub accepted_published : (r : Read) → sheet_read mode 44100 source ≡ going r
      → let s = sheet_of r.parts r.instruments in answer_of mode Published source ≡ published 44100 (bytes_of (samples_from (placed 44100 s) 0 (length_of 44100 s)))
  accepted_published r e = accepted_answer mode source Published r e ∙ sheet_published 44100 (sheet_of r.parts r.instruments) (accepted_passes mode 44100 source r e)

  -- the line of a refusal has no size
  pub refused_alike : ((reading_of mode 44100 source).refusal ≡ 0 → ⊥) → answer_of mode Old source ≡ answer_of mode Published source
  refused_alike h =
      let r = reading_of mode 44100 source in
      answer_line mode source r refl Old h ∙ sym (answer_line mode source r refl Published h)

  -- before and behind the size's four bytes the two answers agree, for every source
  pub answer_beside_the_size :
      (take 4 (answer_of mode Old source) ≡ take 4 (answer_of mode Published source)) × (drop 8 (answer_of mode Old source) ≡ drop 8 (answer_of mode Published source))
  answer_beside_the_size = go (eqb (reading_of mode 44100 source).refusal 0) refl
    where
      go : (b : Bool) → eqb (reading_of mode 44100 source).refusal 0 ≡ b
          → (take 4 (answer_of mode Old source) ≡ take 4 (answer_of mode Published source)) × (drop 8 (answer_of mode Old source) ≡ drop 8 (answer_of mode Published source))
      go true t =
          let r = reading_of mode 44100 source in
          let file : (size : Size) → answer_of mode size source ≡ _ = λ (size : Size). answer_file mode source r refl size (eqb-true _ _ t) in
          let same = sheet_beside_the_size 44100 r.sheet in
          (ap (take 4) (file Old) ∙ same.0 ∙ sym (ap (take 4) (file Published)), ap (drop 8) (file Old) ∙ same.1 ∙ sym (ap (drop 8) (file Published)))
      go false t =
          let same = refused_alike (eqb-false _ _ t) in
          (ap (take 4) same, ap (drop 8) same)
