-- `to` makes the two tests of the definition, and each writer's own contract says the rest. Assumes nothing.
use mathlib.Core.Path.{◌≡◌, ap, ◌∙◌}
use mathlib.Core.List.{List}
use Prim.Native.Nat.{ℕ}
use lib.Ieee.{Float}
use borrow.Author.Tests.{eq-eqb, ne_eqb}
use Rattle.form.specs.declared.size.Size.{Size}
use Rattle.wave.specs.File.{header_in, file_in}
use Rattle.ask_wave.specs.Answer.{printed, answer_to, buffer_to}
use Rattle.ask_wave.proofs.answer.to.Goals as goal

-- the same size writes the same
file_sized : (rate : ℕ) (xs : List Float) (buffer : List ℕ) {y z : Size} → y ≡ z → file_in y rate xs buffer ≡ file_in z rate xs buffer
file_sized rate xs buffer e = ap (λ (k : Size). file_in k rate xs buffer) e

header_sized : (rate n : ℕ) (buffer : List ℕ) {y z : Size} → y ≡ z → header_in y rate n buffer ≡ header_in z rate n buffer
header_sized rate n buffer e = ap (λ (k : Size). header_in k rate n buffer) e

pub returns-then-r-eq0 : goal.returns-then-r-eq0
unfolding answer_to buffer_to
returns-then-r-eq0 c =
    let is = eq-eqb _ _ c.if-r-eq0.true in record { answer = rw (is, answer_to) (c.of_written.ensures ∙ ap printed c.write_file.ensures.answer); bytes = rw (is, buffer_to) (c.write_file.ensures.bytes ∙ file_sized _ _ _ c.size_of.ensures) }

pub returns-then-r-eq1 : goal.returns-then-r-eq1
unfolding answer_to buffer_to
returns-then-r-eq1 c =
    let not-file = ne_eqb _ _ c.if-r-eq0.false in
    let is = eq-eqb _ _ c.if-r-eq1.true in record { answer = rw (not-file, is, answer_to) (ap (λ (n : ℕ). record { refusal = 0; count = n }) c.write_samples-n.ensures.count); bytes = rw (not-file, is, buffer_to) c.write_samples-n.ensures.bytes }

pub returns : goal.returns
unfolding answer_to buffer_to
returns c =
    let not-file = ne_eqb _ _ c.if-r-eq0.false in
    let not-window = ne_eqb _ _ c.if-r-eq1.false in record { answer = rw (not-file, not-window, answer_to) (c.of_written-2.ensures ∙ ap printed c.write_header.ensures.answer); bytes = rw (not-file, not-window, buffer_to) (c.write_header.ensures.bytes ∙ header_sized _ _ _ c.size_of-2.ensures) }
