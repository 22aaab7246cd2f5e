-- `noted` makes the tests of the definition in its order. Assumes nothing.
use Rattle.std.proofs.Common.{sym, ◌∙◌, arith}
use Rattle.part.specs.Columns.{book_of}
use Rattle.notes.proofs.Letters.{within_low}
use Rattle.part.proofs.Noted.{written_low, written_high, written_past, written_long, written_laid}
use Rattle.part.proofs.note.noted.Goals as goal
use Rattle.part.proofs.note.noted.Goals.{
  then-v-from-via-then-v-from,
  then-v-from-via-else-v-from+then-v-from-2,
  then-i-releases-via-then-i-releases,
  then-i-releases-via-else-i-releases+then-not-is_counted,
}

pub returns-then-v-from : goal.returns-then-v-from
returns-then-v-from c ms ns ls deep =
    rw c.refused.ensures
    (elim c.then-v-from.branch [
      | then-v-from-via-then-v-from w ↦ written_low (book_of _ ms ns _) _ _ _ _ _ c.args.st _ _ ls _ c.value-v.ensures c.requires.1.1 deep (omega arith)
      | then-v-from-via-else-v-from+then-v-from-2 w ↦ written_high (book_of _ ms ns _) _ _ _ _ _ c.args.st _ _ ls _ c.value-v.ensures c.requires.1.1 deep (omega arith) (omega arith)
    ])

pub returns-then-i-releases : goal.returns-then-i-releases
returns-then-i-releases c ms ns ls deep =
    rw c.refused-then-i-releases.ensures
    (elim c.then-i-releases.branch [
      | then-i-releases-via-then-i-releases w ↦
          written_past (book_of _ ms ns _) _ _ _ _ _ c.args.st _ _ ls _ c.value-v.ensures
          (omega arith) (omega arith) _ c.duration-d.ensures c.requires.1.1 deep w.if-i-releases.true
      | then-i-releases-via-else-i-releases+then-not-is_counted w ↦
          written_long (book_of _ ms ns _) _ _ _ _ _ c.args.st _ _ ls _ c.value-v.ensures
          (omega arith) (omega arith) _ c.duration-d.ensures c.requires.1.1 deep
          (sym w.is_counted.ensures ∙ w.if-not-is_counted.true)
    ])

pub returns : goal.returns
returns c ms ns ls deep =
    written_laid (book_of _ ms ns _) _ _ _ _ _ c.args.st _ _ ls _ c.value-v.ensures
    (omega arith) (omega arith) _ c.duration-d.ensures
    (sym c.is_counted.ensures ∙ c.if-not-is_counted.false) _ _ _ c.amplitude-a.ensures c.frequency-f.ensures
    (c.semitone.ensures ∙ within_low _ _ _ c.requires.1.1.octave) _ _ _ (c.push.ensures ls deep)
