-- `semitone` is the definition, with what its callees promise. Assumes nothing.
use mathlib.Core.Path.{sym, ap, ap₂, ◌∙◌}
use Prim.Native.Nat.{ℕ, ◌+◌, ◌*◌}
use Rattle.keys.specs.Keys.{moved_by}
use Rattle.notes.specs.Notes.{semitone_of}
use Rattle.notes.proofs.Letters.{within_low, within_high}
use Rattle.notes.proofs.note.semitone.Goals as goal

pub returns-then-env-gt-MAX_OCTAVE : goal.returns-then-env-gt-MAX_OCTAVE
returns-then-env-gt-MAX_OCTAVE c = within_high _ _ _ c.if-env-gt-MAX_OCTAVE.true

pub returns : goal.returns
unfolding semitone_of
returns c =
    c.moved_by.ensures
    ∙ ap₂ moved_by c.accidental.ensures (ap (λ (k : ℕ). 12 * c.args.env.octave + k) c.offset.ensures.0)
    ∙ sym (within_low _ _ _ c.if-env-gt-MAX_OCTAVE.false)
