-- `mix_note` fills the piece of the slice in which the note sounds, and that is the note mixed into the slice (`Pieces`). Assumes nothing.
use mathlib.Core.Path.{refl, ap, ◌∙◌}
use mathlib.Core.List.{List}
use Prim.Native.Nat.{ℕ, ◌+◌, ◌-◌}
use borrow.Rule.Slice.PartMut.{mid_of}
use Rattle.instrument.specs.Lent.{filled_by}
use Rattle.instrument.proofs.Lent.{filled_quarter}
use Rattle.mixing.specs.Placing.{sounds_of}
use Rattle.mixing.proofs.Pieces.{note_mixes}
use Rattle.mixing.proofs.mixing.mix_note.Goals as goal

pub returns : goal.returns
returns c =
    let a = c.args in
    note_mixes a.covered a.rate a.by a.note a.start (sounds_of a.rate a.by a.note) a.from a.a a.e a.out.now refl
    c.requires.2 c.requires.3 c.requires.4 _ _ _ refl c.saturating_sub-added.ensures
    (c.fill_by.ensures.values
    ∙ ap (λ (table : List ℕ). filled_by table a.by a.note.amplitude a.note.frequency a.note.duration a.rate (a.from + a.a - a.start) c.saturating_sub-added.result (mid_of a.a (a.e - a.a) a.out.now)) c.requires.0
    ∙ filled_quarter a.by a.note.amplitude a.note.frequency a.note.duration a.rate (a.from + a.a - a.start) c.saturating_sub-added.result (mid_of a.a (a.e - a.a) a.out.now))
