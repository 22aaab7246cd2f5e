-- The form with its four numbers stored is the header of the definition, byte by byte. Assumes nothing.
use Rattle.form.specs.Form.{header}
use Rattle.form.proofs.header.header.Goals as goal

pub returns : goal.returns
unfolding header
returns c =
    rw (
      c.with_number.ensures,
      c.with_number-timed.ensures,
      c.with_number-rated.ensures,
      c.with_number-sized.ensures,
      c.field.ensures,
      c.from.ensures,
      c.from-2.ensures,
      c.from-3.ensures,
    )
