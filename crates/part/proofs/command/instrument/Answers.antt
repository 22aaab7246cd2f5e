-- `instrument` asks for the name's place, and the names are half as many as their places. Assumes nothing.
use Rattle.lines.proofs.Places.{names_halved}
use Rattle.part.specs.Columns.{book_of}
use Rattle.part.proofs.Changed.{instrument_none, instrument_found}
use native.Mathlib.Omega.{arith}
use Rattle.part.proofs.command.instrument.Goals as goal

pub overflow_mul-place : goal.overflow_mul-place
overflow_mul-place c = omega (arith, c.place_named-place.ensures.within)

pub overflow_sub-names : goal.overflow_sub-names
overflow_sub-names c = omega (arith, c.place_named-place.ensures.within)

pub returns-then-names-place-lt2 : goal.returns-then-names-place-lt2
returns-then-names-place-lt2 c rate ms rs inner fs is ls r =
    rw c.refused.ensures
    (instrument_none _ _ _ (book_of rate ms _ rs) inner fs is ls r _ c.place_named-place.ensures.meant
    (omega (arith, c.if-names-place-lt2.true, (names_halved c.args.source.now c.args.names.now).low)))

pub returns : goal.returns
returns c rate ms rs inner fs is ls r =
    instrument_found _ _ _ (book_of rate ms _ rs) inner fs is ls r _ c.place_named-place.ensures.meant
    (omega (arith, c.if-names-place-lt2.false, (names_halved c.args.source.now c.args.names.now).high))
