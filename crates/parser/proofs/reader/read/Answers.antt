-- `read` asks 1 and 2, and then lends its arrays to the walk and to the end. Assumes nothing.
use Prim.Native.Nat.{ℕ}
use mathlib.Core.Path.{refl, sym, ap, ◌∙◌}
use Rattle.sheet.specs.Refusals.{Outcome, refused, ◌>>=◌}
use Rattle.meaning.specs.Layout.{laid_out}
use Rattle.meaning.specs.Sheets.{Read, ended}
use Rattle.parser.specs.Columns.{place_column}
use Rattle.parser.proofs.Bytes.{source_long, source_high, source_read}
use Rattle.parser.proofs.reader.read.Goals as goal

pub returns-then-source-gt32768 : goal.returns-then-source-gt32768
returns-then-source-gt32768 c = c.refused_reading.ensures ∙ ap (λ (number : ℕ). laid_out (refused number 0)) c.number.ensures ∙ source_long _ 44100 _ c.if-source-gt32768.true

pub returns-then-not-all_below_128 : goal.returns-then-not-all_below_128
returns-then-not-all_below_128 c = c.refused_reading-then-not-all_below_128.ensures ∙ ap (λ (number : ℕ). laid_out (refused number 0)) c.number-then-not-all_below_128.ensures ∙ source_high _ 44100 _ c.if-source-gt32768.false (sym c.all_below_128.ensures ∙ c.if-not-all_below_128.true)

pub slice_bounds-walk-end : goal.slice_bounds-walk-end
slice_bounds-walk-end c = refl

pub slice_bounds-walk-end-2 : goal.slice_bounds-walk-end-2
slice_bounds-walk-end-2 c = refl

pub slice_bounds-walk-end-3 : goal.slice_bounds-walk-end-3
slice_bounds-walk-end-3 c = refl

pub slice_bounds-walk-end-4 : goal.slice_bounds-walk-end-4
slice_bounds-walk-end-4 c = refl

pub slice_bounds-walk-end-5 : goal.slice_bounds-walk-end-5
slice_bounds-walk-end-5 c = refl

pub slice_bounds-walk-end-6 : goal.slice_bounds-walk-end-6
slice_bounds-walk-end-6 c = refl

pub walk-q-requires : goal.walk-q-requires
walk-q-requires c = (c.if-source-gt32768.false, (refl, (refl, (refl, (refl, (refl, refl))))))

pub slice_bounds-finished-end : goal.slice_bounds-finished-end
slice_bounds-finished-end c = sym c.walk-q.auto.floats

pub slice_bounds-finished-end-2 : goal.slice_bounds-finished-end-2
slice_bounds-finished-end-2 c = sym c.walk-q.auto.bytes

pub slice_bounds-finished-end-3 : goal.slice_bounds-finished-end-3
slice_bounds-finished-end-3 c = sym c.walk-q.auto.numbers

pub slice_bounds-finished-end-4 : goal.slice_bounds-finished-end-4
slice_bounds-finished-end-4 c = sym c.walk-q.auto.shape

pub finished-requires : goal.finished-requires
finished-requires c z =
    let w = (c.walk-q.ensures.fits z).1 in
    (w.instruments_few, (w.numbers_length, w.shape_length))

pub returns : goal.returns
returns c =
    let w = c.walk-q in
    let a = c.args in
    c.finished.ensures a.source.now (place_column w.new.loops) w.new.loops w.new.bodies (λ z. (w.ensures.fits z).0) (λ z. (w.ensures.fits z).1)
    ∙ (ap (λ (o : Outcome Read). laid_out (o >>= (λ x. ended 44100 x))) w.ensures.means
    ∙ source_read _ 44100 _ c.if-source-gt32768.false (sym c.all_below_128.ensures ∙ c.if-not-all_below_128.false))
