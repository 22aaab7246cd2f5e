-- `hand_file` hands the file on piece by piece, until all of it is handed on. Assumes nothing.
use mathlib.Core.Path.{◌≡◌, refl, sym, ap, subst, ◌∙◌}
use mathlib.Core.Bool.{true}
use mathlib.Core.List.{List}
use Prim.Native.Nat.{ℕ, ◌+◌}
use native.Mathlib.Omega.{arith}
use lib.ListN.{length, take}
use Rattle.form.specs.declared.size.Size.{Size}
use Rattle.sheet.specs.declared.sheet.Sheet.{Sheet}
use Rattle.handed.specs.Check.{is_sheet}
use Rattle.engine.specs.Stream.{file_of, next_of, next_in}
use Rattle.engine.proofs.HandedOn.{next_length}
use Rattle.cue.specs.Handing.{Next}
use Rattle.cue.proofs.Pieces.{Begins, Piece, begins, file_most_law, piece_next, piece_bytes, left_less, moved_begins, file_next}
use Rattle.cue.proofs.answer.hand_file.Goals as goal

-- a turn, once the piece is there: the next bytes of the file from a place on, in a buffer of one part
module _ (size : Size) (sheet : Sheet) (buffer : List ℕ) (at n : ℕ) (is : is_sheet 44100 sheet ≡ true) (long : length buffer ≡ 65536) (b : Begins (length (file_of size 44100 sheet)) at) (count : n ≡ next_of 44100 sheet (length buffer) at) where
  piece : Piece (length (file_of size 44100 sheet)) at n
  piece = subst (Piece (length (file_of size 44100 sheet)) at) (sym count) (piece_next size sheet is buffer long at b)

  next_piece : (answer after : List ℕ) → answer ≡ file_of size 44100 sheet → after ≡ next_in size 44100 sheet buffer at → n ≡ length (take n after) → Next answer at (take n after)
  next_piece answer after same e w =
      file_next answer (file_of size 44100 sheet) _ at n same (piece_bytes size sheet is buffer long at n after count e piece.next.inside) w piece.next.inside
      (file_most_law size sheet is)

pub loop-mode-init : goal.loop-mode-init
loop-mode-init g c =
    (refl, (c.requires.fresh.0.last, subst (Begins (length (file_of c.args.size 44100 c.args.sheet))) (sym c.requires.fresh.1) (begins _)))

pub slice_bounds-next-end : goal.slice_bounds-next-end
slice_bounds-next-end g c = sym c.loop-mode.invariant.0

pub returns-then-n-eq0 : goal.returns-then-n-eq0
returns-then-n-eq0 g c =
    λ t. (piece c.args.size c.args.sheet c.loop-mode.buffer c.loop-mode.later.out.at c.next-n.result c.requires.answer.1 c.loop-mode.invariant.0 c.loop-mode.invariant.1.1 (c.next-n.ensures.count ∙ ap (next_of 44100 c.args.sheet (length c.loop-mode.buffer)) c.place.ensures)).ended c.if-n-eq0.true ∙ sym (ap length c.requires.answer.0)

pub slice_bounds-buffer-end : goal.slice_bounds-buffer-end
slice_bounds-buffer-end g c = c.next-n.ensures.within.0

pub slice_bounds-hand-end : goal.slice_bounds-hand-end
slice_bounds-hand-end g c = c.next-n.ensures.within.1

pub hand-later-requires-clause-taking : goal.hand-later-requires-clause-taking
hand-later-requires-clause-taking g c = record { taking = sym c.is_taking.ensures ∙ c.loop-mode-test.true; last = c.loop-mode.invariant.1.0 }

pub hand-later-requires-clause-next : goal.hand-later-requires-clause-next
hand-later-requires-clause-next g c = (next_piece c.args.size c.args.sheet c.loop-mode.buffer c.loop-mode.later.out.at c.next-n.result c.requires.answer.1 c.loop-mode.invariant.0 c.loop-mode.invariant.1.1 (c.next-n.ensures.count ∙ ap (next_of 44100 c.args.sheet (length c.loop-mode.buffer)) c.place.ensures) _ c.next-n.new.buffer c.requires.answer.0 (c.next-n.ensures.bytes ∙ ap (next_in c.args.size 44100 c.args.sheet c.loop-mode.buffer) c.place.ensures) c.next-n.ensures.within.1)

pub loop-mode-smaller : goal.loop-mode-smaller
loop-mode-smaller g c =
    left_less (length (file_of c.args.size 44100 c.args.sheet)) _ _ c.loop-mode.later c.hand-later.result (sym c.is_taking.ensures ∙ c.loop-mode-test.true) c.hand-later.ensures (omega (arith, c.next-n.ensures.within.1, c.if-n-eq0.false))
    (omega (arith, (next_piece c.args.size c.args.sheet c.loop-mode.buffer c.loop-mode.later.out.at c.next-n.result c.requires.answer.1 c.loop-mode.invariant.0 c.loop-mode.invariant.1.1 (c.next-n.ensures.count ∙ ap (next_of 44100 c.args.sheet (length c.loop-mode.buffer)) c.place.ensures) _ c.next-n.new.buffer c.requires.answer.0 (c.next-n.ensures.bytes ∙ ap (next_in c.args.size 44100 c.args.sheet c.loop-mode.buffer) c.place.ensures) c.next-n.ensures.within.1).inside, ap length c.requires.answer.0))

pub loop-mode-preserved : goal.loop-mode-preserved
loop-mode-preserved g c = (
  ap length c.next-n.ensures.bytes ∙ next_length c.args.size 44100 c.args.sheet c.loop-mode.buffer c.place.result ∙ c.loop-mode.invariant.0,
  (
    c.hand-later.ensures.last,
    moved_begins (length (file_of c.args.size 44100 c.args.sheet)) _ _ c.loop-mode.later c.hand-later.result c.hand-later.ensures c.loop-mode.invariant.1.1
        (subst (λ (k : ℕ). Begins (length (file_of c.args.size 44100 c.args.sheet)) (c.loop-mode.later.out.at + k)) c.next-n.ensures.within.1 (piece c.args.size c.args.sheet c.loop-mode.buffer c.loop-mode.later.out.at c.next-n.result c.requires.answer.1 c.loop-mode.invariant.0 c.loop-mode.invariant.1.1 (c.next-n.ensures.count ∙ ap (next_of 44100 c.args.sheet (length c.loop-mode.buffer)) c.place.ensures)).next),
  ),
)

pub returns : goal.returns
returns g c = λ t. absurd (let z : ◌≡◌ {A = ℕ} 0 1 = cc (c.is_taking.ensures, c.loop-mode-test.false) in omega arith)
