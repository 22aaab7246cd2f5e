-- `walk` goes through the notes of each part: those still to come decide whether all pass, and the largest end so far, and the largest of what is
-- still to come, is the sheet's length. Assumes nothing.
use Rattle.std.proofs.Common.{◌≡◌, ℕ, ◌+◌, ◌-◌, ◌≤◌, Bool, List, Option, Result, length, take, get_or, min, max, refl, sym, ap, ◌∙◌, arith}
use lib.Ieee.{Float, nan}
use Rattle.std.specs.Option.{is_some, unwrap_or}
use Rattle.tone.specs.declared.time.Uncounted.{Uncounted}
use Rattle.tone.specs.Time.{length_of as length_in}
use Rattle.sheet.specs.declared.note.Note.{Note}
use Rattle.sheet.specs.Lengths.{is_counted, samples_of, longest_of}
use Rattle.sheet.specs.Parts.{total, instruments_of, releases_of, length_of, parts_of, cut}
use Rattle.sheet.proofs.Lengths.{samples_most}
use Rattle.handed.specs.Check.{all, counted_of, note_passes}
use Rattle.handed.proofs.Checks.{walk_fails, walk_ends}
use Rattle.handed.proofs.Counted.{counted_is, samples_are}
use Rattle.handed.proofs.Cuts.{take_cut}
use Rattle.handed.proofs.Releases.{instruments_are, release_is}
use Rattle.handed.proofs.Notes.{note_is}
use Rattle.handed.proofs.Ends.{part_begins, part_ends, parts_end, note_ends}
use Rattle.handed.proofs.Played.{played_begins, played_ends, played_all, played_fails, played_more}
use Rattle.handed.proofs.check.walk.Goals as goal

-- what a place past the notes would read as
abbrev none : Note
none = record { amplitude = nan; frequency = nan; duration = nan; instrument = 0 }

from_none : (a l : ℕ) → a ≡ l → max 0 a ≡ l
from_none a l e = omega arith

-- nothing is longer than the largest end
largest : (a b l : ℕ) → max a b ≡ l → b ≡ 0 → a ≡ l
largest a b l e z = omega arith

-- where a part's notes end
stop_within : (n d count : ℕ) → d ≡ min count (2048 - n) → n ≤ 2048 → n + d ≤ 2048
stop_within n d count e h = omega arith

-- what is counted of a note is how long it sounds, and no more than one note may
sounds_are : (l : Result ℕ Uncounted) (o : Option ℕ) (n : ℕ) → o ≡ counted_of l → n ≡ unwrap_or o 0 → n ≡ samples_of l
sounds_are l o n e f = f ∙ ap (λ (q : Option ℕ). unwrap_or q 0) e ∙ samples_are l

heard_most : (rate : ℕ) (x : Float) (o : Option ℕ) (n : ℕ) → o ≡ counted_of (length_in rate x) → n ≡ unwrap_or o 0 → n ≤ 16777216
heard_most rate x o n e f = omega (arith, sounds_are (length_in rate x) o n e f, samples_most rate x)

tells : (l : Result ℕ Uncounted) (o : Option ℕ) (b : Bool) → o ≡ counted_of l → b ≡ is_some o → b ≡ is_counted l
tells l o b e f = f ∙ ap (λ (q : Option ℕ). is_some q) e ∙ counted_is l

pub loop-p-init : goal.loop-p-init
unfolding length_of parts_of
loop-p-init c =
    let s = c.args.sheet.now in
    let same = take_cut s.counts s.parts 16 c.min-parts.result (omega arith) c.min-parts.ensures in
    let ends = ap (λ (cs : List ℕ). longest_of c.args.rate (releases_of (instruments_of s)) (cut cs s.notes)) same in
    let tests = ap (λ (cs : List ℕ). all (note_passes c.args.rate (instruments_of s)) (take (total cs) s.notes)) same in
    (omega arith, from_none _ _ ends, tests)

pub loop-k-init : goal.loop-k-init
loop-k-init c =
    let s = c.args.sheet.now in
    let o = c.loop-p in
    let parts = c.min-parts in
    let h = c.loop-p-test.true in
    let k : parts.result ≤ length s.counts = omega arith in
    let b : o.n ≤ length s.notes = omega arith in
    let cut_at = c.min.ensures ∙ ap (λ (k : ℕ). min (get_or s.counts o.p 0) (k - o.n)) (sym (let it : length s.notes ≡ 2048 = omega arith in it)) in
    let ends = part_begins c.args.rate (releases_of (instruments_of s)) s.counts parts.result s.notes o.p o.n c.min.result _ h k b cut_at refl in
    let tests = played_begins (note_passes c.args.rate (instruments_of s)) s.counts parts.result s.notes o.p o.n c.min.result _ h k b cut_at refl in
    (omega arith, omega arith, ap (max o.end) (sym ends) ∙ o.invariant.1, sym tests ∙ o.invariant.2)

pub returns-then-not-note_passes : goal.returns-then-not-note_passes
returns-then-not-note_passes c =
    let s = c.args.sheet.now in
    let has = c.min-instruments in
    let there : c.loop-p.n + c.min.result ≤ length s.notes = omega (arith, stop_within c.loop-p.n c.min.result _ c.min.ensures c.loop-p.invariant.0) in
    let release = release_is s.table s.instruments (omega arith) has.result _ c.min-place.result _ _ has.ensures c.min-place.ensures c.released-release.ensures in
    let passes = note_is _ (get_or s.notes c.loop-k.k none) _ has.result _ _ _ (instruments_are s.table s.instruments (omega arith) has.result has.ensures) release
    (tells _ _ _ c.counted-sounds.ensures c.is_some.ensures) c.note_passes.ensures in
    walk_fails c.args.rate s
    (played_fails (note_passes c.args.rate (instruments_of s)) s.counts c.min-parts.result s.notes c.loop-p.p c.loop-k.k _ none _ _
    c.loop-k-test.true there c.loop-k.invariant.3 passes c.if-not-note_passes.true)

pub overflow_add-start : goal.overflow_add-start
overflow_add-start c =
    let most = heard_most _ _ _ _ c.counted-sounds.ensures c.unwrap_or-heard.ensures in
    omega (arith, stop_within c.loop-p.n c.min.result _ c.min.ensures c.loop-p.invariant.0, most)

pub loop-k-preserved : goal.loop-k-preserved
loop-k-preserved c =
    let s = c.args.sheet.now in
    let l = c.loop-k in
    let has = c.min-instruments in
    let there : c.loop-p.n + c.min.result ≤ length s.notes = omega (arith, stop_within c.loop-p.n c.min.result _ c.min.ensures c.loop-p.invariant.0) in
    let release = release_is s.table s.instruments (omega arith) has.result _ c.min-place.result _ _ has.ensures c.min-place.ensures c.released-release.ensures in
    let passes = note_is _ (get_or s.notes c.loop-k.k none) _ has.result _ _ _ (instruments_are s.table s.instruments (omega arith) has.result has.ensures) release
    (tells _ _ _ c.counted-sounds.ensures c.is_some.ensures) c.note_passes.ensures in
    let heard = sounds_are _ _ _ c.counted-sounds.ensures c.unwrap_or-heard.ensures in
    let lasts = c.samples-lasts.ensures in (
      omega arith,
      omega (arith, lasts.1),
      note_ends c.args.rate (releases_of (instruments_of s)) s.counts c.min-parts.result s.notes c.loop-p.p l.k _ l.start none c.loop-k-test.true there _ l.end _ _ _ _
          release heard lasts.0 c.max-end.ensures l.invariant.2,
      played_more (note_passes c.args.rate (instruments_of s)) s.counts c.min-parts.result s.notes c.loop-p.p l.k _ none _ _
          c.loop-k-test.true there l.invariant.3 passes c.if-not-note_passes.false,
    )

pub loop-p-preserved : goal.loop-p-preserved
loop-p-preserved c =
    let s = c.args.sheet.now in
    let l = c.loop-k in
    let o = c.loop-p in
    let parts = c.min-parts.result in
    let stop = o.n + c.min.result in
    let e : l.k ≡ stop = omega arith in
    let ends = part_ends c.args.rate (releases_of (instruments_of s)) s.counts parts s.notes o.p l.k stop l.start e in
    let tests = played_ends (note_passes c.args.rate (instruments_of s)) s.counts parts s.notes o.p l.k stop e in
    (stop_within o.n c.min.result _ c.min.ensures o.invariant.0, rw (← e) (ap (max l.end) (sym ends) ∙ l.invariant.2), rw (← e) (sym tests ∙ l.invariant.3))

pub returns : goal.returns
returns c =
    let s = c.args.sheet.now in
    let parts = c.min-parts.result in
    let l = c.loop-p in
    let e : l.p ≡ parts = omega arith in
    let ends = parts_end c.args.rate (releases_of (instruments_of s)) s.counts parts s.notes l.p l.n e in
    let tests = played_all (note_passes c.args.rate (instruments_of s)) s.counts parts s.notes l.p l.n e in
    walk_ends c.args.rate s _ (sym tests ∙ l.invariant.2) (largest l.end _ _ l.invariant.1 ends)
