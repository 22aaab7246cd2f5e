-- Laws of opening, cutting and closing a loop over the columns: which outcome each has, and which columns it leaves. Assumes nothing.
use mathlib.Core.Path.{◌≡◌, refl, sym, ap, ap₂, ◌∙◌}
use mathlib.Core.List.{List, [], ◌∷◌}
use mathlib.Core.Option.{Option, none, some}
use Prim.Native.Nat.{ℕ, zero, suc, ◌+◌, ◌-◌, ◌*◌, ◌/◌, ◌≤◌, ◌<◌}
use native.Mathlib.Nat.{le-div_iff_mul-le, div-lt_iff_lt-mul}
use native.Mathlib.Numerals.{add-one}
use native.Mathlib.Omega.{arith}
use lib.ListN.{length, take, get_or, set, length-set}
use lib.Seq.{length-take-le, take-take, get_or-set_same, get_or-set_other}
use lib.Ieee.{Float}
use borrow.Author.Tests.{le-leb, lt-leb, lt-ltb, le-ltb}
use Rattle.sheet.specs.Capacities.{loops_most, notes_most}
use Rattle.sheet.specs.Refusals.{going, refused, ◌>>=◌, ◌>>◌, refuse◌on◌unless◌, refuse◌on◌without◌}
use Rattle.sheet.specs.declared.note.Note.{Note}
use Rattle.loops.specs.Loops.{Loop, played, played_count, innermost, counted, cut_of, last_count, times_of}
use Rattle.loops.specs.Again.{laid_again}
use Rattle.loops.proofs.KeptCounts.{counted_none, counted_some}
use Rattle.loops.proofs.Passes.{played_is, counted_is, played_past, counted_past}
use Rattle.loops.proofs.Repeats.{laid_length}
use Rattle.part.specs.declared.state.State.{State}
use Rattle.part.specs.Body.{Progress, Book, with_notes, opened, cut_here, closed}
use Rattle.columns.specs.Columns.{notes_in}
use Rattle.part.specs.Columns.{loops_in, progress_of, Room, Deep, Becomes, refused_at}
use Rattle.columns.proofs.Columns.{notes_front}
use Rattle.part.proofs.Columns.{notes_count, loops_count, refused_becomes, going_becomes, with_counts}
use Rattle.part.proofs.Played.{notes_repeated}

-- ---- the column of the loops

loops_same : (n : ℕ) (ls ks : List ℕ) → ((j : ℕ) → j < 2 * n → get_or ls j 0 ≡ get_or ks j 0) → loops_in n ls ≡ loops_in n ks
unfolding loops_in
loops_same zero ls ks h = refl
loops_same (suc n) ls ks h =
    ap₂ (λ (l : Loop) (r : List Loop). l ∷ r)
    (ap₂ (λ (a b : ℕ). record { from = a; cut = cut_of b }) (h (2 * n) (omega arith)) (h (2 * n + 1) (omega arith)))
    (loops_same n ls ks (λ j l. h j (omega (arith, l))))

-- the innermost of them
top_of : ℕ → List ℕ → Loop
top_of n ls = record { from = get_or ls (2 * n) 0; cut = cut_of (get_or ls (2 * n + 1) 0) }

loops_top : (n : ℕ) (ls : List ℕ) → 0 < n → loops_in n ls ≡ top_of (n - 1) ls ∷ loops_in (n - 1) ls
unfolding loops_in top_of
loops_top zero ls h = absurd (omega arith)
loops_top (suc n) ls h = let e : n ≡ suc n - 1 = omega arith in ap (λ (k : ℕ). top_of k ls ∷ loops_in k ls) e

loops_none : (n : ℕ) (ls : List ℕ) → n ≡ 0 → loops_in n ls ≡ []
unfolding loops_in
loops_none n ls e = rw e

-- ---- the definitions' cases

module _ (book : Book) (line : ℕ) (p : Progress) where
  opened_full : loops_most ≤ length p.part.loops → opened book line p ≡ refused 21 line
  unfolding opened ◌>>◌ refuse◌on◌unless◌
  opened_full h = rw (le-ltb (length p.part.loops) 8 h)

  opened_room : length p.part.loops < loops_most
      → opened book line p ≡ going (with_notes p.part.notes (record { from = length p.part.notes; cut = none } ∷ p.part.loops) p)
  unfolding opened ◌>>◌ refuse◌on◌unless◌
  opened_room h = rw (lt-ltb (length p.part.loops) 8 h)

  cut_none : p.part.loops ≡ [] → cut_here book line p ≡ refused 10 line
  unfolding cut_here innermost ◌>>=◌ refuse◌on◌without◌
  cut_none e = rw e

  cut_some : (l : Loop) (ls : List Loop) → p.part.loops ≡ l ∷ ls
      → cut_here book line p ≡ going (with_notes p.part.notes (record { from = l.from; cut = some (length p.part.notes) } ∷ ls) p)
  unfolding cut_here innermost ◌>>=◌ refuse◌on◌without◌
  cut_some l ls e = rw e

-- ---- what the functions leave

module _ (s : State) (fs : List Float) (is ls : List ℕ) (r : Room s fs is) (d : Deep s ls) (book : Book) (line : ℕ) where
  pub open_full : loops_most ≤ s.depth → Becomes (opened book line (progress_of s fs is ls)) (refused_at s 21 line) fs is ls
  open_full h = refused_becomes s fs is ls r d 20 line _ (opened_full book line (progress_of s fs is ls) (omega (arith, loops_count s fs is ls)))

  pub open_room : s.refusal ≡ 0 → s.depth < loops_most
      → Becomes (opened book line (progress_of s fs is ls)) (with_counts s s.count (s.depth + 1)) fs is (set (set ls (2 * s.depth) s.count) (2 * s.depth + 1) 0)
  unfolding progress_of loops_in
  open_room z h =
      let n = s.count in
      let k = s.depth in
      let ms = set ls (2 * k) n in
      let ks = set ms (2 * k + 1) 0 in
      let lm : length ms ≡ length ls = length-set ls (2 * k) n in
      let a : get_or ks (2 * k) 0 ≡ n = get_or-set_other ms (2 * k + 1) (2 * k) 0 0 (λ e. omega arith) ∙ get_or-set_same ls (2 * k) n 0 (omega (arith, d.places)) in
      let b : get_or ks (2 * k + 1) 0 ≡ 0 = get_or-set_same ms (2 * k + 1) 0 0 (omega (arith, d.places)) in
      let rest : loops_in k ks ≡ loops_in k ls =
      loops_same k ks ls (λ j l. get_or-set_other ms (2 * k + 1) j 0 0 (λ e. omega (arith, l)) ∙ get_or-set_other ls (2 * k) j n 0 (λ e. omega (arith, l))) in
      let e : loops_in (k + 1) ks ≡ record { from = length (progress_of s fs is ls).part.notes; cut = none } ∷ loops_in k ls =
      ap (λ (j : ℕ). loops_in j ks) (add-one k)
      ∙ ap₂ (λ (l : Loop) (q : List Loop). l ∷ q)
      (ap₂ (λ (x y : ℕ). record { from = x; cut = cut_of y }) (a ∙ sym (notes_count s fs is ls r)) b)
      rest in
      going_becomes (with_counts s n (k + 1)) fs is ks
      (record { octave = r.octave; few = r.few; floats = r.floats; instruments = r.instruments })
      (record { few = omega arith; places = length-set ms (2 * k + 1) 0 ∙ lm ∙ d.places })
      z _
      (opened_room book line (progress_of s fs is ls) (omega (arith, loops_count s fs is ls))
      ∙ ap (λ (q : List Loop). going (with_notes (notes_in fs (take n is)) q (progress_of s fs is ls))) (sym e))

  pub cut_outside : s.depth ≡ 0 → Becomes (cut_here book line (progress_of s fs is ls)) (refused_at s 10 line) fs is ls
  unfolding progress_of
  cut_outside h = refused_becomes s fs is ls r d 9 line _ (cut_none book line (progress_of s fs is ls) (loops_none s.depth ls h))

  pub cut_inside : s.refusal ≡ 0 → 0 < s.depth
      → Becomes (cut_here book line (progress_of s fs is ls)) s fs is (set ls (2 * (s.depth - 1) + 1) (s.count + 1))
  unfolding progress_of top_of cut_of
  cut_inside z h =
      let k = s.depth - 1 in
      let n = s.count in
      let ks = set ls (2 * k + 1) (n + 1) in
      let a : get_or ks (2 * k) 0 ≡ get_or ls (2 * k) 0 = get_or-set_other ls (2 * k + 1) (2 * k) (n + 1) 0 (λ e. omega arith) in
      let b : get_or ks (2 * k + 1) 0 ≡ suc (length (progress_of s fs is ls).part.notes) =
      get_or-set_same ls (2 * k + 1) (n + 1) 0 (omega (arith, d.places)) ∙ add-one n ∙ ap suc (sym (notes_count s fs is ls r)) in
      let rest : loops_in k ks ≡ loops_in k ls =
      loops_same k ks ls (λ j l. get_or-set_other ls (2 * k + 1) j (n + 1) 0 (λ e. omega (arith, l))) in
      let e : loops_in s.depth ks ≡ record { from = get_or ls (2 * k) 0; cut = some (length (progress_of s fs is ls).part.notes) } ∷ loops_in k ls =
      loops_top s.depth ks h
      ∙ ap₂ (λ (l : Loop) (q : List Loop). l ∷ q) (ap₂ (λ (x y : ℕ). record { from = x; cut = cut_of y }) a b) rest in
      going_becomes s fs is ks
      r
      (record { few = d.few; places = length-set ls (2 * k + 1) (n + 1) ∙ d.places })
      z _
      (cut_some book line (progress_of s fs is ls) (top_of k ls) (loops_in k ls) (loops_top s.depth ls h)
      ∙ ap (λ (q : List Loop). going (with_notes (notes_in fs (take n is)) q (progress_of s fs is ls))) (sym e))

-- ---- closing

module _ (book : Book) (line : ℕ) (t : Option ℕ) (p : Progress) where
  closed_none : p.part.loops ≡ [] → closed book line t p ≡ refused 10 line
  unfolding closed innermost ◌>>=◌ refuse◌on◌without◌
  closed_none e = rw e

  module _ (l : Loop) (ls : List Loop) (e : p.part.loops ≡ l ∷ ls) where
    closed_uncounted : counted t ≡ none → closed book line t p ≡ refused 11 line
    unfolding closed innermost ◌>>=◌ refuse◌on◌without◌
    closed_uncounted f = rw (e, f)

    closed_full : (n : ℕ) → counted t ≡ some n → notes_most < p.others + played_count n l p.part.notes → closed book line t p ≡ refused 21 line
    unfolding closed innermost ◌>>=◌ ◌>>◌ refuse◌on◌without◌ refuse◌on◌unless◌
    closed_full n f h = rw (e, f, lt-leb (p.others + played_count n l p.part.notes) 2048 h)

    closed_room : (n : ℕ) → counted t ≡ some n → p.others + played_count n l p.part.notes ≤ notes_most
        → closed book line t p ≡ going (with_notes (played n l p.part.notes) ls p)
    unfolding closed innermost ◌>>=◌ ◌>>◌ refuse◌on◌without◌ refuse◌on◌unless◌
    closed_room n f h = rw (e, f, le-leb (p.others + played_count n l p.part.notes) 2048 h)

-- the test that the code makes: so many further bodies of n - start notes fit
pub room_fits : (others start n further last : ℕ) → start < n → last ≤ n - start → others + n ≤ notes_most → further ≤ (2048 - others - start - last) / (n - start)
    → others + (start + further * (n - start) + last) ≤ notes_most
room_fits others start n further last filled few all h =
    let fits = (le-div_iff_mul-le (let q : 0 < n - start = omega arith in q)).0 h in
    omega arith

module _ (s : State) (fs : List Float) (is ls : List ℕ) (r : Room s fs is) (d : Deep s ls) (book : Book) (line : ℕ) (t : Option ℕ) where
  pub close_outside : s.depth ≡ 0 → Becomes (closed book line t (progress_of s fs is ls)) (refused_at s 10 line) fs is ls
  unfolding progress_of
  close_outside h = refused_becomes s fs is ls r d 9 line _ (closed_none book line t (progress_of s fs is ls) (loops_none s.depth ls h))

  module _ (deep : 0 < s.depth) where
    pub close_uncounted : times_of t ≡ 0 → Becomes (closed book line t (progress_of s fs is ls)) (refused_at s 11 line) fs is ls
    unfolding progress_of
    close_uncounted h =
        refused_becomes s fs is ls r d 10 line _
        (closed_uncounted book line t (progress_of s fs is ls) (top_of (s.depth - 1) ls) (loops_in (s.depth - 1) ls) (loops_top s.depth ls deep) (counted_none t h))

    -- a loop without notes
    pub close_past : s.refusal ≡ 0 → 0 < times_of t → s.count ≤ get_or ls (2 * (s.depth - 1)) 0
        → Becomes (closed book line t (progress_of s fs is ls)) (with_counts s s.count (s.depth - 1)) fs is ls
    unfolding progress_of top_of
    close_past z h past =
        let k = s.depth - 1 in
        let ns = notes_in fs (take s.count is) in
        let c = notes_count s fs is ls r in
        let empty : length ns ≤ get_or ls (2 * k) 0 = omega arith in
        let few : s.others + played_count (times_of t) (top_of k ls) ns ≤ 2048 = omega (arith, counted_past (times_of t) (top_of k ls) ns empty, r.few) in
        going_becomes (with_counts s s.count k) fs is ls
        (record { octave = r.octave; few = r.few; floats = r.floats; instruments = r.instruments })
        (record { few = omega (arith, d.few); places = d.places })
        z _
        (closed_room book line t (progress_of s fs is ls) (top_of k ls) (loops_in k ls) (loops_top s.depth ls deep) (times_of t) (counted_some t h) few
        ∙ ap (λ (ms : List Note). going (with_notes ms (loops_in k ls) (progress_of s fs is ls))) (played_past (times_of t) (top_of k ls) ns empty))

    -- a loop with notes
    module _ (passes last : ℕ) (is-passes : passes ≡ times_of t) (once : 0 < passes) (inside : get_or ls (2 * (s.depth - 1)) 0 < s.count)
        (is_last : last ≡ last_count (get_or ls (2 * (s.depth - 1)) 0) (cut_of (get_or ls (2 * (s.depth - 1) + 1) 0)) (s.count - get_or ls (2 * (s.depth - 1)) 0))
        (last-few : last ≤ s.count - get_or ls (2 * (s.depth - 1)) 0) where
      -- how many notes the loop then gives
      close_count : played_count passes (top_of (s.depth - 1) ls) (progress_of s fs is ls).part.notes
          ≡ get_or ls (2 * (s.depth - 1)) 0 + (passes - 1) * (s.count - get_or ls (2 * (s.depth - 1)) 0) + last
      unfolding top_of
      close_count =
          let k = s.depth - 1 in
          let start = get_or ls (2 * k) 0 in
          let ns = (progress_of s fs is ls).part.notes in
          let c : length ns ≡ s.count = notes_count s fs is ls r in
          counted_is passes (top_of k ls) ns (omega arith) last (is_last ∙ ap (λ (j : ℕ). last_count start (cut_of (get_or ls (2 * k + 1) 0)) (j - start)) (sym c)) (omega arith)
          ∙ ap (λ (j : ℕ). start + (passes - 1) * (j - start) + last) c

      counted_passes : counted t ≡ some passes
      counted_passes = counted_some t (omega arith) ∙ ap some (sym is-passes)

      pub close_full : (2048 - s.others - get_or ls (2 * (s.depth - 1)) 0 - last) / (s.count - get_or ls (2 * (s.depth - 1)) 0) < passes - 1
          → Becomes (closed book line t (progress_of s fs is ls)) (refused_at s 21 line) fs is ls
      unfolding progress_of
      close_full h =
          let k = s.depth - 1 in
          let over = (div-lt_iff_lt-mul (let q : 0 < s.count - get_or ls (2 * k) 0 = omega arith in q)).0 h in
          refused_becomes s fs is ls r d 20 line _
          (closed_full book line t (progress_of s fs is ls) (top_of k ls) (loops_in k ls) (loops_top s.depth ls deep) passes counted_passes
          (omega (arith, close_count, r.few)))

      pub close_room : passes - 1 ≤ (2048 - s.others - get_or ls (2 * (s.depth - 1)) 0 - last) / (s.count - get_or ls (2 * (s.depth - 1)) 0)
          → s.refusal ≡ 0 → (end : ℕ) → end ≡ get_or ls (2 * (s.depth - 1)) 0 + (passes - 1) * (s.count - get_or ls (2 * (s.depth - 1)) 0) + last
          → (gs : List Float) (js : List ℕ) → gs ≡ laid_again (3 * get_or ls (2 * (s.depth - 1)) 0) (3 * s.count) (3 * end) fs
          → js ≡ laid_again (get_or ls (2 * (s.depth - 1)) 0) s.count end is
          → Becomes (closed book line t (progress_of s fs is ls)) (with_counts s end (s.depth - 1)) gs js ls
      unfolding progress_of top_of
      close_room h z end e gs js eg ej =
          let k = s.depth - 1 in
          let n = s.count in
          let start = get_or ls (2 * k) 0 in
          let ns = notes_in fs (take n is) in
          let c : length ns ≡ n = notes_count s fs is ls r in
          let fits = room_fits s.others start n (passes - 1) last inside last-few r.few h in
          let floats : 3 * n ≤ length fs = omega (arith, r.floats, r.few) in
          let instruments : n ≤ length is = omega (arith, r.instruments, r.few) in
          let floats_fit : 3 * end ≤ length fs = omega (arith, r.floats) in
          let instruments_fit : end ≤ length is = omega (arith, r.instruments) in
          let lg : length gs ≡ length fs = ap length eg ∙ laid_length fs (3 * start) (3 * n) (3 * end) (omega arith) floats floats_fit in
          let lj : length js ≡ length is = ap length ej ∙ laid_length is start n end inside instruments instruments_fit in
          let notes : notes_in gs (take end js) ≡ played passes (top_of k ls) ns =
          notes_front gs (take (3 * end) gs) (take end js) (3 * end)
          (omega (arith, length-take-le end js (omega arith))) (sym (take-take (3 * end) (3 * end) gs (omega arith)))
          ∙ ap₂ (λ (hs : List Float) (ks : List ℕ). notes_in (take (3 * end) hs) (take end ks)) eg ej
          ∙ notes_repeated fs is start n end (passes - 1) last inside floats instruments floats_fit instruments_fit last-few e
          ∙ sym
          (played_is passes (top_of k ls) ns (omega arith) last (is_last ∙ ap (λ (j : ℕ). last_count start (cut_of (get_or ls (2 * k + 1) 0)) (j - start)) (sym c))) in
          going_becomes (with_counts s end k) gs js ls
          (record { octave = r.octave; few = omega arith; floats = lg ∙ r.floats; instruments = lj ∙ r.instruments })
          (record { few = omega (arith, d.few); places = d.places })
          z _
          (closed_room book line t (progress_of s fs is ls) (top_of k ls) (loops_in k ls) (loops_top s.depth ls deep) passes counted_passes
          (omega (arith, close_count))
          ∙ ap (λ (ms : List Note). going (with_notes ms (loops_in k ls) (progress_of s fs is ls))) (sym notes))
