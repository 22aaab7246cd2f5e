-- What is handed on is the file: the header at its start, and behind it the bytes of the samples that a window writes. Assumes nothing.
use mathlib.Core.Path.{◌≡◌, refl, sym, ap, ◌∙◌}
use mathlib.Core.Bool.{Bool, true, false}
use mathlib.Core.List.{List, ◌++◌, append_assoc}
use Prim.Native.Nat.{ℕ, ◌+◌, ◌-◌, ◌*◌, ◌≤◌, ◌<◌, min}
use native.Mathlib.Omega.{arith}
use lib.Dec.{leb}
use lib.ListN.{length, take, drop, length-take}
use lib.Seq.{take_at, drop_at, drop-append-add}
use borrow.Author.Tests.{leb-true, leb-false}
use Rattle.form.specs.declared.size.Size.{Size}
use Rattle.form.specs.Form.{header}
use Rattle.form.specs.Sample.{bytes_of}
use Rattle.wave.specs.File.{put, room_at}
use Rattle.form.proofs.Published.{header_length}
use Rattle.wave.proofs.Writes.{put_none, put_length, bytes_append}
use Rattle.sheet.specs.declared.sheet.Sheet.{Sheet}
use Rattle.sheet.specs.Parts.{length_of}
use Rattle.sheet.specs.Refusals.{refused}
use Rattle.handed.specs.Check.{is_sheet}
use Rattle.evaluator.specs.Samples.{samples_from}
use Rattle.mixing.specs.Placing.{placed}
use Rattle.evaluator.proofs.Samples.{samples_append}
use Rattle.windows.specs.Written.{written_in}
use Rattle.engine.specs.Files.{header_of, header_in}
use Rattle.engine.specs.Stream.{file_of, count_in, next_of, next_in}
use Rattle.windows.proofs.Answers.{written_28, written_refused}
use Rattle.engine.proofs.Answers.{header_28, header_30, header_taken, header_refused, header_written_law}
use Rattle.windows.proofs.Windows.{sample_bytes_law, fitting, written_is}
use Rattle.engine.proofs.Files.{written_count}
use Rattle.engine.proofs.Counted.{next_first, next_samples, next_room}

-- samples that exist are inside the sheet, and past its end none do
inside : (room samples i m : ℕ) → m ≡ min room (samples - i) → i ≤ samples → i + m ≤ samples
inside room samples i m e l = omega arith

beyond : (room samples i m : ℕ) → m ≡ min room (samples - i) → samples < i → m ≡ 0
beyond room samples i m e l = omega arith

least_room : (room n f l : ℕ) → l ≡ min n f → n ≤ room → 0 + l ≤ room
least_room room n f l e h = omega arith

module _ (size : Size) (rate : ℕ) (s : Sheet) where
  abbrev samples : ℕ
  samples = length_of rate s

  abbrev front : List ℕ
  front = header size rate samples

  abbrev behind : List ℕ
  behind = bytes_of (samples_from (placed rate s) 0 samples)

  pub file_passing : is_sheet rate s ≡ true → file_of size rate s ≡ front ++ behind
  unfolding file_of
  file_passing e = rw (e, file_of)

  front_length : length front ≡ 44
  front_length = header_length size rate samples

  module _ (buffer : List ℕ) where
    -- nothing is handed on
    pub none_handed : (at : ℕ) → next_of rate s (length buffer) at ≡ 0 → buffer ≡ next_in size rate s buffer at
    unfolding next_in
    none_handed at z = sym (ap (λ (n : ℕ). put buffer 0 (take n (drop at (file_of size rate s)))) z ∙ put_none buffer 0)

    -- ---- the header

    header_unsent : (n l : ℕ) → header_of rate s (length buffer) ≡ refused n l → header_in size rate s buffer ≡ next_in size rate s buffer 0
    unfolding count_in
    header_unsent n l e = header_refused rate s buffer size n l e ∙ none_handed 0 (next_first rate s buffer ∙ ap count_in e)

    header_sent : is_sheet rate s ≡ true → 44 ≤ length buffer → header_in size rate s buffer ≡ next_in size rate s buffer 0
    unfolding count_in next_in
    header_sent e l =
        let t = header_taken rate s buffer e l in
        header_written_law rate s buffer size 44 t
        ∙ sym
        (ap (λ (n : ℕ). put buffer 0 (take n (drop 0 (file_of size rate s)))) (next_first rate s buffer ∙ ap count_in t)
        ∙ ap (λ (f : List ℕ). put buffer 0 (take 44 f)) (file_passing e)
        ∙ ap (put buffer 0) (take_at front behind 44 front_length))

    pub header_next : header_in size rate s buffer ≡ next_in size rate s buffer 0
    header_next = go (is_sheet rate s) refl (leb 44 (length buffer)) refl
      where
        go : (b : Bool) → is_sheet rate s ≡ b → (d : Bool) → leb 44 (length buffer) ≡ d → header_in size rate s buffer ≡ next_in size rate s buffer 0
        go true e true t = header_sent e (leb-true 44 (length buffer) t)
        go true e false t = header_unsent 30 0 (header_30 rate s buffer e (leb-false 44 (length buffer) t))
        go false e d t = header_unsent 28 0 (header_28 rate s buffer e)

    -- ---- samples

    module _ (at i : ℕ) (h : at ≡ 44 + 2 * i) where
      -- the bytes of m samples from i on, in the file
      file_samples : (m : ℕ) → is_sheet rate s ≡ true → i + m ≤ samples → take (2 * m) (drop at (file_of size rate s)) ≡ bytes_of (samples_from (placed rate s) i m)
      file_samples m e l =
          let ps = placed rate s in
          let past = bytes_of (samples_from ps 0 i) in
          let here = bytes_of (samples_from ps (0 + i) m) in
          let rest = bytes_of (samples_from ps (0 + (i + m)) (samples - (i + m))) in
          let cut : behind ≡ past ++ (here ++ rest) =
          ap (λ (k : ℕ). bytes_of (samples_from ps 0 k)) (let z : samples ≡ i + m + (samples - (i + m)) = omega arith in z)
          ∙ ap bytes_of (samples_append ps 0 (i + m) (samples - (i + m)))
          ∙ bytes_append (samples_from ps 0 (i + m)) (samples_from ps (0 + (i + m)) (samples - (i + m)))
          ∙ ap (λ (b : List ℕ). b ++ rest) (ap bytes_of (samples_append ps 0 i m) ∙ bytes_append (samples_from ps 0 i) (samples_from ps (0 + i) m))
          ∙ append_assoc past here rest in
          ap (λ (f : List ℕ). take (2 * m) (drop at f)) (file_passing e)
          ∙ ap (λ (k : ℕ). take (2 * m) (drop k (front ++ behind))) (let z : at ≡ length front + 2 * i = omega (arith, front_length) in z)
          ∙ ap (take (2 * m)) (drop-append-add front behind (2 * i))
          ∙ ap (λ (b : List ℕ). take (2 * m) (drop (2 * i) b)) cut
          ∙ ap (take (2 * m)) (drop_at past (here ++ rest) (2 * i) (sample_bytes_law ps 0 i))
          ∙ take_at here rest (2 * m) (sample_bytes_law ps (0 + i) m)
          ∙ ap (λ (k : ℕ). bytes_of (samples_from ps k m)) (let z : 0 + i ≡ i = omega arith in z)

      nothing_past : (m : ℕ) → m ≡ 0 → take (2 * m) (drop at (file_of size rate s)) ≡ bytes_of (samples_from (placed rate s) i m)
      unfolding samples_from bytes_of
      nothing_past m z = ap (λ (k : ℕ). take (2 * k) (drop at (file_of size rate s))) z ∙ sym (ap (λ (k : ℕ). bytes_of (samples_from (placed rate s) i k)) z)

      samples_sent : is_sheet rate s ≡ true → written_in rate s i buffer 0 ≡ next_in size rate s buffer at
      unfolding next_in
      samples_sent e =
          let ps = placed rate s in
          let m = fitting rate s e i buffer 0 in
          let n : next_of rate s (length buffer) at ≡ 2 * m = next_samples rate s buffer at i h ∙ ap (λ (k : ℕ). 2 * k) (written_count rate s e i buffer 0) in
          written_is rate s e i buffer 0
          ∙ sym (ap (λ (k : ℕ). put buffer 0 (take k (drop at (file_of size rate s)))) n ∙ ap (put buffer 0) (go m refl (leb i samples) refl))
        where
          go : (m : ℕ) → m ≡ fitting rate s e i buffer 0 → (b : Bool) → leb i samples ≡ b → take (2 * m) (drop at (file_of size rate s)) ≡ bytes_of (samples_from (placed rate s) i m)
          go m z true t = file_samples m e (inside (room_at (length buffer) 0) samples i m z (leb-true i samples t))
          go m z false t = nothing_past m (beyond (room_at (length buffer) 0) samples i m z (leb-false i samples t))

      pub samples_next_law : written_in rate s i buffer 0 ≡ next_in size rate s buffer at
      unfolding count_in
      samples_next_law = go (is_sheet rate s) refl
        where
          go : (b : Bool) → is_sheet rate s ≡ b → written_in rate s i buffer 0 ≡ next_in size rate s buffer at
          go true e = samples_sent e
          go false e =
              let w = written_28 rate s buffer i 0 e in
              written_refused rate s buffer i 0 28 0 w ∙ none_handed at (next_samples rate s buffer at i h ∙ ap (λ o. 2 * count_in o) w)

    -- and the buffer keeps its length
    pub next_length : (at : ℕ) → length (next_in size rate s buffer at) ≡ length buffer
    unfolding next_in
    next_length at =
        let n = next_of rate s (length buffer) at in
        let f = drop at (file_of size rate s) in
        put_length buffer 0 (take n f) (least_room (length buffer) n (length f) _ (length-take n f) (next_room rate s buffer at))
